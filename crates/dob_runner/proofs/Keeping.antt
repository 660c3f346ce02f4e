-- What runners keep, through one step and the next, and why they fail.
use Rattle.dob_runner.proofs.Common.{◌∙◌, ◌≡◌, ◌≢◌, ◌⊎◌, Err, None, Ok, Option, Result, Some, arith, inl, inr, refl, subst, sym, ℕ, same_Some, IfErr}
use Rattle.dob_runner.proofs.Common.{MatchResult, Item, Share, Cause, Counts, Held, Memory, HasItemFault, IsUnchanged, outbox_to, IsReason, Node, MovesNothing}
use Rattle.dob_runner.proofs.Common.{Halt, Ended, FailsFor, KeepsEndpoint, IsSpared, GoesOn, HasBroken, HasCutAll, HasFailed, HasRefused, IsReasonFor}
use Rattle.dob_runner.proofs.Common.{IsReasoned, KeepsRunner, StepsBy, no_gate, HasSameWork, HasTurned, Endpoint, Runner}
use Rattle.std.specs.Result.{IsErrAnd}
use Rattle.std.proofs.lemmas.Result.{err_from_is_err_and}
use Rattle.dob_node.specs.Outboxes.{outbox_in}
use Rattle.dob_endpoint.proofs.Keeping.{endpoint_same, endpoint_trans, links_kept, seat_same, still_trans}
use Rattle.dob_runner.specs.Paces.{kept_member}

-- ---- causes

-- one that has failed has a cause
pub some_cause : (failed : Option Cause) (why : Cause) → failed ≡ Some why → failed ≢ None
some_cause failed why is none = absurd (let both = sym is ∙ none in cc)

-- and where its seat didn't find the end, and it failed by an item, nothing is asked of it
pub failed_first : {L : Type 0} (failed : Option Cause) (why : Cause) (halt : Halt) → failed ≡ Some why → halt ≢ Ended → (IsSpared (Some why) → ⊥) →
    (failed ≡ None) ⊎ (halt ≡ Ended) ⊎ IsSpared failed → L
failed_first failed why halt is unended unspared still = grind (arith, some_cause)

-- no item makes a runner fail for another cause, but for lack of memory
pub unspared_reason : (item : Item) (share : Share) (why : Cause) → IsReason item share why → (why ≡ Memory → ⊥) → IsSpared (Some why) → ⊥
unspared_reason item share Memory reason other spared = other refl
unspared_reason item share Held reason other spared = reason
unspared_reason item share Counts reason other spared = reason
unspared_reason item share _ reason other spared = spared

-- ---- the causes of a node and of its runner

-- where the runner hasn't failed its node hasn't
pub node_goes : (of_node failed : Option Cause) → ((why : Cause) → of_node ≡ Some why → failed ≡ Some why) → failed ≡ None → of_node ≡ None
node_goes None failed agrees none = refl
node_goes (Some why) failed agrees none = absurd (let both = sym none ∙ agrees why refl in cc)

-- a runner that noted its node's cause has failed for it
pub noted_agrees : (of_node own : Option Cause) (why : Cause) → of_node ≡ Some why → own ≡ Some why → (other : Cause) → of_node ≡ Some other → own ≡ Some other
noted_agrees of_node own why failed noted other is = noted ∙ sym failed ∙ is

-- a node that hasn't failed agrees with any
pub agrees_going : (of_node failed : Option Cause) → of_node ≡ None → (why : Cause) → of_node ≡ Some why → failed ≡ Some why
agrees_going of_node failed going why is = absurd (let both = sym going ∙ is in cc)

-- a runner whose node has failed, which its seat has said, after a step of its endpoint
pub broken_by : (old new : Runner) (mid : Endpoint) (why : Cause) → KeepsEndpoint old.endpoint mid → MovesNothing old.endpoint.seat mid.seat →
    FailsFor mid new.endpoint new.failed why → new.family ≡ old.family → new.batch_size ≡ old.batch_size → kept_member new.pace ≡ kept_member old.pace →
    IsReasonFor no_gate new why → HasBroken old new why
broken_by old new mid why kept still fails family size pace reason = record {
  failed = record {
    keeps = record { endpoint = endpoint_trans old.endpoint mid new.endpoint kept (links_kept mid new.endpoint fails.keeps.links); family = family; batch_size = size; pace = pace };
    cause = fails.cause;
    stopped = fails.stopped;
  };
  still = still_trans old.endpoint.seat mid.seat new.endpoint.seat kept.seat.node still fails.still;
  reason = reason;
}

pub broken_for : (old new : Runner) (why : Cause) → FailsFor old.endpoint new.endpoint new.failed why → new.family ≡ old.family → new.batch_size ≡ old.batch_size →
    kept_member new.pace ≡ kept_member old.pace → IsReasonFor no_gate new why → HasBroken old new why
broken_for old new why = broken_by old new old.endpoint why (endpoint_same old.endpoint) refl

-- ---- reasons

-- an item of the runner's own that can't be applied
pub own_reason : (runner : Runner) (why : Cause) → HasItemFault runner.node why → IsReasonFor no_gate runner why
own_reason runner Memory has = tt
own_reason runner Held has = absurd has.reason
own_reason runner Counts has = absurd has.reason
own_reason runner _ has = inl has

-- one of another node's
pub refused_reason : (runner : Runner) (why : Cause) → HasRefused runner why → IsReasonFor no_gate runner why
refused_reason runner Memory has = tt
refused_reason runner Held has = absurd has.before.reason
refused_reason runner Counts has = absurd has.before.reason
refused_reason runner _ has = inr has

-- a batch that can't be cut
pub cut_reason : (runner : Runner) (why : Cause) → (why ≡ Counts → HasCutAll runner) → (why ≡ Counts) ⊎ (why ≡ Memory) → IsReasonFor no_gate runner why
cut_reason runner why all (inl counts) = subst (IsReasonFor no_gate runner) (sym counts) (all counts)
cut_reason runner why all (inr memory) = subst (IsReasonFor no_gate runner) (sym memory) tt

pub memory_reason : (No : ℕ → Type 0) (runner : Runner) (why : Cause) → why ≡ Memory → IsReasonFor No runner why
memory_reason No runner why memory = subst (IsReasonFor No runner) (sym memory) tt

-- where no gate says no, any gate may be there
pub reason_with : (No : ℕ → Type 0) (runner : Runner) (why : Cause) → IsReasonFor no_gate runner why → IsReasonFor No runner why
reason_with No runner Held reason = absurd reason
reason_with No runner _ reason = reason

-- and the runner isn't held back
pub reason_unheld : (runner : Runner) (why : Cause) → IsReasonFor no_gate runner why → why ≢ Held
reason_unheld runner why reason held = subst (IsReasonFor no_gate runner) held reason

-- one that hasn't failed needs no reason
pub reasoned_unfailed : (No : ℕ → Type 0) (runner : Runner) → runner.failed ≡ None → IsReasoned No runner
reasoned_unfailed No runner unfailed why failed = absurd (let both = sym unfailed ∙ failed in cc)

pub reasoned_failed : (No : ℕ → Type 0) (runner : Runner) (why : Cause) → runner.failed ≡ Some why → IsReasonFor No runner why → IsReasoned No runner
reasoned_failed No runner why failed reason other is = subst (IsReasonFor No runner) (same_Some why other (sym failed ∙ is)) reason

-- a node that is as it was has the same outboxes
pub outbox_still : (old new : Node) (to : ℕ) → IsUnchanged old new → outbox_to new to ≡ outbox_to old to
outbox_still old new to same = λ q. outbox_in (same.same.0 q) (same.same.2 q) (same.same.1 q) (same.outboxes q) to

-- ---- runners
pub runner_same : (r : Runner) → KeepsRunner r r
runner_same r = record { endpoint = endpoint_same r.endpoint; family = refl; batch_size = refl; pace = refl }

pub runner_trans : (a b c : Runner) → KeepsRunner a b → KeepsRunner b c → KeepsRunner a c
runner_trans a b c one two = record {
  endpoint = endpoint_trans a.endpoint b.endpoint c.endpoint one.endpoint two.endpoint;
  family = two.family ∙ one.family;
  batch_size = two.batch_size ∙ one.batch_size;
  pace = two.pace ∙ one.pace;
}

pub goes_by : {a b : Runner} → KeepsEndpoint a.endpoint b.endpoint → b.family ≡ a.family → b.batch_size ≡ a.batch_size → kept_member b.pace ≡ kept_member a.pace → b.failed ≡ None →
    b.endpoint.seat.stand.halt ≡ a.endpoint.seat.stand.halt → MovesNothing a.endpoint.seat b.endpoint.seat → GoesOn a b
goes_by endpoint family size pace unfailed halt still = grind arith

-- one of which nothing has changed goes on
pub goes_same : (r : Runner) → r.failed ≡ None → GoesOn r r
goes_same r unfailed = goes_by (endpoint_same r.endpoint) refl refl refl unfailed refl refl

pub goes_trans : (a b c : Runner) → GoesOn a b → GoesOn b c → GoesOn a c
goes_trans a b c one two = record {
  keeps = runner_trans a b c one.keeps two.keeps;
  unfailed = two.unfailed;
  halt = two.halt ∙ one.halt;
  still = still_trans a.endpoint.seat b.endpoint.seat c.endpoint.seat one.keeps.endpoint.seat.node one.still two.still;
}

-- a runner of which nothing has changed
pub work_same : (r : Runner) → HasSameWork r r
work_same r = record { node = refl; links = record { seat = seat_same r.endpoint.seat; outlets = refl; inlet = refl } }

pub failed_after : (a b c : Runner) (why : Cause) → KeepsRunner a b → HasFailed b c why → HasFailed a c why
failed_after a b c why kept failed = record { keeps = runner_trans a b c kept failed.keeps; cause = failed.cause; stopped = failed.stopped }

-- what is so of the cause of a failure is so of that failure handed on
on_err : {A : Type 0} (P : Result A Cause → Type 0) (r : Result A Cause) (why : Cause) → IsErrAnd r (λ given. given ≡ why) → P (Err why) → P r
on_err P r why is so = let given = err_from_is_err_and r is in subst P (sym given.1) (subst (λ (w : Cause). P (Err w)) (sym given.2) so)

pub broken_on : {A : Type 0} (Did : Runner → Runner → A → Type 0) (a b c : Runner) (r : Result A Cause) (why : Cause) → IsErrAnd r (λ given. given ≡ why) →
    KeepsRunner a b → MovesNothing a.endpoint.seat b.endpoint.seat → HasBroken b c why → StepsBy Did a c r
broken_on Did a b c r why is kept still broken = on_err (λ s. StepsBy Did a c s) r why is (record {
  failed = failed_after a b c why kept broken.failed;
  still = still_trans a.endpoint.seat b.endpoint.seat c.endpoint.seat kept.endpoint.seat.node still broken.still;
  reason = broken.reason;
})

-- and it isn't that a gate held the runner back
pub unheld_on : {A L : Type 0} (r : Result A Cause) (why : Cause) → IsErrAnd r (λ given. given ≡ why) → why ≢ Held → r ≡ Err Held → L
unheld_on {A} {L} r why is unheld = on_err (λ s. s ≡ Err Held → L) r why is (λ held. absurd (unheld (cc)))

pub turn_failed : (a b c : Runner) (r : Result Halt Cause) (why : Cause) → IsErrAnd r (λ given. given ≡ why) → KeepsRunner a b → HasFailed b c why →
    MatchResult r (HasTurned a c) (HasFailed a c)
turn_failed a b c r why is kept failed = on_err (λ s. MatchResult s (HasTurned a c) (HasFailed a c)) r why is (failed_after a b c why kept failed)

-- and no token was moved before it
pub failed_still : {A : Type 0} (a b c : Runner) (r : Result A Cause) → KeepsRunner a b → MovesNothing a.endpoint.seat b.endpoint.seat →
    MovesNothing b.endpoint.seat c.endpoint.seat → IfErr r (λ _. MovesNothing a.endpoint.seat c.endpoint.seat)
failed_still a b c (Ok x) kept one two = tt
failed_still a b c (Err why) kept one two = still_trans a.endpoint.seat b.endpoint.seat c.endpoint.seat kept.endpoint.seat.node one two

-- a turn keeps the runner's place, whatever its answer
pub turn_keeps : (a b : Runner) (r : Result Halt Cause) → MatchResult r (HasTurned a b) (HasFailed a b) → KeepsRunner a b
turn_keeps a b (Ok halt) turned = turned.keeps
turn_keeps a b (Err why) failed = failed.keeps

-- a failure that is handed on with its reason
pub reason_on : {A : Type 0} (No : ℕ → Type 0) (c : Runner) (r : Result A Cause) (why : Cause) → IsErrAnd r (λ given. given ≡ why) → IsReasonFor no_gate c why →
    IfErr r (IsReasonFor No c)
reason_on No c r why is reason = on_err (λ s. IfErr s (IsReasonFor No c)) r why is (reason_with No c why reason)

-- a runner that has made a turn, or failed in one, has a reason where it failed
pub turn_reasoned : (No : ℕ → Type 0) (a b : Runner) (r : Result Halt Cause) → MatchResult r (HasTurned a b) (HasFailed a b) →
    IfErr r (IsReasonFor No b) → IsReasoned No b
turn_reasoned No a b (Ok halt) turned reason = reasoned_unfailed No b turned.unfailed
turn_reasoned No a b (Err why) failed reason = reasoned_failed No b why failed.cause reason
