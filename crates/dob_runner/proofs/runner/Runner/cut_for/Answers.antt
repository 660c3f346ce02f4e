-- A slot is filled just where it is empty and there is something to send. A node that cuts a batch was black and had cut fewer than 2^40; with the batch in the slot the runner is lawful.
use Rattle.dob_runner.proofs.Common.{◌^◌, ◌∙◌, ◌≡◌, ◌≤◌, Err, None, Ok, Option, Result, Some, ap, arith, false, inl, refl, subst, sym, true, both_ways, IfSome}
use Rattle.dob_runner.proofs.Common.{some_at, BatchView, OutboxView, Cause, HasCut, outbox_to, token_moves_of, SeatState, IsToFill}
use Rattle.dob_runner.proofs.Keeping.{goes_by, broken_for, cut_reason, outbox_still, node_goes, agrees_going, noted_agrees, some_cause}
use Rattle.dob_endpoint.proofs.Keeping.{own_still}
use Rattle.dob_runner.proofs.Lawfuls.{busy_black, cut_one, unchanged_failed}
use Rattle.dob_runner.proofs.Sending.{outlet_at, slot_there, uncut, fills_of, cut_more}
use Rattle.dob_runner.proofs.runner.Runner.cut_for.Goals as goal
use Rattle.dob_runner.proofs.runner.Runner.cut_for.Goals.{After-has_to_send, In-Some}

cut_none : (cut : Option BatchView) (batch : BatchView) → cut ≡ Some batch → (let given : Result (Option BatchView) Cause = Ok cut in given ≡ Ok None) → ⊥
cut_none cut batch some none = absurd (cc)

cut_counts : (cut : Option BatchView) (why : Cause) → (let given : Result (Option BatchView) Cause = Ok cut in given ≡ Err why) → ⊥
cut_counts cut why is = absurd (cc)

abbrev err_of : Cause → Result (Option BatchView) Cause
err_of why = Err why

pub cut_for-requires-clause-going : goal.cut_for-requires-clause-going
cut_for-requires-clause-going c = (let r = c.args.self.now in node_goes r.node.failed r.failed r.agrees c.requires.unfailed)

pub invariant_of-self : goal.invariant_of-self
invariant_of-self c =
    let r = c.args.self.now in
    let fails = c.fail_for.ensures.fails in
    record {
      going = λ running. absurd (fails.stopped running);
      own = λ found. some_cause c.fail_for.new.failed c.in-Err.why fails.cause;
      agrees = noted_agrees _ _ c.in-Err.why c.in-Err.ensures.keeps.failed fails.cause;
      lawful = λ _. unchanged_failed r.family r.batch_size r.node c.cut_for.new.self r.endpoint c.fail_for.new.endpoint (r.lawful (inl c.requires.unfailed))
          c.in-Err.ensures.step.unchanged c.in-Err.ensures.keeps.sound fails.keeps;
    }

-- there was something to send, and the slot was empty
fills : (c : After-has_to_send) → c.has_to_send.result ≡ true → IsToFill c.args.self.now c.args.to c.args.small
fills c has = (c.has_to_send.ensures.0 has, slot_there c.args.self.now.endpoint c.args.to c.index.result.now c.requires.node c.index.ensures (λ s. s ≡ None) (c.is_full.ensures.empty c.if-is_full.false))

pub returns-in-Err : goal.returns-in-Err
returns-in-Err c = rw c.fail_for.ensures.given (broken_for c.args.self.now _ c.in-Err.why c.fail_for.ensures.fails refl refl refl (cut_reason _ c.in-Err.why
    (λ counts. (let still = outbox_still c.args.self.now.node c.cut_for.new.self c.args.to c.in-Err.ensures.step.unchanged in
    let full = c.in-Err.ensures.step.counts.0 (ap (λ (w : Cause). err_of w) counts) in
    record {
      to = c.args.to;
      other = λ same. c.requires.other (same ∙ c.fail_for.ensures.fails.keeps.links.seat.node);
      left = λ none. full.0 (ap (λ (o : OutboxView). o.items) (sym still) ∙ none);
      many = subst (λ (o : OutboxView). 2 ^ 40 ≤ o.next) (sym still) full.1;
    }))
    c.in-Err.ensures.step.why))

-- the batch is cut from the outbox for that node
batch_cut : (c : In-Some) → HasCut c.args.to c.args.self.now.batch_size c.in-Some.batch c.args.self.now.node c.cut_for.new.self
batch_cut c = subst (λ given. IfSome given (λ (b : BatchView). HasCut c.args.to c.args.self.now.batch_size b c.args.self.now.node c.cut_for.new.self))
    c.in-Some.is c.in-Ok.ensures.step.cut

pub post-requires-clause-few : goal.post-requires-clause-few
post-requires-clause-few c =
    let r = c.args.self.now in
    let law = r.lawful (inl c.requires.unfailed) in
    let spot = some_at r.endpoint.outlets.items c.args.to (omega (arith, r.endpoint.outlets_len, c.requires.node)) in
    let few : 2 ^ 40 ≤ (outbox_to r.node c.args.to).next → ⊥ =
    λ many. cut_counts c.in-Ok.cut _ (c.in-Ok.ensures.step.counts.1 (λ empty. cut_none c.in-Ok.cut c.in-Some.batch c.in-Some.is (c.in-Ok.ensures.step.none.1 empty), many)) in
    omega (arith, few, r.endpoint.posted c.args.to spot.0 spot.1, (law.sends c.args.to spot.0 c.requires.other spot.1).cut)

pub post-requires-clause-own : goal.post-requires-clause-own
post-requires-clause-own c =
    let r = c.args.self.now in
    let cut = batch_cut (goal.at.post-requires-clause-own c).In-Some in
    cut.of.2 ∙ (r.lawful (inl c.requires.unfailed)).of.1

pub invariant_of-self-2 : goal.invariant_of-self-2
invariant_of-self-2 c =
    let r = c.args.self.now in
    let law = r.lawful (inl c.requires.unfailed) in
    let cut = batch_cut (goal.at.invariant_of-self-2 c).In-Some in
    let was_black = busy_black r.family r.batch_size r.node r.endpoint law
    (λ idle. cut_none c.in-Ok.cut c.in-Some.batch c.in-Some.is (c.in-Ok.ensures.step.none.1 (idle.sent c.args.to))) in
    record {
      going = λ _. c.requires.unfailed;
      own = λ found. r.own (own_still r.endpoint.seat c.post.new.self.seat
          (ap (λ (s : SeatState). s.halt) c.post.ensures.counted) c.post.ensures.keeps.seat.node found);
      agrees = agrees_going c.cut_for.new.self.failed _ c.in-Ok.ensures.keeps.going;
      lawful = λ _. cut_one r.family r.batch_size c.args.to c.in-Some.batch r.node c.cut_for.new.self r.endpoint c.post.new.self law c.requires.other cut c.in-Ok.ensures.keeps.sound
          c.post.ensures.keeps.seat.node c.post.ensures.keeps.seat.nodes (ap (λ (s : SeatState). s.black) c.post.ensures.counted ∙ was_black) c.post.ensures.offered
          c.post.ensures.inlet;
    }

pub returns-in_default : goal.returns-in_default
returns-in_default c = fills_of c.args.to c.args.small c.args.self.now _ (Ok false) (fills (goal.at.returns-in_default c).After-has_to_send c.if-not-has_to_send.false)
    (let empty = c.in-Ok.ensures.step.none.0 (ap Ok c.in_default.is) in (
      uncut c.args.to c.args.self.now _ c.requires.unfailed (c.in-Ok.ensures.step.nothing (ap Ok c.in_default.is)) refl refl refl refl,
      (λ is. empty, λ is. refl),
    ))

pub returns : goal.returns
returns c =
    let r = c.args.self.now in
    let cut = batch_cut (goal.at.returns c).In-Some in
    fills_of c.args.to c.args.small r _ (Ok true) (fills (goal.at.returns c).After-has_to_send c.if-not-has_to_send.false)
    (cut_more c.args.to r.batch_size c.in-Some.batch r _
    (goes_by c.post.ensures.keeps refl refl refl c.requires.unfailed
    (ap (λ (s : SeatState). s.halt) c.post.ensures.counted)
    (ap (token_moves_of r.endpoint.seat.node) c.post.ensures.event.is_next ∙ c.post.ensures.event.alone))
    cut c.post.ensures.offered c.post.ensures.inlet
    (λ empty. cut_none c.in-Ok.cut c.in-Some.batch c.in-Some.is (c.in-Ok.ensures.step.none.1 empty)))

pub returns-then-is_full : goal.returns-then-is_full
returns-then-is_full c = (
  uncut c.args.to c.args.self.now c.args.self.now c.requires.unfailed refl refl refl refl refl,
  (
    λ never. absurd (cc),
    λ fill. absurd (c.is_full.ensures.full c.if-is_full.true
        (fill.1 c.index.result.now (outlet_at c.args.self.now.endpoint c.args.to c.index.result.now c.requires.node c.index.ensures))),
  ),
)

pub returns-then-not-has_to_send : goal.returns-then-not-has_to_send
returns-then-not-has_to_send c = (
  uncut c.args.to c.args.self.now c.args.self.now c.requires.unfailed refl refl refl refl refl,
  (λ never. absurd (cc), λ fill. absurd (both_ways _ c.if-not-has_to_send.true (c.has_to_send.ensures.1 fill.0))),
)

pub post-requires-clause-empty : goal.post-requires-clause-empty
post-requires-clause-empty c = slot_there c.args.self.now.endpoint c.args.to c.index.result.now c.requires.node c.index.ensures (λ s. s ≡ None)
    (c.is_full.ensures.empty c.if-is_full.false)
