-- What the parts of a turn do, by what their steps do, how many batches go over each link, and turns one after another.
use Rattle.dob_runner.proofs.Common.{◌+◌, ◌-◌, ◌<◌, ◌↔◌, ◌∙◌, ◌≡◌, ◌≤◌, ◌⊎◌, Bool, Err, IsTrue, List, MatchOption, None, Ok, Option, Result, Some, ap, arith}
use Rattle.dob_runner.proofs.Common.{false, inl, inr, length, not, refl, subst, sym, true, ℕ, both_ways, cases_Bool, cases_eq, cases_lt, same_Some}
use Rattle.dob_runner.proofs.Common.{slice_get_within, IfErr, MatchResult, slice_get, some_at, Cause, Memory, NodeView, IsExpanded, HistoryView, Halt, taken_by}
use Rattle.dob_runner.proofs.Common.{KeepsEndpoint, offered, GateIsAsked, GoesOn, HasFailed, IsReasonFor, IsReasoned, KeepsRunner, StepsBy, says_no, AddsFew}
use Rattle.dob_runner.proofs.Common.{ExpandsOne, ExpandsSome, IsAbove, IsHeldUp, IsLevel, ExpandsUpTo, RunnerTakesBatch, SendsAll, SendsSmall, Works}
use Rattle.dob_runner.proofs.Common.{GateIsTold, HasSameWork, HasTurned, Endpoint, Runner, Inlet, Outlet}
use Rattle.dob_history.specs.Levels.{level_of}
use Rattle.dob_node.specs.Levels.{HasLevel}
use Rattle.dob_runner.proofs.Keeping.{goes_trans, reasoned_failed, reasoned_unfailed}
use Rattle.dob_runner.specs.declared.turn_loop.Until.{Until}
use Rattle.dob_runner.specs.declared.turn_loop.Until.TheVariants.{Turns, Halted}
use Rattle.dob_runner.specs.TurnLoop.{IsThrough, EndsBy, IsLetOn}

-- ---- answers
pub same_answer : (did other : Bool) → (let given : Result Bool Cause = Ok did in given ≡ Ok other) → did ≡ other
same_answer did other is = cc

-- ---- settlements

-- no fewer are expanded than before
more_expanded : (old new : Runner) (did : Bool) (first : ℕ) → ExpandsOne old new did → first < old.node.expanded → first < new.node.expanded
more_expanded old new did first one low = grind arith

-- none is above the level where none is expanded
pub within_none : (limit : ℕ) (node : NodeView) → ExpandsUpTo limit node node
within_none limit node = λ number s from below there. absurd (omega (arith, from, below))

-- nor where the next isn't
within_more : (limit : ℕ) (old mid new : NodeView) → ExpandsUpTo limit old mid → (IsAbove limit mid → ⊥) → IsExpanded mid new → ExpandsUpTo limit old new
within_more limit old mid new so_far low step = λ number s from below there.
    let here : slice_get mid.history.settlements number ≡ Some s = ap (λ (h : HistoryView). slice_get h.settlements number) (sym step.same.4) ∙ there in
    elim (cases_eq number mid.expanded) [
      | inl is ↦ elim (cases_lt limit (level_of s)) [
        | inl above ↦ absurd (low (level_of s, (s, subst (λ (k : ℕ). slice_get mid.history.settlements k ≡ Some s) is here, refl), above))
        | inr fine ↦ fine
      ]
      | inr other ↦ so_far number s from (omega (arith, below, step.expanded, other)) here
    ]

pub within_one : (limit : ℕ) (old : NodeView) (mid new : Runner) (did above : Bool) → ExpandsUpTo limit old mid.node → above ≡ false →
    (IsAbove limit mid.node → above ≡ true) → ExpandsOne mid new did → ExpandsUpTo limit old new.node
within_one limit old mid new did above so_far low is_above one = elim (cases_Bool did) [
  | inl is ↦ within_more limit old mid.node new.node so_far (λ it. both_ways above low (is_above it)) (one.expanded is)
  | inr none ↦ subst (λ (n : NodeView). ExpandsUpTo limit old n) (sym (one.nothing none)) so_far
]

-- none is expanded, for some reason
pub none_expanded : (limit : ℕ) (old new : Runner) → GoesOn old new → new.endpoint ≡ old.endpoint → new.node ≡ old.node →
    IsHeldUp old ⊎ IsAbove limit old.node ⊎ (old.node.expanded ≡ length old.node.history.settlements) → ExpandsSome limit old new false
none_expanded limit old new goes endpoint same why = grind (arith, within_none)

-- some are, where nothing held the runner up, the next wasn't above the level and there was one
pub some_expanded : (limit : ℕ) (old new : Runner) (held above any : Bool) → GoesOn old new → new.endpoint ≡ old.endpoint → old.node.expanded < new.node.expanded →
    ExpandsUpTo limit old.node new.node → held ≡ false → (IsHeldUp old → held ≡ true) → above ≡ false → (IsAbove limit old.node → above ≡ true) →
    any ≡ true → (old.node.expanded ≡ length old.node.history.settlements → any ≡ false) → ExpandsSome limit old new true
some_expanded limit old new held above any goes endpoint more within free up low is_above is none_left = record {
  goes = goes;
  endpoint = endpoint;
  done = (
    λ never. absurd (cc),
    λ why. elim why [
      | inl holds ↦ absurd (both_ways held free (up holds))
      | inr (inl over) ↦ absurd (both_ways above low (is_above over))
      | inr (inr all) ↦ absurd (both_ways any (none_left all) is)
    ],
  );
  expanded = λ did. more;
  within = within;
  nothing = λ never. absurd (cc);
}

-- and another
pub expanded_more : (limit : ℕ) (old mid new : Runner) (more above : Bool) → ExpandsSome limit old mid true → ExpandsOne mid new more → above ≡ false →
    (IsAbove limit mid.node → above ≡ true) → ExpandsSome limit old new true
expanded_more limit old mid new more above so_far one low is_above = record {
  goes = goes_trans old mid new so_far.goes one.goes;
  endpoint = one.endpoint ∙ so_far.endpoint;
  done = so_far.done;
  expanded = λ did. more_expanded mid new more old.node.expanded one (so_far.expanded did);
  within = within_one limit old.node mid new more above so_far.within low is_above one;
  nothing = λ never. absurd (cc);
}

-- ---- levels

-- a node is on one level
level_once : (node : NodeView) (a b : ℕ) → HasLevel node a → HasLevel node b → a ≡ b
level_once node a b here there = here.2 ∙ ap level_of (same_Some here.0 there.0 (sym here.1 ∙ there.1)) ∙ sym there.2

-- and on none where all are expanded
level_none : (node : NodeView) (level : ℕ) → node.expanded ≡ length node.history.settlements → HasLevel node level → ⊥
level_none node level all here = (let within = slice_get_within node.history.settlements node.expanded here.0 here.1 in absurd (omega (arith, all, within)))

pub above_is : (node : NodeView) (level limit : ℕ) (above : Bool) → HasLevel node level → (above ≡ true → limit < level) → (limit < level → above ≡ true) →
    IsTrue above ↔ IsAbove limit node
above_is node level limit above here if_so so = (
  λ yes. (level, here, if_so yes),
  λ it. so (subst (λ (k : ℕ). limit < k) (level_once node it.0 level it.1 here) it.2),
)

pub above_none : (node : NodeView) (limit : ℕ) → node.expanded ≡ length node.history.settlements → IsTrue false ↔ IsAbove limit node
above_none node limit all = (λ never. absurd (cc), λ it. absurd (level_none node it.0 all it.1))

-- ---- which batches are due

-- nothing is left to expand
pub small_idle : (took : Bool) (limit : ℕ) (before node : NodeView) → node.expanded ≡ length node.history.settlements →
    IsTrue (not took) ↔ SendsSmall took limit before node
small_idle false limit before node all = (λ _. inl (refl, all), λ _. refl)
small_idle true limit before node all = (
  λ never. absurd (cc),
  λ it. elim it [
    | inl idle ↦ absurd (let no = idle.0 in cc)
    | inr (inl above) ↦ absurd (level_none node above.0 all above.1)
    | inr (inr risen) ↦ absurd (level_none node risen.2.0 all risen.2.1)
  ],
)

-- what is left is above the limit
pub small_above : (took : Bool) (limit level : ℕ) (before node : NodeView) → HasLevel node level → limit < level → IsTrue true ↔ SendsSmall took limit before node
small_above took limit level before node here above = (λ _. inr (inl (level, here, above)), λ _. refl)

-- of a node that is on a level
small_level : (took : Bool) (limit level : ℕ) (before node : NodeView) → HasLevel node level → SendsSmall took limit before node →
    (limit < level) ⊎ ((was : ℕ) × HasLevel before was × (was < level))
small_level took limit level before node here it = elim it [
  | inl idle ↦ absurd (level_none node level idle.1 here)
  | inr (inl above) ↦ inl (subst (λ (k : ℕ). limit < k) (level_once node above.0 level above.1 here) above.2)
  | inr (inr risen) ↦ inr (risen.0, risen.1, subst (λ (k : ℕ). risen.0 < k) (level_once node risen.2.0 level risen.2.1 here) risen.2.2)
]

-- what is left isn't, and the node was on a level or on none
pub small_later : (took small : Bool) (limit level : ℕ) (was : Option ℕ) (before node : NodeView) → HasLevel node level → level ≤ limit → IsLevel before was →
    MatchOption was (small ≡ false) (λ b. IsTrue small ↔ (b < level)) → IsTrue small ↔ SendsSmall took limit before node
small_later took small limit level None before node here low none is = (
  λ yes. absurd (both_ways small is yes),
  λ it. elim (small_level took limit level before node here it) [
    | inl above ↦ absurd (omega (arith, above, low))
    | inr risen ↦ absurd (level_none before risen.0 none risen.1)
  ],
)
small_later took small limit level (Some was) before node here low then is = (
  λ yes. inr (inr (was, then, (level, here, is.0 yes))),
  λ it. elim (small_level took limit level before node here it) [
    | inl above ↦ absurd (omega (arith, above, low))
    | inr risen ↦ is.1 (subst (λ (k : ℕ). k < level) (level_once before risen.0 was risen.1 then) risen.2)
  ],
)

-- ---- what a gate is told

-- what was told of the work is told of the turn, since its look and its rest expand nothing
pub told_of : (Told : ℕ → ℕ → Type 0) (old seen worked new : Runner) → HasSameWork old seen →
    Told seen.endpoint.seat.node (worked.node.expanded - seen.node.expanded) → new.node ≡ worked.node → GateIsTold Told old new
told_of Told old seen worked new same told node = grind arith

-- ---- how many batches go over each link in so many turns

-- and one more in one turn more
pub adds_more : (count : ℕ) (a b c : Endpoint) → KeepsEndpoint a b → AddsFew count a b → AddsFew 1 b c → AddsFew (count + 1) a c
adds_more count a b c kept few one = record {
  out = λ j before after was is.
      let there = some_at b.outlets.items j (omega (arith, slice_get_within a.outlets.items j before was, a.outlets_len, b.outlets_len, kept.seat.nodes)) in
      omega (arith, few.out j before there.0 was there.1, one.out j there.0 after there.1 is);
  into = omega (arith, few.into, one.into);
}

-- one where batches were taken, and then others were sent
pub adds_one : (a b d e : Runner) (small took sent : Bool) → RunnerTakesBatch a b took → d.endpoint ≡ b.endpoint → SendsAll small d e sent → AddsFew 1 a.endpoint e.endpoint
adds_one a b d e small took sent takes same sends = record {
  out = λ j before after was is.
      let there : slice_get d.endpoint.outlets.items j ≡ Some before =
      ap (λ (m : Endpoint). slice_get m.outlets.items j) same ∙ ap (λ (l : List Outlet). slice_get l j) takes.outlets ∙ was in
      let low : j < d.endpoint.seat.nodes = omega (arith, slice_get_within d.endpoint.outlets.items j before there, d.endpoint.outlets_len) in
      elim (cases_eq j d.endpoint.seat.node) [
        | inl itself ↦
            let still : slice_get e.endpoint.outlets.items j ≡ slice_get d.endpoint.outlets.items j =
            subst (λ (k : ℕ). slice_get e.endpoint.outlets.items k ≡ slice_get d.endpoint.outlets.items k) (sym itself) sends.itself in
            let alike : before ≡ after = same_Some before after (sym there ∙ sym still ∙ is) in
            omega (arith, ap (λ (o : Outlet). length (offered o)) alike)
        | inr other ↦ (sends.sent j low other before after there is).1.few
      ];
  into = omega (
    arith,
    takes.taken.few,
    ap (λ (m : Endpoint). length (taken_by m.inlet.end)) same,
    ap (λ (i : Inlet). length (taken_by i.end)) sends.inlet,
  );
}

-- a turn's work is a step of the runner
pub works_go : (a b : Runner) (r : Result Bool Cause) → StepsBy Works a b r → MatchResult r (λ _. GoesOn a b) (HasFailed a b)
works_go a b (Ok did) works = works.goes
works_go a b (Err why) broken = broken.failed

-- and so is a turn that may be held back
pub turn_goes : (a b : Runner) (r : Result Bool Cause) → MatchResult r (Works a b) (HasFailed a b) → MatchResult r (λ _. GoesOn a b) (HasFailed a b)
turn_goes a b (Ok did) works = works.goes
turn_goes a b (Err why) failed = failed

-- where no turn failed
pub unfailed_few : (count : ℕ) (a b : Runner) (why : Cause) → b.failed ≡ Some why → b.failed ≡ None → AddsFew count a.endpoint b.endpoint
unfailed_few count a b why failed unfailed = absurd (let both = sym failed ∙ unfailed in cc)

-- ---- turns one after another: what each keeps, and what a runner is when it has ended

-- a runner that has failed is through with its turns, whatever they were
pub through : (until : Until) (old new : Runner) (why : Cause) → HasFailed old new why → IsThrough until old new
through (Turns count) old new why failed = λ unfailed. unfailed_few count old new why failed.cause unfailed
through Halted old new why failed = failed.stopped

-- and need not have been let on
let_failed : (Says : ℕ → Bool → Type 0) (until : Until) (old new : Runner) (why : Cause) → HasFailed old new why → IsLetOn Says until old new
let_failed Says (Turns count) old new why failed = tt
let_failed Says Halted old new why failed = λ going unfailed. absurd (let both = sym failed.cause ∙ unfailed in cc)

-- where it makes a turn and doesn't fail the gate lets it on
pub let_by_turn : (Says : ℕ → Bool → Type 0) (a b : Runner) (r : Result Halt Cause) → MatchResult r (HasTurned a b) (HasFailed a b) →
    GateIsAsked Says a.endpoint.seat.node r → b.failed ≡ None → Says b.endpoint.seat.node true
let_by_turn Says a b (Ok halt) turned asked unfailed = elim (cases_Bool asked.0) [
  | inl said ↦ subst (λ (p : ℕ × Bool). Says p.0 p.1) (λ i. (sym turned.keeps.endpoint.seat.node i, said i)) asked.1
  | inr none ↦ absurd (let held = asked.2.0 none in cc)
]
let_by_turn Says a b (Err why) failed asked unfailed = absurd (let both = sym failed.cause ∙ unfailed in cc)

-- one that failed for lack of memory has ended
pub ended_without_memory : (Says : ℕ → Bool → Type 0) (until : Until) (old new : Runner) → HasFailed old new Memory → EndsBy Says until old new
ended_without_memory Says until old new failed = (
  (failed.keeps, through until old new Memory failed, reasoned_failed (says_no Says) new Memory failed.cause tt),
  let_failed Says until old new Memory failed,
)

-- a step of a runner, whether it fails or not, keeps the runner where it was
pub steps_keep : {A : Type 0} (a b : Runner) (r : Result A Cause) → MatchResult r (λ _. GoesOn a b) (HasFailed a b) → KeepsRunner a b
steps_keep a b (Ok x) goes = goes.keeps
steps_keep a b (Err why) failed = failed.keeps

pub steps_reasoned : {A : Type 0} (No : ℕ → Type 0) (a b : Runner) (r : Result A Cause) → MatchResult r (λ _. GoesOn a b) (HasFailed a b) →
    IfErr r (IsReasonFor No b) → IsReasoned No b
steps_reasoned No a b (Ok x) goes reason = reasoned_unfailed No b goes.unfailed
steps_reasoned No a b (Err why) failed reason = reasoned_failed No b why failed.cause reason
