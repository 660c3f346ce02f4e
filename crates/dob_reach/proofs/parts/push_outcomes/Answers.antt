-- Each move's class goes to the end of the list, where it isn't marked.
use Rattle.dob_reach.proofs.Common.{◌++◌, ◌≤◌, ◌∙◌, ◌∷◌, HasStatus, IsInClass, List, RepresentsClass, Open, Setup, [], ap, append-nil, append_assoc, arith, length}
use Rattle.dob_reach.proofs.Common.{subst, successors_all, successors_more, successors_none, sym, ℕ}
use Rattle.dob_moves.proofs.Cases.{one_status}
use Rattle.dob_moves.specs.MoveWalks.{IsWalk}
use Rattle.dob_rank.specs.Families.{class_setup}
use Rattle.dob_reach.proofs.Stepping.{StandsFor, expanded_class, sifted_both, sifted_none}
use Rattle.dob_reach.proofs.parts.push_outcomes.Goals as goal
use Rattle.dob_reach.proofs.parts.push_outcomes.Goals.{After-start-status}

pub loop-place-init : goal.loop-place-init
loop-place-init c =
    let p = class_setup c.args.classes.now.family c.args.class in (
      [],
      [],
      sym (append-nil c.args.outcomes.now.items),
      successors_none c.args.classes.now.family.profile (StandsFor c.args.classes.now.family p) p _,
      sifted_none c.args.marks.now.words.items,
    )

-- the walk is over the moves of the class's representative
walk_is : (c : After-start-status) → RepresentsClass c.args.classes.now.family (class_setup c.args.classes.now.family c.args.class) c.args.class
    × IsWalk c.args.classes.now.family.profile (class_setup c.args.classes.now.family c.args.class) c.start-status.new.self
walk_is c =
    let same = c.representative_of-position.ensures.setup in (
      subst (λ (s : Setup). RepresentsClass c.args.classes.now.family s c.args.class) same c.representative_of-position.ensures.represents,
      subst (λ (s : Setup). IsWalk c.args.classes.now.family.profile s c.start-status.new.self) same c.start-status.ensures.walk,
    )

pub class_after-outcome-requires-clause-walk : goal.class_after-outcome-requires-clause-walk
class_after-outcome-requires-clause-walk c =
    let is = walk_is (goal.at.class_after-outcome-requires-clause-walk c).After-start-status in
    (class_setup c.args.classes.now.family c.args.class, is.0.0.0, is.1)

pub push_unmarked-requires : goal.push_unmarked-requires
push_unmarked-requires c = let low = c.class_after-outcome.ensures.bound in omega (arith, low, c.requires.bits)

pub loop-place-preserved : goal.loop-place-preserved
loop-place-preserved c =
    let family = c.args.classes.now.family in
    let p = class_setup family c.args.class in
    let is = walk_is (goal.at.loop-place-preserved c).After-start-status in
    let number = c.class_after-outcome.result in
    let all : List ℕ = c.loop-place.invariant.0 in
    let numbers : List ℕ = c.loop-place.invariant.1 in
    let more : List ℕ = c.in_ok-push_unmarked.ensures.0 in
    let step = c.class_after-outcome.ensures.class p is.0.0.0 is.1 in (
      all ++ number ∷ [],
      numbers ++ more,
      c.in_ok-push_unmarked.ensures.1 ∙ ap (λ xs. xs ++ more) c.loop-place.invariant.2 ∙ append_assoc c.args.outcomes.now.items numbers more,
      successors_more family.profile (StandsFor family p) p c.start-status.new.self.moves.items c.loop-place.place all step.0 number step.2
          (step.1, step.3.goes)
          (λ q by. (step.3.is_open, subst (λ (s : Setup). IsInClass family s number) (step.3.alone q by) step.4)) c.loop-place.invariant.3,
      sifted_both c.loop-place.invariant.4 c.in_ok-push_unmarked.ensures.2,
    )

pub returns : goal.returns
returns c =
    let family = c.args.classes.now.family in
    let p = class_setup family c.args.class in
    let is = walk_is (goal.at.returns c).After-start-status in
    let legal = c.start-status.new.self.moves.items in
    let all : length legal ≤ c.loop-place.place = omega (arith, c.len-place-end.ensures, c.loop-place-test.false, c.loop-place.auto.place-end) in
    let status = subst (λ (s : Setup). HasStatus family.profile s c.start-status.result) c.representative_of-position.ensures.setup c.start-status.ensures.status in (
      c.loop-place.invariant.1,
      c.loop-place.invariant.2,
      expanded_class family c.args.marks.now.words.items p c.args.class c.loop-place.invariant.0 c.loop-place.invariant.1 c.is_open.result
          is.0
          (successors_all family.profile (StandsFor family p) p legal c.loop-place.place c.loop-place.invariant.0
          all is.1.moves c.loop-place.invariant.3)
          c.loop-place.invariant.4
          (λ yes. subst (HasStatus family.profile p) (c.is_open.ensures.0 yes) status)
          (λ has. c.is_open.ensures.1 (one_status family.profile p c.start-status.result Open status has)),
    )
