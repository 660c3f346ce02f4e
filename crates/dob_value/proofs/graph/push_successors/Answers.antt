-- Each move's number goes to the end of the list.
use Rattle.dob_value.proofs.Common.{◌++◌, ◌∙◌, ◌∷◌, ◌≤◌, List, [], ap, append-nil, append_assoc, arith, length, subst, sym, ℕ, ClassStandsFor, HasStatus, IsPositionOf, Setup, class_setup}
use Rattle.dob_rank.specs.Families.{IsInClass}
use Rattle.dob_moves.specs.MoveWalks.{IsWalk}
use Rattle.dob_value.proofs.Rows.{class_stands}
use Rattle.dob_value.proofs.Successors.{successors_none, successors_more, successors_all}
use Rattle.dob_value.proofs.graph.push_successors.Goals as goal
use Rattle.dob_value.proofs.graph.push_successors.Goals.{After-start-status}

pub loop-place-init : goal.loop-place-init
loop-place-init c = (
  [],
  sym (append-nil c.args.successors.now.items),
  successors_none c.args.classes.now.family.profile (ClassStandsFor c.args.classes.now.family) (class_setup c.args.classes.now.family c.args.number) _,
)

-- the walk is over the moves of the class's representative
walk_is : (c : After-start-status) → IsPositionOf c.args.classes.now.family (class_setup c.args.classes.now.family c.args.number)
    × IsWalk c.args.classes.now.family.profile (class_setup c.args.classes.now.family c.args.number) c.start-status.new.self
walk_is c =
    let same = c.representative_of-position.ensures.setup in (
      subst (λ (s : Setup). IsPositionOf c.args.classes.now.family s) same c.representative_of-position.ensures.represents.0.0,
      subst (λ (s : Setup). IsWalk c.args.classes.now.family.profile s c.start-status.new.self) same c.start-status.ensures.walk,
    )

pub class_after-outcome-requires-clause-walk : goal.class_after-outcome-requires-clause-walk
class_after-outcome-requires-clause-walk c =
    let is = walk_is (goal.at.class_after-outcome-requires-clause-walk c).After-start-status in
    (class_setup c.args.classes.now.family c.args.number, is.0, is.1)

pub loop-place-preserved : goal.loop-place-preserved
loop-place-preserved c =
    let family = c.args.classes.now.family in
    let p = class_setup family c.args.number in
    let is = walk_is (goal.at.loop-place-preserved c).After-start-status in
    let numbers : List ℕ = c.loop-place.invariant.0 in
    let number = c.class_after-outcome.result in
    let step = c.class_after-outcome.ensures.class p is.0 is.1 in (
      numbers ++ number ∷ [],
      c.in_ok-push.ensures.items ∙ ap (λ xs. xs ++ number ∷ []) c.loop-place.invariant.1
          ∙ append_assoc c.args.successors.now.items numbers (number ∷ []),
      successors_more family.profile (ClassStandsFor family) p c.start-status.new.self.moves.items c.loop-place.place numbers step.0 number step.2
          (step.1, step.3.goes)
          (λ q by. class_stands family q number c.class_after-outcome.ensures.bound
          (subst (λ (s : Setup). IsInClass family s number) (step.3.alone q by) step.4)) c.loop-place.invariant.2,
    )

pub returns : goal.returns
returns c =
    let family = c.args.classes.now.family in
    let p = class_setup family c.args.number in
    let is = walk_is (goal.at.returns c).After-start-status in
    let legal = c.start-status.new.self.moves.items in
    let all : length legal ≤ c.loop-place.place = omega (arith, c.len-place-end.ensures, c.loop-place-test.false, c.loop-place.auto.place-end) in (
      c.loop-place.invariant.0,
      c.loop-place.invariant.1,
      record {
        status = subst (λ (s : Setup). HasStatus family.profile s c.start-status.result) c.representative_of-position.ensures.setup c.start-status.ensures.status;
        successors =
            successors_all family.profile (ClassStandsFor family) p legal c.loop-place.place c.loop-place.invariant.0 all
            is.1.moves c.loop-place.invariant.2;
      },
    )
