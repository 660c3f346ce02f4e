-- Each successor's value goes to the end of the list.
use Rattle.dob_probe.proofs.Common.{◌++◌, ◌≤◌, ◌∷◌, List, [], arith, length, subst, Setup, Value, GivenBy}
use Rattle.dob_moves.specs.Shown.{setup_on}
use Rattle.dob_value.proofs.Successors.{successors_none, successors_more, successors_all}
use Rattle.dob_probe.proofs.successors.successors_of.Goals as goal

pub loop-place-init : goal.loop-place-init
loop-place-init c = (
  [],
  successors_none c.args.table.now.family.profile (λ (v : Value) q. GivenBy c.args.table.now q v) (setup_on c.args.position.now.board) _,
  c.none-kept.ensures,
)

pub outcome_at-outcome-requires-clause-walk : goal.outcome_at-outcome-requires-clause-walk
outcome_at-outcome-requires-clause-walk c = rw c.family.ensures.family (setup_on c.args.position.now.board, c.requires.member, c.requires.walk)

pub value_on-requires : goal.value_on-requires
value_on-requires c =
    ((rw c.family.ensures.family at c.outcome_at-outcome.ensures.outcome) (setup_on c.args.position.now.board) c.requires.member c.requires.walk).member

pub loop-place-preserved : goal.loop-place-preserved
loop-place-preserved c =
    let Gives : Value → Setup → Type 0 = λ v q. GivenBy c.args.table.now q v in
    let p = setup_on c.args.position.now.board in
    let value = c.value_on.result in
    let values : List Value = c.loop-place.invariant.0 in
    let next = (rw c.family.ensures.family at c.outcome_at-outcome.ensures.outcome) p c.requires.member c.requires.walk in (
      values ++ value ∷ [],
      successors_more c.args.table.now.family.profile Gives p c.args.walk.now.moves.items c.loop-place.place values c.outcome_at-outcome.result.played value
          c.outcome_at-outcome.ensures.played (setup_on c.outcome_at-outcome.result.position.board, next.goes)
          (λ q by. subst (λ (s : Setup). GivenBy c.args.table.now s value) (next.alone q by) c.value_on.ensures) c.loop-place.invariant.1,
      c.with-kept.ensures values c.loop-place.invariant.2,
    )

pub returns : goal.returns
returns c =
    let legal = c.args.walk.now.moves.items in
    let all : length legal ≤ c.loop-place.place = omega (arith, c.len-place-end.ensures, c.loop-place-test.false, c.loop-place.auto.place-end) in (
      c.loop-place.invariant.0,
      successors_all c.args.table.now.family.profile (λ (v : Value) q. GivenBy c.args.table.now q v) (setup_on c.args.position.now.board) legal
          c.loop-place.place c.loop-place.invariant.0 all c.requires.walk.moves c.loop-place.invariant.1,
      c.loop-place.invariant.2,
    )
