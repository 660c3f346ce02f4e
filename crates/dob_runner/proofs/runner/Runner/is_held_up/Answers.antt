-- None holds the runner up where none of all nodes was found to.
use Rattle.dob_runner.proofs.Common.{arith, inl, inr, subst, both_ways, cases_eq, slice_get_within, HoldsUp}
use Rattle.dob_runner.proofs.runner.Runner.is_held_up.Goals as goal

pub loop-to-preserved : goal.loop-to-preserved
loop-to-preserved c = λ k low held. elim (cases_eq k c.loop-to.to) [
  | inl same ↦ both_ways _ c.if-is_held_up_by.false (c.is_held_up_by.ensures.1 (subst (HoldsUp c.args.self.now) same held))
  | inr other ↦ c.loop-to.invariant k (omega (arith, low, other)) held
]

pub returns : goal.returns
returns c =
    let r = c.args.self.now in (
      λ never. absurd (cc),
      λ held. absurd (c.loop-to.invariant held.0
          (omega (arith, slice_get_within r.endpoint.outlets.items held.0 held.1.outlet held.1.at, r.endpoint.outlets_len, c.get-to-end.ensures.value, c.loop-to-test.false)) held.1),
    )
