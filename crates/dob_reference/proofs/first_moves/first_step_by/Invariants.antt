-- What is left has the same first step as the whole.
use Rattle.std.proofs.Common.{drop, ◌≡◌}
use Rattle.std.specs.List.{filter_map}
use Rattle.dob_moves.specs.Walks.{first, step_by}
use Rattle.dob_reference.proofs.first_moves.first_step_by.Given as goal

abbrev pub invariant-loop-step : goal.invariant-loop-step
invariant-loop-step l =
    first (filter_map (step_by l.aim l.setup l.kind l.from) (drop l.step-index l.step-items))
    ≡ first (filter_map (step_by l.aim l.setup l.kind l.from) l.step-items)
