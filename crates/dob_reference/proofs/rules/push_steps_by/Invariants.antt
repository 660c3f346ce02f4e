-- The moves by the steps so far are appended.
use Rattle.std.proofs.Common.{take, ◌++◌, ◌≡◌}
use Rattle.std.specs.List.{filter_map}
use Rattle.dob_moves.specs.Walks.{step_by}
use Rattle.dob_moves.specs.declared.first_moves.Aim.TheVariants.{Elsewhere}
use Rattle.dob_reference.proofs.rules.push_steps_by.Given as goal

abbrev pub invariant-loop-step : goal.invariant-loop-step
invariant-loop-step l =
    l.moves.items ≡ l.initial.moves.items ++ filter_map (step_by Elsewhere l.setup l.kind l.from) (take l.step-index l.step-items)
