-- The move stands at that place.
use Rattle.std.proofs.Common.{inl}
use Rattle.dobutsu_web.proofs.steps.step_at.Goals as goal

pub returns-in-Some : goal.returns-in-Some
returns-in-Some c = inl (c.step_of_move.ensures c.args.place c.in-Some.ensures)
