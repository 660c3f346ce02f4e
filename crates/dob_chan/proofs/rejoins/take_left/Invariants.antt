-- what was taken since the loop began is in its sender's room
use Rattle.crossbeam_queue.specs.Passes.{view, IsSamePass}
use Rattle.dob_chan.proofs.Rejoinings.{IsFilling}
use Rattle.dob_chan.proofs.rejoins.take_left.Given as goal

abbrev pub invariant-loop : goal.invariant-loop
invariant-loop g l = IsSamePass l.initial.pass l.pass × IsFilling (view l.initial.pass) (view l.pass) l.initial.joined.items l.joined.items
