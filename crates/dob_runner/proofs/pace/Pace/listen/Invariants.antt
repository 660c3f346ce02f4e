-- The pace stays that of its node.
use Rattle.std.proofs.Common.{◌≡◌}
use Rattle.dob_runner.specs.Paces.{member_of}
use Rattle.dob_runner.proofs.pace.Pace.listen.Given as goal

abbrev pub invariant-loop-node : goal.invariant-loop-node
invariant-loop-node l = member_of l.self ≡ member_of l.fn.self
