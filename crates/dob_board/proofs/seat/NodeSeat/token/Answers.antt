-- A look at the token's word keeps the rule.
use Rattle.std.proofs.lemmas.Grind.{common_steps}
use Rattle.std.proofs.Common.{arith}
use Rattle.dob_board.proofs.Passing.{meets_asks}
use Rattle.dob_board.proofs.seat.NodeSeat.token.Goals as goal

pub load-word-requires : goal.load-word-requires
load-word-requires c = rw c.deref.ensures (meets_asks c.args.self.now)

pub invariant_of-self : goal.invariant_of-self
invariant_of-self c = grind (arith, common_steps)
