-- A look at what a node posted keeps the rule.
use Rattle.std.proofs.lemmas.Grind.{common_steps}
use Rattle.std.proofs.Common.{arith}
use Rattle.dob_board.proofs.Allowed.{looks_asks}
use Rattle.dob_board.proofs.seat.NodeSeat.look.Goals as goal

pub load-number-requires : goal.load-number-requires
load-number-requires c = rw (c.deref.ensures, c.posted_index-word.ensures) (looks_asks c.args.self.now c.args.from c.requires)

pub invariant_of-self : goal.invariant_of-self
invariant_of-self c = grind (arith, common_steps)
