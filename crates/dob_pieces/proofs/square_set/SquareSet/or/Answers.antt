-- bit by bit
use Rattle.std.proofs.lemmas.Nat.{or_lt}
use Rattle.dob_pieces.proofs.MaskBits.{IsMask-or}
use Rattle.dob_pieces.proofs.square_set.SquareSet.or.Goals as goal

pub invariant_of-result : goal.invariant_of-result
invariant_of-result c = or_lt 12 _ _ c.self.invariant c.other.invariant

pub returns : goal.returns
returns c = λ f g is are. rw (c.self.view_is, c.other.view_is) (IsMask-or f g _ _ is are)
