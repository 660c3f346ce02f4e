-- bit by bit
use Rattle.dob_pieces.proofs.MaskBits.{IsMask-without}
use Rattle.dob_pieces.proofs.square_set.SquareSet.but_not.Goals as goal

pub returns : goal.returns
returns c = λ f g is are. rw (c.self.view_is, c.other.view_is) (IsMask-without f g _ _ is are)
