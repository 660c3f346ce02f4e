-- bit by bit
use Rattle.dob_pieces.proofs.MaskBits.{IsMask-and}
use Rattle.dob_pieces.proofs.square_set.SquareSet.and.Goals as goal

pub returns : goal.returns
returns c = λ f g is are. rw (c.self.view_is, c.other.view_is) (IsMask-and f g _ _ is are)
