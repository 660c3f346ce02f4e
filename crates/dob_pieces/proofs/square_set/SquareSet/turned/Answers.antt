-- the rows of the mirror image, in the other order
use Rattle.dob_pieces.proofs.Common.{mirrored_square}
use Rattle.dob_pieces.proofs.ImageMasks.{IsMask-turned}
use Rattle.dob_pieces.proofs.square_set.SquareSet.turned.Goals as goal

pub returns : goal.returns
returns c = λ test is. IsMask-turned test _ (c.flipped.ensures (λ s. test (mirrored_square s)) (c.mirrored.ensures test is))
