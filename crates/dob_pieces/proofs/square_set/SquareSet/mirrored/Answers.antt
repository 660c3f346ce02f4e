-- column a two up, column b, column c two down
use Rattle.dob_pieces.proofs.ImageMasks.{IsMask-mirrored, image_small}
use Rattle.dob_pieces.proofs.square_set.SquareSet.mirrored.Goals as goal

pub invariant_of-result : goal.invariant_of-result
invariant_of-result c = image_small c.self.inside.bits c.self.invariant

pub returns : goal.returns
returns c = λ test is. IsMask-mirrored test c.self.inside.bits (rw c.self.view_is is)
