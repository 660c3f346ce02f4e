-- row 1 nine up, row 2 three up, row 3 three down, row 4 nine down
use Rattle.dob_pieces.proofs.ImageMasks.{IsMask-flipped, flipped_small}
use Rattle.dob_pieces.proofs.square_set.SquareSet.flipped.Goals as goal

pub invariant_of-result : goal.invariant_of-result
invariant_of-result c = flipped_small c.self.inside.bits c.self.invariant

pub returns : goal.returns
returns c = λ test is. IsMask-flipped test c.self.inside.bits (rw c.self.view_is is)
