-- Three digits are the text of the set.
use Rattle.std.proofs.Common.{arith}
use Rattle.std.proofs.lemmas.Grind.{common_steps}
use Rattle.dob_pieces.proofs.piece_set.PieceSet.read.Goals as goal

pub returns-in-48-to-50-clause-ok : goal.returns-in-48-to-50-clause-ok
returns-in-48-to-50-clause-ok c = grind (arith, common_steps)
