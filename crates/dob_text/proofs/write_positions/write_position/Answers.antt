-- The board, a space, and the hands.
use Rattle.std.proofs.Common.{arith}
use Rattle.std.proofs.lemmas.Grind.{common_steps}
use Rattle.dob_text.proofs.write_positions.write_position.Goals as goal

pub returns : goal.returns
returns c = grind (arith, common_steps)
