use Rattle.std.proofs.lemmas.Grind.{common_steps}
use Rattle.std.proofs.Common.{arith}
use Rattle.dob_text.proofs.draw_boards.draw_position.Goals as goal

pub returns : goal.returns
returns c = grind (arith, common_steps)
