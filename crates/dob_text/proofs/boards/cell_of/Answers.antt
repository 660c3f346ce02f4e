-- The enemy's elephant.
use Rattle.std.proofs.Common.{rules}
use Rattle.dob_text.proofs.boards.cell_of.Goals as goal

pub returns-in-101 : goal.returns-in-101
returns-in-101 c = search rules fits 100
