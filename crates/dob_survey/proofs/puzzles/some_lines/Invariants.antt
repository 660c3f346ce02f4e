-- The lines of the puzzles so far.
use Rattle.dob_survey.proofs.Common.{◌≡◌, flat_map, string_bytes, take, line_of_puzzle}
use Rattle.dob_survey.proofs.puzzles.some_lines.Given as goal

abbrev pub invariant-loop-puzzle : goal.invariant-loop-puzzle
invariant-loop-puzzle l = string_bytes l.lines ≡ flat_map (line_of_puzzle l.table.family l.is_numbered) (take l.puzzle-index l.puzzles)
