-- Each puzzle gone over is one of the list, and its line comes to those before.
use Rattle.dob_survey.proofs.Common.{string_bytes, line_of_puzzle}
use Rattle.dob_survey.proofs.Puzzling.{is_listed, one_line_more}
use Rattle.dob_survey.proofs.puzzles.some_lines.Goals as goal

pub push_puzzle-requires : goal.push_puzzle-requires
push_puzzle-requires c =
    c.requires c.puzzle-item.result
    (is_listed c.args.puzzles.now c.loop-puzzle.puzzle-index c.puzzle-item.result c.loop-puzzle-test.true c.puzzle-item.is)

pub loop-puzzle-preserved : goal.loop-puzzle-preserved
loop-puzzle-preserved c =
    one_line_more c.args.puzzles.now c.loop-puzzle.puzzle-index c.puzzle-item.result c.loop-puzzle-test.true c.puzzle-item.is
    (line_of_puzzle c.args.table.now.family c.args.is_numbered) (string_bytes c.loop-puzzle.lines) (string_bytes c.push_puzzle.new.lines) c.loop-puzzle.invariant
    c.in_ok-push_puzzle.ensures
