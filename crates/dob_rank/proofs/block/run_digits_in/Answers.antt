-- The hands' digits are small, and so are the lions'.
use Rattle.std.proofs.Common.{arith}
use Rattle.dob_rank.proofs.InRuns.DigitParts.{bases_found, AreRunParts, hands_below, run_parts}
use Rattle.dob_rank.proofs.block.run_digits_in.Goals as goal
use Rattle.dob_rank.proofs.block.run_digits_in.Goals.{After-three_digits-hands}

pub three_digits-hands-requires : goal.three_digits-hands-requires
three_digits-hands-requires c =
    hands_below c.args.set c.args.on_board.now c.bases_in-bases.result c.args.run (bases_found c.args.set c.args.on_board.now _ c.bases_in-bases.ensures)
    c.requires.run

parts : (c : After-three_digits-hands) → AreRunParts c.args.set c.args.on_board.now c.args.run c.three_digits-hands.result
parts c = run_parts c.args.set c.args.on_board.now c.bases_in-bases.result c.three_digits-hands.result c.args.run
    (bases_found c.args.set c.args.on_board.now _ c.bases_in-bases.ensures) c.requires.run c.three_digits-hands.ensures

pub overflow_cast-result : goal.overflow_cast-result
overflow_cast-result c = omega (arith, (parts (goal.at.overflow_cast-result c).After-three_digits-hands).chicks_small)

pub overflow_cast-result-2 : goal.overflow_cast-result-2
overflow_cast-result-2 c = omega (arith, (parts (goal.at.overflow_cast-result-2 c).After-three_digits-hands).elephants_small)

pub overflow_cast-result-3 : goal.overflow_cast-result-3
overflow_cast-result-3 c = omega (arith, (parts (goal.at.overflow_cast-result-3 c).After-three_digits-hands).giraffes_small)

pub returns : goal.returns
returns c = (parts (goal.at.returns c).After-three_digits-hands).digits_are
