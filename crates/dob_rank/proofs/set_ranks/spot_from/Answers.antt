-- The position's digits are below their bases; their numbers are its block and its spot.
use Rattle.dob_rank.proofs.Common.{refl, block_bases}
use Rattle.dob_rank.proofs.Positions.Found.{HasDigits-same, HasDigits-board, HasDigits-place, block_found, run_is_of, local_is_of}
use Rattle.dob_rank.proofs.set_ranks.spot_from.Goals as goal

pub number_of-block-requires-clause-below : goal.number_of-block-requires-clause-below
number_of-block-requires-clause-below c =
    let are = c.requires.1 in
    HasDigits-same _ (block_bases c.args.set) _ _ c.block_bases_of.ensures refl (HasDigits-board c.args.set c.requires.0 _ are.position are.numbers_are)

pub spot_from-requires-clause-on_board : goal.spot_from-requires-clause-on_board
spot_from-requires-clause-on_board c = let are = c.requires.1 in HasDigits-board c.args.set c.requires.0 _ are.position are.numbers_are

pub spot_from-requires-clause-digits : goal.spot_from-requires-clause-digits
spot_from-requires-clause-digits c =
    let are = c.requires.1 in HasDigits-place c.args.set c.requires.0 _ _ _ are.position are.numbers_are refl are.digits_are

pub returns-clause-block : goal.returns-clause-block
returns-clause-block c = λ setup are. block_found c.args.set setup _ _ _ c.block_bases_of.ensures are.numbers_are c.number_of-block.ensures

pub returns-clause-run : goal.returns-clause-run
returns-clause-run c = λ setup are. run_is_of c.args.set setup _ _ _ are.numbers_are are.digits_are c.spot_from.ensures.run

pub returns-clause-local : goal.returns-clause-local
returns-clause-local c = λ setup are. local_is_of setup _ _ _ are.numbers_are are.digits_are c.spot_from.ensures.local
