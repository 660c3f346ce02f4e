-- The spot is one of the block of those numbers on the board.
use Rattle.dob_rank.proofs.Positions.Blocks.{HasDigits-numbers}
use Rattle.dob_rank.proofs.Positions.Blocks.{AreFewOnBoard-digits}
use Rattle.dob_rank.proofs.Positions.Found.{run_in_bases, local_in_bases, made_in_block}
use Rattle.dob_rank.proofs.set_ranks.position_at.Goals as goal

pub choices_in-requires : goal.choices_in-requires
choices_in-requires c = AreFewOnBoard-digits c.args.set _ (HasDigits-numbers c.args.set c.args.block _ c.requires.block c.numbers_in-on_board.ensures)

pub position_by-requires-clause-on_board : goal.position_by-requires-clause-on_board
position_by-requires-clause-on_board c = HasDigits-numbers c.args.set c.args.block _ c.requires.block c.numbers_in-on_board.ensures

pub position_by-requires-clause-run : goal.position_by-requires-clause-run
position_by-requires-clause-run c = run_in_bases c.args.set c.args.block c.args.spot.run _ c.numbers_in-on_board.ensures c.requires.run

pub position_by-requires-clause-local : goal.position_by-requires-clause-local
position_by-requires-clause-local c = local_in_bases c.args.set c.args.block c.args.spot.local _ c.numbers_in-on_board.ensures c.requires.local

pub returns : goal.returns
returns c = made_in_block c.args.set c.args.block c.args.spot.run c.args.spot.local _ _ c.requires.block c.numbers_in-on_board.ensures c.position_by.ensures
