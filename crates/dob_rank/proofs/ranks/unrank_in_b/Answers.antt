-- The spot of the number is one of the block, and the position there has the rank.
use Rattle.dob_rank.proofs.Common.{family_of, B, IsPresentIn}
use Rattle.dob_rank.proofs.Positions.Blocks.{HasDigits-numbers}
use Rattle.dob_rank.proofs.Positions.Blocks.{AreFewOnBoard-digits}
use Rattle.dob_rank.proofs.Positions.Found.{run_in_bases, local_in_bases}
use Rattle.dob_rank.proofs.ProfileB.Unranks.{number_small, spot_within, ranked_in_block}
use Rattle.dob_rank.proofs.ranks.unrank_in_b.Goals as goal
use Rattle.dob_rank.proofs.ranks.unrank_in_b.Goals.{After-spot_in_b-spot}

pub choices_in-requires : goal.choices_in-requires
choices_in-requires c =
    AreFewOnBoard-digits c.args.set _ (HasDigits-numbers c.args.set _ _ c.find_block-block.ensures.block c.numbers_in-on_board.ensures)

pub spot_in_b-spot-requires-clause-few : goal.spot_in_b-spot-requires-clause-few
spot_in_b-spot-requires-clause-few c =
    AreFewOnBoard-digits c.args.set _ (HasDigits-numbers c.args.set _ _ c.find_block-block.ensures.block c.numbers_in-on_board.ensures)

pub spot_in_b-spot-requires-clause-small : goal.spot_in_b-spot-requires-clause-small
spot_in_b-spot-requires-clause-small c =
    number_small c.args.set _ c.find_block-block.result.1 c.args.rank c.find_block-block.ensures.number c.requires

pub position_by-requires-clause-on_board : goal.position_by-requires-clause-on_board
position_by-requires-clause-on_board c = HasDigits-numbers c.args.set _ _ c.find_block-block.ensures.block c.numbers_in-on_board.ensures

spot : (c : After-spot_in_b-spot) → IsPresentIn (family_of c.args.set B) c.find_block-block.result.0 c.find_block-block.result.1
    c.spot_in_b-spot.result.run c.spot_in_b-spot.result.local
spot c = spot_within c.args.set c.find_block-block.result.0 c.find_block-block.result.1 c.args.rank _ _ _ c.find_block-block.ensures.block
    c.numbers_in-on_board.ensures c.find_block-block.ensures.number c.find_block-block.ensures.within c.spot_in_b-spot.ensures

pub position_by-requires-clause-run : goal.position_by-requires-clause-run
position_by-requires-clause-run c =
    run_in_bases c.args.set c.find_block-block.result.0 _ _ c.numbers_in-on_board.ensures
    (spot (goal.at.position_by-requires-clause-run c).After-spot_in_b-spot).run_below

pub position_by-requires-clause-local : goal.position_by-requires-clause-local
position_by-requires-clause-local c =
    local_in_bases c.args.set c.find_block-block.result.0 _ _ c.numbers_in-on_board.ensures
    (spot (goal.at.position_by-requires-clause-local c).After-spot_in_b-spot).local_below

pub returns : goal.returns
returns c =
    ranked_in_block c.args.set c.find_block-block.result.0 c.find_block-block.result.1 c.args.rank _ _ _ _ c.find_block-block.ensures.block
    c.numbers_in-on_board.ensures (spot (goal.at.returns c).After-spot_in_b-spot) c.find_block-block.ensures.number c.position_by.ensures
