-- The position at the place of the rank has that rank.
use Rattle.dob_rank.proofs.Common.{◌<◌, ◌∙◌, refl, subst, sym, A, family_of, HasBlock}
use Rattle.dob_rank.proofs.Positions.Blocks.{HasDigits-numbers}
use Rattle.dob_rank.proofs.Positions.Blocks.{AreFewOnBoard-digits}
use Rattle.dob_rank.proofs.Positions.Found.{place_in, made_at_place}
use Rattle.dob_rank.proofs.Positions.Numbering.{rank_of_set-block}
use Rattle.dob_rank.proofs.OfFamilies.Present.{size_of-whole, in_whole_block}
use Rattle.dob_rank.proofs.set_ranks.unrank_in_set.Goals as goal

pub find_block-block-requires : goal.find_block-block-requires
find_block-block-requires c = subst (λ n. c.args.rank < n) (sym (size_of-whole (family_of c.args.set A) refl)) c.requires

pub choices_in-choices-requires : goal.choices_in-choices-requires
choices_in-choices-requires c =
    AreFewOnBoard-digits c.args.set _ (HasDigits-numbers c.args.set _ _ c.find_block-block.ensures.block c.numbers_in-on_board.ensures)

pub spot_at-spot-requires-clause-on_board : goal.spot_at-spot-requires-clause-on_board
spot_at-spot-requires-clause-on_board c = HasDigits-numbers c.args.set _ _ c.find_block-block.ensures.block c.numbers_in-on_board.ensures

pub spot_at-spot-requires-clause-place : goal.spot_at-spot-requires-clause-place
spot_at-spot-requires-clause-place c = place_in c.args.set _ _ _ (in_whole_block c.args.set _ _ c.args.rank c.find_block-block.ensures.number c.find_block-block.ensures.within).below c.numbers_in-on_board.ensures

pub position_by-requires-clause-on_board : goal.position_by-requires-clause-on_board
position_by-requires-clause-on_board c = HasDigits-numbers c.args.set _ _ c.find_block-block.ensures.block c.numbers_in-on_board.ensures

found : (c : goal.After-position_by) → HasBlock c.args.set c.find_block-block.result.0 c.find_block-block.result.1 c.position_by.result.setup
found c =
    made_at_place c.args.set c.find_block-block.result.0 c.find_block-block.result.1 _ _ _ c.position_by.result.setup c.find_block-block.ensures.block
    c.numbers_in-on_board.ensures c.spot_at-spot.ensures.place c.position_by.ensures

pub returns-clause-position : goal.returns-clause-position
returns-clause-position c = c.position_by.ensures.position

pub returns-clause-number : goal.returns-clause-number
returns-clause-number c = rank_of_set-block c.args.set _ _ c.position_by.result.setup (found c) ∙ (in_whole_block c.args.set _ _ c.args.rank c.find_block-block.ensures.number c.find_block-block.ensures.within).whole
