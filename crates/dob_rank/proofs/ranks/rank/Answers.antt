-- A rank is the start of the position's block and its place there, and the same under each set of the position.
use Rattle.dob_rank.proofs.Common.{◌+◌, ◌∙◌, ◌≡◌, ap, arith, refl, sym, block_bases, digits_of, family_of, rank_of, IsPositionOfSet}
use Rattle.dob_rank.proofs.Positions.Numbering.{on_board-block}
use Rattle.dob_rank.proofs.Positions.Sets.{IsPositionOfSet-totals, set_of_position}
use Rattle.dob_rank.proofs.Positions.Found.{block_upto, spot_small}
use Rattle.dob_rank.proofs.InRuns.RunPlaces.{HasSpot, spot_there}
use Rattle.dob_rank.proofs.OfFamilies.Present.{HasRank-of}
use Rattle.dob_rank.proofs.OfFamilies.FamilyRanks.{rank_of-small, rank_by_place}
use Rattle.dob_rank.specs.BoardDigits.{AreNumbersOf}
use Rattle.dob_rank.proofs.Boards.BoardMasks.{numbers_shown, parts_shown}
use Rattle.dob_rank.proofs.ranks.rank.Goals as goal
use Rattle.dob_rank.proofs.ranks.rank.Goals.{After-piece_set_of-set, After-digits_of, After-spot_from-block, After-place_in}

of_own_set : (c : After-piece_set_of-set) → IsPositionOfSet c.piece_set_of-set.result c.args.position.now.setup
of_own_set c =
    let own = c.piece_set_of-set.ensures in
    IsPositionOfSet-totals c.piece_set_of-set.result c.args.position.now.setup c.args.position.now.legal own.chicks own.elephants own.giraffes

numbers : (c : After-digits_of) → IsPositionOfSet c.piece_set_of-set.result c.args.position.now.setup
    → AreNumbersOf c.piece_set_of-set.result c.numbers_in-on_board.result c.digits_of.result c.args.position.now.setup
numbers c is = numbers_shown c.of-board.result _ c.numbers_in-on_board.ensures c.args.position.now.setup c.piece_set_of-set.result _ c.digits_of.ensures is
    c.of-board.ensures

spot : (c : After-spot_from-block) → AreNumbersOf c.piece_set_of-set.result c.numbers_in-on_board.result c.digits_of.result c.args.position.now.setup
    → HasSpot c.piece_set_of-set.result c.args.position.now.setup c.piece_set_of-set.result c.spot_from-block.result.0 c.spot_from-block.result.1.run
    c.spot_from-block.result.1.local
spot c are = spot_there c.piece_set_of-set.result c.args.position.now.setup c.piece_set_of-set.result _ _ _ are.position refl
    (c.spot_from-block.ensures.block c.args.position.now.setup are) (c.spot_from-block.ensures.run c.args.position.now.setup are)
    (c.spot_from-block.ensures.local c.args.position.now.setup are)

pub piece_set_of-set-requires : goal.piece_set_of-set-requires
piece_set_of-set-requires c = c.numbers_in-on_board.ensures c.args.position.now.setup c.of-board.ensures c.args.position.now.legal.squares

pub digits_of-requires : goal.digits_of-requires
digits_of-requires c = (
  c.args.position.now.setup,
  parts_shown c.of-board.result _ c.numbers_in-on_board.ensures c.args.position.now.setup c.args.position.now.legal c.of-board.ensures,
)

pub spot_from-block-requires : goal.spot_from-block-requires
spot_from-block-requires c =
    let at = goal.at.spot_from-block-requires c in (c.args.position.now.setup, numbers at.After-digits_of (of_own_set at.After-piece_set_of-set))

pub block_start-requires : goal.block_start-requires
block_start-requires c =
    let at = goal.at.block_start-requires c in
    let is = of_own_set at.After-piece_set_of-set in
    block_upto c.piece_set_of-set.result c.args.position.now.setup _ is
    (c.spot_from-block.ensures.block c.args.position.now.setup (numbers at.After-digits_of is))

pub place_in-requires : goal.place_in-requires
place_in-requires c =
    let at = goal.at.place_in-requires c in
    let are = numbers at.After-digits_of (of_own_set at.After-piece_set_of-set) in
    let there = (spot at.After-spot_from-block are).there in
    record {
      block = there.block_below;
      numbers = are.numbers_are ∙ sym (on_board-block c.piece_set_of-set.result c.args.position.now.setup are.position)
          ∙ ap (digits_of (block_bases c.piece_set_of-set.result)) (sym (c.spot_from-block.ensures.block c.args.position.now.setup are));
      run = there.run_below;
      local = there.local_below;
      few_runs = (spot_small c.piece_set_of-set.result c.args.position.now.setup _ _ _ are.position are.numbers_are
          (c.spot_from-block.ensures.run c.args.position.now.setup are) (c.spot_from-block.ensures.local c.args.position.now.setup are)).0;
    }

own : (c : After-place_in) → AreNumbersOf c.piece_set_of-set.result c.numbers_in-on_board.result c.digits_of.result c.args.position.now.setup
    → HasSpot c.piece_set_of-set.result c.args.position.now.setup c.piece_set_of-set.result c.spot_from-block.result.0 c.spot_from-block.result.1.run
    c.spot_from-block.result.1.local
    → c.block_start.result + c.place_in.result ≡ rank_of (family_of c.piece_set_of-set.result c.args.profile) c.args.position.now.setup
own c are at = rank_by_place (family_of c.piece_set_of-set.result c.args.profile) c.args.position.now.setup _ _ _ _ _ c.block_start.ensures.value
    c.place_in.ensures at.rank_is

pub overflow_add-result : goal.overflow_add-result
overflow_add-result c =
    let at = goal.at.overflow_add-result c in
    let are = numbers at.After-digits_of (of_own_set at.After-piece_set_of-set) in
    let is = own at.After-place_in are (spot at.After-spot_from-block are) in
    omega (arith, is, rank_of-small (family_of c.piece_set_of-set.result c.args.profile) c.args.position.now.setup are.position)

pub returns : goal.returns
returns c =
    let at = goal.at.returns c in
    let are = numbers at.After-digits_of (of_own_set at.After-piece_set_of-set) in
    let is = own at.After-place_in are (spot at.After-spot_from-block are) in
    record {
      count = λ set of_set. HasRank-of (family_of set c.args.profile) c.args.position.now.setup _ (record { of_set = of_set; allowed = c.requires })
          (is ∙ ap (λ q. rank_of (family_of q c.args.profile) c.args.position.now.setup)
          (set_of_position c.piece_set_of-set.result set c.args.position.now.setup are.position of_set));
      number = λ set of_set. is ∙ ap (λ q. rank_of (family_of q c.args.profile) c.args.position.now.setup)
          (set_of_position c.piece_set_of-set.result set c.args.position.now.setup are.position of_set);
    }
