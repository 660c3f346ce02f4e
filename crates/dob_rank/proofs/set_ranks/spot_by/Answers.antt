-- By the numbers on the board and the digits that the sets show.
use Rattle.dob_rank.proofs.Common.{Setup}
use Rattle.dob_rank.specs.BoardDigits.{AreNumbersOf, IsShownOfSet}
use Rattle.dob_rank.proofs.Boards.BoardMasks.{numbers_shown, parts_shown}
use Rattle.dob_rank.proofs.set_ranks.spot_by.Goals as goal
use Rattle.dob_rank.proofs.set_ranks.spot_by.Goals.{After-digits_of-digits}

numbers : (c : After-digits_of-digits) (setup : Setup) → IsShownOfSet c.args.set setup c.args.board.now
    → AreNumbersOf c.args.set c.numbers_in-on_board.result c.digits_of-digits.result setup
numbers c setup shown =
    numbers_shown c.args.board.now _ c.numbers_in-on_board.ensures setup c.args.set _ c.digits_of-digits.ensures shown.position shown.squares

pub digits_of-digits-requires : goal.digits_of-digits-requires
digits_of-digits-requires c = (
  c.requires.0,
  parts_shown c.args.board.now _ c.numbers_in-on_board.ensures c.requires.0 c.requires.1.position.legal c.requires.1.squares,
)

pub spot_from-requires : goal.spot_from-requires
spot_from-requires c = (c.requires.0, numbers (goal.at.spot_from-requires c).After-digits_of-digits c.requires.0 c.requires.1)

pub returns : goal.returns
returns c =
    let are = numbers (goal.at.returns c).After-digits_of-digits in
    record {
      block = λ setup shown. c.spot_from.ensures.block setup (are setup shown);
      run = λ setup shown. c.spot_from.ensures.run setup (are setup shown);
      local = λ setup shown. c.spot_from.ensures.local setup (are setup shown);
    }
