-- Digits below their bases are choices of squares.
use Rattle.dob_rank.proofs.Positions.Blocks.{AreChoices-digits}
use Rattle.dob_rank.proofs.set_ranks.setup_of.Goals as goal

pub board_by-requires : goal.board_by-requires
board_by-requires c = AreChoices-digits c.args.set c.args.on_board.now c.args.digits.now c.requires.on_board c.requires.digits
