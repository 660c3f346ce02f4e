-- What a position's digits are found from, and what its spot is.
use Rattle.std.specs.Prelude.{◌≡◌, ℕ, List, map, length}
use Rattle.dob_pieces.specs.Boards.{IsBoardOf}
use Rattle.dob_pieces.specs.declared.board.Board.{Board}
use Rattle.dob_pieces.specs.declared.piece_set.PieceSet.{PieceSet}
use Rattle.dob_pieces.specs.declared.setup.Setup.{Setup}
use Rattle.dob_pieces.specs.Setups.{IsLegal}
use Rattle.dob_rank.specs.declared.layers.Layer.{Layer}
use Rattle.dob_rank.specs.Masks.{layer_mask}
use Rattle.dob_rank.specs.Numbers.{order, layer, count, on_board, digits}
use Rattle.dob_rank.specs.Order.{IsPositionOfSet}

-- the board shows a position of the set
pub record IsShownOfSet (set : PieceSet) (setup : Setup) (board : Board) : Type 0 where
  pub position : IsPositionOfSet set setup
  pub squares : IsBoardOf setup board

-- it shows a position, and the numbers are those on it
pub record ArePartsOf (board : Board) (numbers : List ℕ) (setup : Setup) : Type 0 where
  pub legal : IsLegal setup
  pub squares : IsBoardOf setup board
  pub numbers_are : numbers ≡ on_board setup

-- it shows a setup with those squares and so many pieces of a layer
pub record HasOfLayer (of_layer : Layer) (mask pieces : ℕ) (setup : Setup) (board : Board) : Type 0 where
  pub long : length setup.board ≡ 12
  pub squares : IsBoardOf setup board
  pub mask_is : mask ≡ layer_mask (order of_layer) (map layer setup.board)
  pub pieces_are : pieces ≡ count (order of_layer) (map layer setup.board)

-- the numbers on the board of a position of the set, and its digits
pub record AreNumbersOf (set : PieceSet) (numbers all : List ℕ) (setup : Setup) : Type 0 where
  pub position : IsPositionOfSet set setup
  pub numbers_are : numbers ≡ on_board setup
  pub digits_are : all ≡ digits setup
