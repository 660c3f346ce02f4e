-- What the places of a run have in common.
use Rattle.std.specs.Prelude.{◌≡◌, ℕ}
use Rattle.dob_pieces.specs.declared.piece_set.PieceSet.{PieceSet}
use Rattle.dob_classes.specs.declared.run_shapes.RunShape.{RunShape}
use Rattle.dob_rank.specs.Numbers.{digits_of, block_bases}
use Rattle.dob_rank.specs.Runs.{run_bases, square_bases, local_bases, run_digits}

-- it says so of the block's run of that number
pub record IsShape (set : PieceSet) (block run : ℕ) (shape : RunShape) : Type 0 where
  pub on_board_is : shape.on_board ≡ digits_of (block_bases set) block
  pub choices_are : shape.choices ≡ square_bases shape.on_board
  pub bases_are : shape.bases ≡ local_bases (digits_of (block_bases set) block)
  pub digits_are : run_digits shape.digits ≡ digits_of (run_bases set shape.on_board) run
