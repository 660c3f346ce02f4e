-- What is found where one move alone is looked for.
use Rattle.std.specs.Prelude.{◌≡◌, ℕ, Option, Some, None}
use Rattle.dob_pieces.specs.declared.profile.Profile.{Profile}
use Rattle.dob_pieces.specs.declared.setup.Setup.{Setup}
use Rattle.dob_moves.specs.declared.game_move.Move.{Move}
use Rattle.dob_distance.specs.declared.value.Value.{Value}
use Rattle.dob_value.specs.Follows.{ClassTable}
use Rattle.dob_probe.specs.declared.puzzles.Puzzle.{Puzzle}
use Rattle.dob_probe.specs.Puzzles.{IsOnlyTo, IsPuzzle}

-- the only move to that value, or that no move is it
abbrev pub IsSingleMove : Profile → (Setup → Value → Type 0) → Setup → Value → Option Move → Type 0
IsSingleMove profile Has p wanted None = (move : Move) → ¬ IsOnlyTo profile Has p wanted move
IsSingleMove profile Has p wanted (Some move) = IsOnlyTo profile Has p wanted move

-- the puzzle of that class, or that the class is none
abbrev pub IsPuzzleOf : ClassTable → ℕ → ℕ → Option Puzzle → Type 0
IsPuzzleOf table plies class None = (puzzle : Puzzle) → puzzle.class ≡ class → ¬ IsPuzzle table plies puzzle
IsPuzzleOf table plies class (Some puzzle) = (puzzle.class ≡ class) × IsPuzzle table plies puzzle
