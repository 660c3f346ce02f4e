-- Moves as numbers.
use Rattle.std.specs.Prelude.{ℕ, Bool, true, false}
use Rattle.dob_pieces.specs.declared.kind.Kind.{Kind}
use Rattle.dob_pieces.specs.declared.kind.Kind.TheVariants.{Lion, Giraffe, Elephant, Chick, Hen}
use Rattle.dob_pieces.specs.Pieces.{kind_on_board}
use Rattle.dob_moves.specs.declared.game_move.Move.{Move}
use Rattle.dob_moves.specs.declared.game_move.Move.TheVariants.{Step, Put}
use Rattle.dob_foreign.specs.declared.moves.DobutsuStep.{DobutsuStep}

-- the number of a kind
abbrev pub kind_number : Kind → ℕ
kind_number Chick = 0
kind_number Elephant = 1
kind_number Giraffe = 2
kind_number Hen = 3
kind_number Lion = 4

abbrev pub flag : Bool → ℕ
flag true = 1
flag false = 0

-- the numbers of a move; a piece that is dropped comes from 12
abbrev pub shown_step : Move → DobutsuStep
shown_step (Step kind from to catch grows) = record { kind = kind_number kind; from = from; to = to; catches = flag catch; grows = flag grows }
shown_step (Put kind to) = record { kind = kind_number (kind_on_board kind); from = 12; to = to; catches = 0; grows = 0 }
