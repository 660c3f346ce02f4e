-- What the steps of reading give, where counts above 255 are taken as 255. Only calls inside the crate name these.
use Rattle.std.specs.Prelude.{ℕ, ◌+◌, ◌-◌, ◌*◌, min}
use Rattle.dob_pieces.specs.declared.hand.Hand.{Hand}
use Rattle.dob_pieces.specs.declared.setup.Setup.{Setup}
use Rattle.dob_pieces.specs.Squares.{column, row}

-- a hand of at most 255 of each kind
abbrev pub capped : Hand → Hand
capped hand = record {
  chicks = min hand.chicks 255;
  elephants = min hand.elephants 255;
  giraffes = min hand.giraffes 255;
}

-- the same board with such hands
abbrev pub capped_setup : Setup → Setup
capped_setup setup = record {
  board = setup.board;
  hands = record { mover = capped setup.hands.mover; enemy = capped setup.hands.enemy };
}

-- where the letter of a square stands in the text
abbrev pub letter_place : ℕ → ℕ
letter_place square = 4 * (3 - row square) + column square
