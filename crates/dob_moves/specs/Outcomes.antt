-- What stands and lies where after a move, as one value for each move.
use Rattle.std.specs.Prelude.{ℕ, Bool, true, false, Option, Some, None, slice_set}
use Rattle.dob_pieces.specs.declared.kind.Kind.{Kind}
use Rattle.dob_pieces.specs.declared.kind.Kind.TheVariants.{Hen}
use Rattle.dob_pieces.specs.declared.kind.HandKind.{HandKind}
use Rattle.dob_pieces.specs.declared.kind.Side.TheVariants.{Mover}
use Rattle.dob_pieces.specs.declared.hand.Hand.{Hand}
use Rattle.dob_pieces.specs.declared.setup.Setup.{Setup}
use Rattle.dob_pieces.specs.Pieces.{kind_in_hand, kind_on_board}
use Rattle.dob_pieces.specs.Setups.{Cell, at, piece_of, with_one_more, with_one_less}
use Rattle.dob_moves.specs.declared.game_move.Move.{Move}
use Rattle.dob_moves.specs.declared.game_move.Move.TheVariants.{Step, Put}

-- the kind that a stepping piece has afterwards
abbrev pub arrives_as : Kind → Bool → Kind
arrives_as kind true = Hen
arrives_as kind false = kind

-- a hand with one more of a kind, if there is one
abbrev pub with_any : Hand → Option HandKind → Hand
with_any h None = h
with_any h (Some taken) = with_one_more h taken

-- the mover's hand after a step onto a square with that on it
abbrev pub with_caught : Hand → Cell → Hand
with_caught h None = h
with_caught h (Some caught) = with_any h (kind_in_hand caught.kind)

-- after a step, before the board is turned
unfoldable pub stepped : Setup → Kind → ℕ → ℕ → Bool → Setup
stepped p kind from to grows = record {
  board = slice_set (slice_set p.board from None) to (Some (piece_of Mover (arrives_as kind grows)));
  hands = record p.hands { mover = with_caught p.hands.mover (at p to) };
}

-- after a drop, before the board is turned
unfoldable pub dropped : Setup → HandKind → ℕ → Setup
dropped p kind to = record {
  board = slice_set p.board to (Some (piece_of Mover (kind_on_board kind)));
  hands = record p.hands { mover = with_one_less p.hands.mover kind };
}

-- after a move, before the board is turned
abbrev pub moved : Setup → Move → Setup
moved p (Step kind from to catch grows) = stepped p kind from to grows
moved p (Put kind to) = dropped p kind to
