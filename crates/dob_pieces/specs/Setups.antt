-- What stands on the board and lies in the hands; when it is a position; its turned and its mirrored form.
use Rattle.std.specs.Prelude.{◌≡◌, ◌≢◌, ℕ, ◌+◌, ◌-◌, ◌≤◌, Bool, false, ◌&&◌, List, Option, Some, None, map, length, count_by, slice_index_or}
use Rattle.std.specs.List.{range_with_len}
use Rattle.dob_pieces.specs.declared.kind.Kind.{Kind}
use Rattle.dob_pieces.specs.declared.kind.Kind.TheVariants.{Lion}
use Rattle.dob_pieces.specs.declared.kind.HandKind.{HandKind}
use Rattle.dob_pieces.specs.declared.kind.HandKind.TheVariants as hand
use Rattle.dob_pieces.specs.declared.kind.Side.{Side}
use Rattle.dob_pieces.specs.declared.kind.Side.TheVariants.{Mover}
use Rattle.dob_pieces.specs.declared.kind.Piece.{Piece}
use Rattle.dob_pieces.specs.declared.hand.Hand.{Hand}
use Rattle.dob_pieces.specs.declared.hand.Hands.{Hands}
use Rattle.dob_pieces.specs.declared.setup.Setup.{Setup}
use Rattle.dob_pieces.specs.Squares.{turned_square, mirrored_square}
use Rattle.dob_pieces.specs.Pieces.{is_side, is_lion, counts_as, other_side}

abbrev pub Cell : Type 0
Cell = Option Piece

abbrev pub piece_of : Side → Kind → Piece
piece_of side kind = record { side = side; kind = kind }

-- that board and those hands
abbrev pub setup_of : List Cell → Hands → Setup
setup_of board hands = record { board = board; hands = hands }

-- what stands on a square, nothing beyond the board
abbrev pub at : Setup → ℕ → Cell
at setup square = slice_index_or setup.board square None

-- how many of a kind a hand holds
abbrev pub held : Hand → HandKind → ℕ
held h hand.Chick = h.chicks
held h hand.Elephant = h.elephants
held h hand.Giraffe = h.giraffes

-- a hand with one more of a kind
abbrev pub with_one_more : Hand → HandKind → Hand
with_one_more h hand.Chick = record h { chicks = h.chicks + 1 }
with_one_more h hand.Elephant = record h { elephants = h.elephants + 1 }
with_one_more h hand.Giraffe = record h { giraffes = h.giraffes + 1 }

-- a hand with one less of a kind
abbrev pub with_one_less : Hand → HandKind → Hand
with_one_less h hand.Chick = record h { chicks = h.chicks - 1 }
with_one_less h hand.Elephant = record h { elephants = h.elephants - 1 }
with_one_less h hand.Giraffe = record h { giraffes = h.giraffes - 1 }

abbrev pub holds_lion : Side → Cell → Bool
holds_lion side None = false
holds_lion side (Some piece) = is_side side piece.side && is_lion piece.kind

abbrev pub holds_kind : HandKind → Cell → Bool
holds_kind kind None = false
holds_kind kind (Some piece) = counts_as kind piece.kind

-- how many pieces of a kind there are, hens with the chicks, board and hands together
unfoldable pub total : HandKind → Setup → ℕ
total kind setup = count_by (holds_kind kind) setup.board + held setup.hands.mover kind + held setup.hands.enemy kind

-- each side has one lion
abbrev pub HasLions : Setup → Type 0
HasLions setup = (side : Side) → count_by (holds_lion side) setup.board ≡ 1

-- no kind has more than two pieces
abbrev pub HasFewPieces : Setup → Type 0
HasFewPieces setup = (kind : HandKind) → total kind setup ≤ 2

-- the mover's lion isn't on row 4
abbrev pub HasLionOffFarRow : Setup → Type 0
HasLionOffFarRow setup = (square : ℕ) → 9 ≤ square → at setup square ≢ Some (piece_of Mover Lion)

-- A position: twelve squares, one lion a side, at most two pieces of a kind, and the mover's lion not on its far row.
pub record IsLegal (setup : Setup) : Type 0 where
  pub squares : length setup.board ≡ 12
  pub lions : HasLions setup
  pub few : HasFewPieces setup
  pub home : HasLionOffFarRow setup

-- the board on which f says what stands on each square
abbrev pub board_by : (ℕ → Cell) → List Cell
board_by f = map f (range_with_len 0 12)

-- a piece seen from the other side
abbrev pub turned_cell : Cell → Cell
turned_cell None = None
turned_cell (Some piece) = Some (piece_of (other_side piece.side) piece.kind)

-- seen from the other side: the board by a half turn, the sides and the hands exchanged
unfoldable pub turned : Setup → Setup
turned setup = record {
  board = board_by (λ square. turned_cell (at setup (turned_square square)));
  hands = record { mover = setup.hands.enemy; enemy = setup.hands.mover };
}

-- the mirror image: columns a and c exchanged
unfoldable pub mirrored : Setup → Setup
mirrored setup = record {
  board = board_by (λ square. at setup (mirrored_square square));
  hands = setup.hands;
}
