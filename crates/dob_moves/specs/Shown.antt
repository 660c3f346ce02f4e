-- The setup that a board shows.
use Rattle.std.specs.Prelude.{ℕ, ◌==◌, Bool, true, false, cond, Some, None}
use Rattle.std.specs.Int.{bit_at}
use Rattle.dob_pieces.specs.declared.board.Board.{Board}
use Rattle.dob_pieces.specs.declared.kind.Kind.TheVariants.{Lion, Giraffe, Elephant, Chick, Hen}
use Rattle.dob_pieces.specs.declared.kind.Side.{Side}
use Rattle.dob_pieces.specs.declared.kind.Side.TheVariants.{Mover, Enemy}
use Rattle.dob_pieces.specs.declared.setup.Setup.{Setup}
use Rattle.dob_pieces.specs.Setups.{Cell, board_by, piece_of}

abbrev pub has : ℕ → ℕ → Bool
has set square = bit_at set square == 1

abbrev pub side_if : Bool → Side
side_if true = Enemy
side_if false = Mover

-- what stands on a square that is in these sets: a hen is a chick too
abbrev pub cell_if : Bool → Bool → Bool → Bool → Bool → Bool → Bool → Cell
cell_if own_lion enemy_lion enemy hen chick elephant giraffe =
    cond own_lion (Some (piece_of Mover Lion))
    (cond enemy_lion (Some (piece_of Enemy Lion))
    (cond hen (Some (piece_of (side_if enemy) Hen))
    (cond chick (Some (piece_of (side_if enemy) Chick))
    (cond elephant (Some (piece_of (side_if enemy) Elephant))
    (cond giraffe (Some (piece_of (side_if enemy) Giraffe)) None)))))

abbrev pub cell_on : Board → ℕ → Cell
cell_on b square =
    cell_if (has b.own_lion square) (has b.enemy_lion square) (has b.enemies square) (has b.hens square) (has b.chicks square)
    (has b.elephants square) (has b.giraffes square)

-- what stands on its squares and lies in its hands
unfoldable pub setup_on : Board → Setup
setup_on b = record { board = board_by (cell_on b); hands = b.hands }
