-- Which ways to take a move back can lead to an open position, as sets of squares.
use Rattle.std.specs.Prelude.{◌≡◌, ℕ, ◌⊎◌, ◌&&◌, ◌||◌, nat_lt, not, Bool, true, Some}
use Rattle.dob_pieces.specs.declared.kind.Kind.{Kind}
use Rattle.dob_pieces.specs.declared.kind.Kind.TheVariants.{Lion}
use Rattle.dob_pieces.specs.declared.kind.Side.TheVariants.{Mover}
use Rattle.dob_pieces.specs.declared.setup.Setup.{Setup}
use Rattle.dob_pieces.specs.Pieces.{leads}
use Rattle.dob_pieces.specs.Setups.{at, piece_of}
use Rattle.dob_pieces.specs.Masks.{AreSquares, IsMask, is_own, is_empty, is_piece}
use Rattle.dob_unmove.specs.declared.attackers.Threat.{Threat}
use Rattle.dob_unmove.specs.declared.ways.Ways.{Ways}
use Rattle.dob_pieces.specs.Boards.{IsBoardOf}
use Rattle.dob_unmove.specs.Threats.{elsewhere, IsThreat}

-- where the mover's lion stands before its move: off row 4
abbrev pub is_home : ℕ → Bool
is_home square = nat_lt square 9

-- the mover's lion stands on such a square, or it doesn't
abbrev pub TellsHome : Setup → Bool → Type 0
TellsHome after stays = (square : ℕ) → at after square ≡ Some (piece_of Mover Lion) → is_home square ≡ stays

-- the mover's lion stands on such a square, or it is what the last move took there
abbrev pub HasLionHome : Setup → ℕ → Type 0
HasLionHome after to = (square : ℕ) → at after square ≡ Some (piece_of Mover Lion) → (square ≡ to) ⊎ (is_home square ≡ true)

-- The last move may have ended there: a piece of the mover stands there, no other one attacks the enemy lion, and the mover's
-- lion stood on such a square before.
abbrev pub may_have_ended : Setup → Threat → Bool → ℕ → Bool
may_have_ended after threat stays square =
    (is_own (at after square) && not (elsewhere threat.attackers square)) && (stays || is_piece Mover Lion (at after square))

-- a piece of the kind comes from such a square if it is the lion
abbrev pub comes_home : Kind → ℕ → Bool
comes_home Lion square = is_home square
comes_home _ square = true

-- A piece of the kind may have come from there: the square is empty, and from it the piece steps to the one and not to the
-- enemy lion.
abbrev pub may_come : Setup → ℕ → Kind → ℕ → ℕ → Bool
may_come after lion kind to square =
    ((leads kind square to && is_empty (at after square)) && not (leads kind square lion)) && comes_home kind square

-- what is known of the setup after a move
pub record AreWays (after : Setup) (ways : Ways) : Type 0 where
  pub board_is : IsBoardOf after ways.board
  pub threat_is : IsThreat after ways.threat
  pub empty_are : AreSquares after is_empty ways.empty
  pub stays : Bool
  pub home_is : TellsHome after stays
  pub ends_are : IsMask (may_have_ended after ways.threat stays) ways.ends
