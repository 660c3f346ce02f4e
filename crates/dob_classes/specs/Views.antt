-- A board as a side sees it, the mover as it stands and the enemy turned, and a board that shows a position of a family.
use Rattle.std.specs.Prelude.{ℕ, ◌-◌, ◌≡◌}
use Rattle.dob_pieces.specs.Boards.{IsBoardOf, planes_of}
use Rattle.dob_pieces.specs.declared.board.Board.{Board}
use Rattle.dob_pieces.specs.declared.hand.Hands.{Hands}
use Rattle.dob_pieces.specs.declared.kind.Side.{Side}
use Rattle.dob_pieces.specs.declared.kind.Side.TheVariants.{Mover, Enemy}
use Rattle.dob_pieces.specs.declared.profile.Family.{Family}
use Rattle.dob_pieces.specs.declared.setup.Setup.{Setup}
use Rattle.dob_pieces.specs.Setups.{Cell, turned, turned_cell}
use Rattle.dob_pieces.specs.Squares.{turned_square}
use Rattle.dob_rank.specs.Families.{IsPositionOf}

abbrev pub seen_by : Side → Setup → Setup
seen_by Mover setup = setup
seen_by Enemy setup = turned setup

abbrev pub seen_square : Side → ℕ → ℕ
seen_square Mover square = square
seen_square Enemy square = turned_square square

abbrev pub seen_hands : Side → Hands → Hands
seen_hands Mover hands = hands
seen_hands Enemy hands = record { mover = hands.enemy; enemy = hands.mover }

-- 1 where a piece is foreign to the side, 0 where it is its own; the mover sees it so
abbrev pub seen_owner : Side → ℕ → ℕ
seen_owner Mover owner = owner
seen_owner Enemy owner = 1 - owner

abbrev pub seen_cell : Side → Cell → Cell
seen_cell Mover cell = cell
seen_cell Enemy cell = turned_cell cell

-- the planes of what the side sees
abbrev pub AreSeen : Side → Setup → ℕ → Type 0
AreSeen side setup planes = planes ≡ planes_of (seen_by side setup).board

pub record IsShown (family : Family) (setup : Setup) (board : Board) : Type 0 where
  pub position : IsPositionOf family setup
  pub squares : IsBoardOf setup board
