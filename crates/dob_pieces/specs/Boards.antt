-- A setup as sets of squares, with no list of cells.
use Rattle.std.specs.Prelude.{◌≡◌, ℕ, ◌+◌, ◌*◌, ◌&&◌, ◌||◌, ◌∷◌, Bool, false, List, [], Some, None, length}
use Rattle.dob_pieces.specs.declared.board.Board.{Board}
use Rattle.dob_pieces.specs.declared.kind.HandKind.TheVariants as hand
use Rattle.dob_pieces.specs.declared.kind.Kind.{Kind}
use Rattle.dob_pieces.specs.declared.kind.Kind.TheVariants.{Lion, Hen}
use Rattle.dob_pieces.specs.declared.kind.Side.TheVariants.{Mover, Enemy}
use Rattle.dob_pieces.specs.declared.setup.Setup.{Setup}
use Rattle.dob_pieces.specs.Lists.{one_if}
use Rattle.dob_pieces.specs.Masks.{AreSquares, IsMask, is_piece, is_prey}
use Rattle.dob_pieces.specs.Pieces.{is_side, leads}
use Rattle.dob_pieces.specs.Setups.{Cell, HasLions, at, holds_kind}

abbrev pub is_own_lion : Cell → Bool
is_own_lion = is_piece Mover Lion

abbrev pub is_enemy_lion : Cell → Bool
is_enemy_lion = is_piece Enemy Lion

-- a chick or a hen of either side
abbrev pub is_chick : Cell → Bool
is_chick = holds_kind hand.Chick

abbrev pub is_elephant : Cell → Bool
is_elephant = holds_kind hand.Elephant

abbrev pub is_giraffe : Cell → Bool
is_giraffe = holds_kind hand.Giraffe

abbrev pub is_hen : Cell → Bool
is_hen cell = is_piece Mover Hen cell || is_piece Enemy Hen cell

-- a piece of the enemy other than the lion
abbrev pub is_enemy : Cell → Bool
is_enemy None = false
is_enemy (Some piece) = is_prey piece.side piece.kind

-- each set has the squares that its name says
pub record IsBoardOf (setup : Setup) (board : Board) : Type 0 where
  pub own_lion_is : AreSquares setup is_own_lion board.own_lion
  pub enemy_lion_is : AreSquares setup is_enemy_lion board.enemy_lion
  pub chicks_are : AreSquares setup is_chick board.chicks
  pub elephants_are : AreSquares setup is_elephant board.elephants
  pub giraffes_are : AreSquares setup is_giraffe board.giraffes
  pub hens_are : AreSquares setup is_hen board.hens
  pub enemies_are : AreSquares setup is_enemy board.enemies
  pub hands_are : board.hands ≡ setup.hands

-- a piece other than a lion
abbrev pub is_other : Cell → Bool
is_other cell = (is_chick cell || is_elephant cell) || is_giraffe cell

-- the mover's pieces of that kind which step to the target
abbrev pub AreAttackersOf : Setup → ℕ → Kind → ℕ → Type 0
AreAttackersOf setup target kind = IsMask (λ from. is_piece Mover kind (at setup from) && leads kind from target)

-- twelve squares, on which each side has one lion
abbrev pub HasTwoLions : Setup → Type 0
HasTwoLions setup = (length setup.board ≡ 12) × HasLions setup

-- ---- sets in one word, twelve bits each
abbrev pub is_any_lion : Cell → Bool
is_any_lion cell = is_own_lion cell || is_enemy_lion cell

-- a piece of the enemy, the lion too
abbrev pub is_foe : Cell → Bool
is_foe None = false
is_foe (Some piece) = is_side Enemy piece.side

abbrev pub is_giraffe_or_hen : Cell → Bool
is_giraffe_or_hen cell = is_giraffe cell || is_hen cell

-- what a cell adds to a word of five sets
abbrev pub entry : Cell → ℕ
entry cell =
    one_if (is_any_lion cell) + 4096 * one_if (is_foe cell) + 16777216 * one_if (is_chick cell) + 68719476736 * one_if (is_elephant cell)
    + 281474976710656 * one_if (is_giraffe_or_hen cell)

-- the five sets of the cells, the first of which is the lowest bit of each
unfoldable pub planes_of : List Cell → ℕ
planes_of [] = 0
planes_of (cell ∷ cells) = 2 * planes_of cells + entry cell
