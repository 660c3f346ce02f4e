-- A setup with another cell on one square, and its sets of squares with one piece more.
use Rattle.std.specs.Prelude.{◌≡◌, ◌≢◌, ℕ, ◌<◌}
use Rattle.dob_pieces.specs.declared.kind.Kind.{Kind}
use Rattle.dob_pieces.specs.declared.kind.Kind.TheVariants.{Lion, Giraffe, Elephant, Chick, Hen}
use Rattle.dob_pieces.specs.declared.setup.Setup.{Setup}
use Rattle.dob_pieces.specs.Masks.{with_square}
use Rattle.dob_pieces.specs.Setups.{Cell, at}
use Rattle.dob_pieces.specs.declared.board.Board.{Board}

pub record IsWith (before after : Setup) (square : ℕ) (cell : Cell) : Type 0 where
  pub here : at after square ≡ cell
  pub there : (s : ℕ) → s < 12 → s ≢ square → at after s ≡ at before s
  pub hands_stay : after.hands ≡ before.hands

-- the sets with the mover's piece of that kind on an empty square
abbrev pub with_own : Kind → ℕ → Board → Board
with_own Lion square b = record b { own_lion = with_square b.own_lion square }
with_own Giraffe square b = record b { giraffes = with_square b.giraffes square }
with_own Elephant square b = record b { elephants = with_square b.elephants square }
with_own Chick square b = record b { chicks = with_square b.chicks square }
with_own Hen square b = record b { chicks = with_square b.chicks square; hens = with_square b.hens square }

-- and with the enemy's piece: but for the lion it is in the set of all enemies too
abbrev pub with_enemy : Kind → ℕ → Board → Board
with_enemy Lion square b = record b { enemy_lion = with_square b.enemy_lion square }
with_enemy kind square b = record (with_own kind square b) { enemies = with_square b.enemies square }
