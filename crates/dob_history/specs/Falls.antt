-- Falls: settlements of which each rests on the next, down to one that rests on none. So no distance is above the number
-- of classes.
use Rattle.std.specs.Prelude.{◌≡◌, ◌≢◌, ℕ, ◌+◌, ◌<◌, ◌≤◌, List, [], ◌∷◌, Contains, Some}
use Rattle.std.specs.List.{All, AllPairs}
use Rattle.dob_pieces.specs.declared.profile.Family.{Family}
use Rattle.dob_rank.specs.Families.{classes_of}
use Rattle.dob_distance.specs.declared.value.Value.{Value}
use Rattle.dob_distance.specs.declared.value.Value.TheVariants.{Win, Loss, Draw}
use Rattle.dob_distance.specs.Distances.{plies_of}
use Rattle.dob_share.specs.declared.news.Settlement.{Settlement}
use Rattle.dob_share.specs.Cells.{Cell}

-- a win in one ply, and a loss in none, rest on nothing
abbrev pub IsFirst : Value → Type 0
IsFirst (Win plies) = plies ≡ 1
IsFirst (Loss plies) = plies ≡ 0
IsFirst Draw = ⊥

-- a win rests on a loss in one ply less, and a loss on a win in one ply less
abbrev pub RestsOn : Value → Value → Type 0
RestsOn (Win plies) (Loss less) = plies ≡ less + 1
RestsOn (Loss plies) (Win less) = plies ≡ less + 1
RestsOn _ _ = ⊥

-- the settlement rests on the first of the others, that one on the next, and the last of them on nothing
abbrev pub Falls : Settlement → List Settlement → Type 0
Falls s [] = IsFirst s.now
Falls s (t ∷ others) = RestsOn s.now t.now × Falls t others

-- a settlement of the history of one of n nodes
abbrev pub IsSettlement : ℕ → (ℕ → List Settlement) → Settlement → Type 0
IsSettlement n histories s = (i : ℕ) × (i < n) × Contains (histories i) s

-- From the settlement the distances fall by one, over others of the histories, down to Win 1 or Loss 0; no two of them all
-- are of one class.
pub record IsFall (n : ℕ) (histories : ℕ → List Settlement) (s : Settlement) (others : List Settlement) : Type 0 where
  pub settled : All (IsSettlement n histories) others
  pub apart : AllPairs (λ (a b : Settlement). a.class ≢ b.class) (s ∷ others)
  pub falls : Falls s others

-- no distance that the cell counts or knows is above the bound
pub record IsCellWithin (bound : ℕ) (cell : Cell) : Type 0 where
  pub wins : (plies : ℕ) → 0 < cell.wins plies → plies ≤ bound
  pub least : (plies : ℕ) → cell.least ≡ Some plies → plies ≤ bound

-- Each settlement stands first in a fall, and no distance in a history or in a class's cell is above the number of classes.
pub record HaveFalls (family : Family) (n : ℕ) (histories : ℕ → List Settlement) (cell : ℕ → Cell) : Type 0 where
  pub each : (s : Settlement) → IsSettlement n histories s → (others : List Settlement) × IsFall n histories s others
  pub settled : (s : Settlement) → IsSettlement n histories s → plies_of s.now ≤ classes_of family
  pub cells : (class : ℕ) → class < classes_of family → IsCellWithin (classes_of family) (cell class)
