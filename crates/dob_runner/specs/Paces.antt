-- How far the others of a crew are, as a node was told.
use Rattle.std.specs.Prelude.{◌≡◌, ◌≢◌, ◌⊎◌, ℕ, ◌+◌, ◌<◌, ◌≤◌, List, Option, None, Some, min, length, slice_get}
use Rattle.dob_runner.specs.declared.pace.Pace.{Pace}

-- the level of a node that has nothing to expand: none is above it
abbrev pub last_level : ℕ
last_level = 65535

-- the least of the levels that a node was told of the others among the first nodes
pub record IsLeastOther (node upto : ℕ) (told : List ℕ) (least : ℕ) : Type 0 where
  pub low : (j level : ℕ) → j < upto → j ≢ node → slice_get told j ≡ Some level → least ≤ level
  pub is : (least ≡ last_level) ⊎ ((j : ℕ) × (j < upto) × (j ≢ node) × (slice_get told j ≡ Some least))

-- The highest level that the node may expand: one above the least that the others are said to be on.
abbrev pub IsLimitOf : Pace → ℕ → Type 0
IsLimitOf pace limit = (least : ℕ) × IsLeastOther pace.node (length pace.told.items) pace.told.items least × (limit ≡ min (least + 1) last_level)

-- so it may with a pace; with none each level is let pass
abbrev pub IsLimitFor : Option Pace → ℕ → Type 0
IsLimitFor None limit = limit ≡ last_level
IsLimitFor (Some pace) limit = IsLimitOf pace limit

-- whose pace it is, and of how many nodes
abbrev pub member_of : Pace → ℕ × ℕ
member_of pace = (pace.node, length pace.told.items)

-- the same, where one is kept
abbrev pub kept_member : Option Pace → Option (ℕ × ℕ)
kept_member None = None
kept_member (Some pace) = Some (member_of pace)
