-- How many pairs there are, and the deepest one.
use Rattle.std.specs.Prelude.{◌≡◌, ◌⊎◌, ℕ, ◌<◌, Bool, true, false, List, Option, None, Some, Contains, count_by, max, min}
use Rattle.dob_distance.specs.Distances.{plies_of}
use Rattle.dob_distance.specs.declared.value.Value.{Value}
use Rattle.dob_distance.specs.declared.value.Value.TheVariants.{Loss, Draw}
use Rattle.dob_zugzwang.specs.declared.counts.PairCounts.{PairCounts}
use Rattle.dob_zugzwang.specs.declared.pairs.Zugzwang.{Zugzwang}

-- both values are losses
abbrev pub are_losses : Value → Value → Bool
are_losses (Loss plies) (Loss turn_plies) = true
are_losses _ _ = false

-- one is a loss, and the other a draw
abbrev pub are_loss_and_draw : Value → Value → Bool
are_loss_and_draw (Loss plies) Draw = true
are_loss_and_draw Draw (Loss turn_plies) = true
are_loss_and_draw _ _ = false

abbrev pub is_lost_by_both : Zugzwang → Bool
is_lost_by_both pair = are_losses pair.value pair.turn_value

abbrev pub is_loss_and_draw : Zugzwang → Bool
is_loss_and_draw pair = are_loss_and_draw pair.value pair.turn_value

-- the lesser of a pair's two distances, and the greater
abbrev pub shorter : Zugzwang → ℕ
shorter pair = min (plies_of pair.value) (plies_of pair.turn_value)

abbrev pub longer : Zugzwang → ℕ
longer pair = max (plies_of pair.value) (plies_of pair.turn_value)

-- The pair is deeper than the other: its lesser distance is greater; or that is equal, and its greater one is greater; or both are equal,
-- and its class number is lower.
abbrev pub IsDeeper : Zugzwang → Zugzwang → Type 0
IsDeeper pair other = (shorter other < shorter pair)
    ⊎ ((shorter pair ≡ shorter other) × ((longer other < longer pair) ⊎ ((longer pair ≡ longer other) × (pair.class < other.class))))

-- of those that are lost by both none is deeper, where there are any
abbrev pub IsDeepest : List Zugzwang → Option Zugzwang → Type 0
IsDeepest pairs None = (pair : Zugzwang) → Contains pairs pair → is_lost_by_both pair ≡ false
IsDeepest pairs (Some best) = Contains pairs best × (is_lost_by_both best ≡ true)
    × ((pair : Zugzwang) → Contains pairs pair → is_lost_by_both pair ≡ true → ¬ IsDeeper pair best)

-- how many pairs are lost by both, how many by one where the other draws, and the deepest one
pub record AreCounts (pairs : List Zugzwang) (counts : PairCounts) : Type 0 where
  pub lost : counts.lost_by_both ≡ count_by is_lost_by_both pairs
  pub drawn : counts.loss_and_draw ≡ count_by is_loss_and_draw pairs
  pub deepest_is : IsDeepest pairs counts.deepest
