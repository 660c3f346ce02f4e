-- Which value is better than another of the same class: it is known later, and says more.
use Rattle.std.specs.Prelude.{◌≡◌, ℕ, ◌<◌, ◌⊎◌, Bool, false, ◌==◌}
use Rattle.dob_distance.specs.declared.value.Value.{Value}
use Rattle.dob_distance.specs.declared.value.Value.TheVariants.{Win, Loss, Draw}

-- The second value is better than the first: a win or a loss is better than a draw, and one in fewer plies better than
-- one of its kind in more.
abbrev pub Better : Value → Value → Type 0
Better Draw (Win _) = Unit {0}
Better Draw (Loss _) = Unit {0}
Better (Win was) (Win now) = now < was
Better (Loss was) (Loss now) = now < was
Better _ _ = ⊥

-- the second value is the first, or better
abbrev pub NoWorse : Value → Value → Type 0
NoWorse was now = (was ≡ now) ⊎ Better was now

-- a win in just that many plies
abbrev pub is_win_in : ℕ → Value → Bool
is_win_in plies (Win distance) = distance == plies
is_win_in plies _ = false
