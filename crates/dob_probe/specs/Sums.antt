-- What decides a position's value among the values of its successors.
use Rattle.std.specs.Prelude.{ℕ, ◌+◌, ◌≤◌, ◌<◌, ◌^◌, Bool, true, false, List, Contains, Option, Some, None, IfSome}
use Rattle.dob_distance.specs.declared.value.Value.{Value}
use Rattle.dob_distance.specs.declared.value.Value.TheVariants.{Win, Loss, Draw}
use Rattle.dob_distance.specs.Distances.{IsLeastLoss}
use Rattle.dob_probe.specs.declared.successors.Successors.{Successors}

-- the greatest win among the values
abbrev pub IsGreatestWin : List Value → Option ℕ → Type 0
IsGreatestWin values None = (plies : ℕ) → ¬ Contains values (Win plies)
IsGreatestWin values (Some greatest) = Contains values (Win greatest) × ((plies : ℕ) → Contains values (Win plies) → plies ≤ greatest)

-- whether there is a draw among them
abbrev pub TellsDraw : List Value → Bool → Type 0
TellsDraw values true = Contains values Draw
TellsDraw values false = ¬ Contains values Draw

-- what is kept of the values
pub record AreSummed (values : List Value) (kept : Successors) : Type 0 where
  pub least : IsLeastLoss values kept.least_loss
  pub greatest : IsGreatestWin values kept.greatest_win
  pub draw : TellsDraw values kept.has_draw

-- a distance to which one can be added
abbrev pub HasNext : Option ℕ → Type 0
HasNext o = IfSome o (λ plies. plies + 1 < 2 ^ 16)

-- the value that follows from the least loss, the greatest win and whether there is a draw
abbrev pub value_after : Option ℕ → Option ℕ → Bool → Value
value_after (Some least) _ _ = Win (least + 1)
value_after None _ true = Draw
value_after None (Some greatest) false = Loss (greatest + 1)
value_after None None false = Draw
