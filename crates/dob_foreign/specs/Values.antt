-- The numbers of outcomes.
use Rattle.std.specs.Prelude.{ℕ}
use Rattle.dob_distance.specs.declared.value.Value.{Value}
use Rattle.dob_distance.specs.declared.value.Value.TheVariants.{Win, Loss, Draw}

abbrev pub outcome_number : Value → ℕ
outcome_number Draw = 0
outcome_number (Win plies) = 1
outcome_number (Loss plies) = 2
