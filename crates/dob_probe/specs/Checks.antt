-- Of which classes of a table the value follows, and which is the first whose value doesn't.
use Rattle.std.specs.Prelude.{◌≡◌, ℕ, ◌<◌, ◌≤◌, length, Some, slice_get}
use Rattle.dob_pieces.specs.declared.setup.Setup.{Setup}
use Rattle.dob_rank.specs.Families.{IsRepresentative, HasClass}
use Rattle.dob_distance.specs.declared.value.Value.{Value}
use Rattle.dob_value.specs.Follows.{ClassTable, Follows}
use Rattle.dob_probe.specs.Lines.{GivenBy}

-- the setup represents the class of that number, and this is the class's entry
pub record HasEntry (table : ClassTable) (class : ℕ) (representative : Setup) (v : Value) : Type 0 where
  pub represents : IsRepresentative table.family representative
  pub number : HasClass table.family representative class
  pub entry : slice_get table.values class ≡ Some v

-- the class's entry follows from its status and its successors' values
abbrev pub ClassFollows : ClassTable → ℕ → Type 0
ClassFollows table class = (representative : Setup) (v : Value) → HasEntry table class representative v → Follows table.family.profile (GivenBy table) representative v

-- it doesn't
pub record ClassBreaks (table : ClassTable) (class : ℕ) : Type 0 where
  pub representative : Setup
  pub value : Value
  pub has : HasEntry table class representative value
  pub breaks : ¬ Follows table.family.profile (GivenBy table) representative value

-- the entries of the classes from one on up to an end follow
abbrev pub AllFollow : ClassTable → ℕ → ℕ → Type 0
AllFollow table first end = (class : ℕ) → first ≤ class → class < end → ClassFollows table class

-- the least of those classes whose entry doesn't
pub record IsFirstBreak (table : ClassTable) (first end class : ℕ) : Type 0 where
  pub low : first ≤ class
  pub high : class < end
  pub breaks : ClassBreaks table class
  pub before : AllFollow table first class

-- the least class of all whose entry doesn't follow
abbrev pub IsFirstBroken : ClassTable → ℕ → Type 0
IsFirstBroken table class = IsFirstBreak table 0 (length table.values) class
