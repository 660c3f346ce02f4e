-- Pairs of classes in which whoever has to move would rather not, by a table.
use Rattle.std.specs.Prelude.{◌≡◌, ℕ, ◌<◌, ◌≤◌, List, Option, AllPairs, Contains, MatchOption}
use Rattle.dob_pieces.specs.declared.setup.Setup.{Setup}
use Rattle.dob_pieces.specs.Setups.{turned}
use Rattle.dob_rank.specs.Families.{IsInClass, RepresentsClass}
use Rattle.dob_value.specs.Follows.{ClassTable, HasInTable}
use Rattle.dob_zugzwang.specs.declared.pairs.Zugzwang.{Zugzwang}
use Rattle.dob_zugzwang.specs.Zugzwangs.{AreBothOpen, IsZugzwang}

-- the pair is of the classes of that position and of its turn, the lower number first
pub record IsPairOf (table : ClassTable) (p : Setup) (pair : Zugzwang) : Type 0 where
  pub zugzwang : IsZugzwang table.family.profile (HasInTable table.family table.values) p pair.value pair.turn_value
  pub in_class : IsInClass table.family p pair.class
  pub turn_in_class : IsInClass table.family (turned p) pair.turn_class
  pub ordered : pair.class ≤ pair.turn_class

abbrev pub IsPair : ClassTable → Zugzwang → Type 0
IsPair table pair = (p : Setup) × IsPairOf table p pair

-- the pair whose lower number is that of the class, or that there is none
abbrev pub IsPairAt : ClassTable → ℕ → Option Zugzwang → Type 0
IsPairAt table class found = MatchOption found ((pair : Zugzwang) → pair.class ≡ class → ¬ IsPair table pair) (λ pair. (pair.class ≡ class) × IsPair table pair)

-- the setup is the turn of the class's representative, and both are open
pub record IsOpenTurn (table : ClassTable) (class : ℕ) (turn : Setup) : Type 0 where
  pub representative : Setup
  pub represents : RepresentsClass table.family representative class
  pub opens : AreBothOpen table.family.profile representative
  pub same : turn ≡ turned representative

-- All pairs are listed, each once, by ascending lower numbers. A class belongs to one pair at most.
pub record ArePairs (table : ClassTable) (pairs : List Zugzwang) : Type 0 where
  pub sound : (pair : Zugzwang) → Contains pairs pair → IsPair table pair
  pub whole : (pair : Zugzwang) → IsPair table pair → Contains pairs pair
  pub ascending : AllPairs (λ (a b : Zugzwang). a.class < b.class) pairs
