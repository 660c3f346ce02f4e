-- What the lists of a certificate say, by the table that it is made of.
use Rattle.std.specs.Prelude.{◌≡◌, ◌+◌, ◌<◌, ◌≤◌, ℕ, All, List, Some, length, slice_get}
use Rattle.dob_distance.specs.declared.value.Value.{Value}
use Rattle.dob_distance.specs.declared.value.Value.TheVariants.{Win, Loss, Draw}
use Rattle.dob_value.specs.Follows.{ClassTable}
use Rattle.dob_certificate.specs.Ascending.{AreAscending}
use Rattle.dob_certificate.specs.declared.entry.Entry.{Entry}
use Rattle.dob_certificate.specs.declared.list_kind.ListKind.{ListKind}
use Rattle.dob_certificate.specs.declared.list_kind.ListKind.TheVariants.{Lost, Held}

-- a value is a loss within so many plies
abbrev pub IsLostWithin : Value → ℕ → Type 0
IsLostWithin (Loss distance) plies = distance ≤ plies
IsLostWithin (Win distance) plies = ⊥
IsLostWithin Draw plies = ⊥

-- a value is what such a list says by so many plies
abbrev pub SaysOf : ListKind → Value → ℕ → Type 0
SaysOf Lost value plies = IsLostWithin value plies
SaysOf Held value plies = ¬ IsLostWithin value plies

-- the table says of the class what the entry of such a list does
pub record IsByTable (table : ClassTable) (kind : ListKind) (entry : Entry) : Type 0 where
  pub value : Value
  pub given : slice_get table.values entry.class ≡ Some value
  pub said : SaysOf kind value entry.plies

-- two lists, by ascending classes, say only what the table says, and have more than so many entries
pub record HaveMore (table : ClassTable) (most : ℕ) : Type 0 where
  pub lost : List Entry
  pub held : List Entry
  pub lost_ascends : AreAscending lost
  pub held_ascends : AreAscending held
  pub lost_by_table : All (IsByTable table Lost) lost
  pub held_by_table : All (IsByTable table Held) held
  pub more : most < length lost + length held
