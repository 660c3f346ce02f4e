-- Entries of a table: each is one of a position's class, and a position has one.
use Rattle.dob_probe.proofs.Common.{◌≡◌, All, List, Some, slice_get, subst, ℕ, Setup, IsPositionOf, one_entry, ClassTable, IsEntry, IsTable, Value, GivenBy}
use Rattle.dob_probe.proofs.Common.{get_or_from_slice_get, slice_get_within}

-- an entry that was read has the property of all
pub all_at : {X : Type 0} (P : X → Type 0) (xs : List X) (k : ℕ) (x : X) → All P xs → slice_get xs k ≡ Some x → P x
all_at P xs k x all read = subst P (get_or_from_slice_get xs k x x read) (all k x (slice_get_within xs k x read))

module _ (table : ClassTable) where
  pub given_is_entry : (p : Setup) (v : Value) → IsTable table.family table.values → GivenBy table p v → IsEntry v
  given_is_entry p v is given = all_at IsEntry table.values given.class v is.entries given.entry

  pub one_given : (p : Setup) (v w : Value) → IsPositionOf table.family p → GivenBy table p v → GivenBy table p w → v ≡ w
  one_given p v w is a b = one_entry table.family table.values p v w is a b
