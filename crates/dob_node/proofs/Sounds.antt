-- A node stays sound: its expansions.
use Rattle.dob_node.proofs.Common.{◌+◌, ◌<◌, ◌≡◌, ◌≤◌, AreKept, Family, HistoryView, Settlement, Share, Some, arith, classes_of, get_or_from_slice_get, slice_get}
use Rattle.dob_node.proofs.Common.{slice_get_within, ℕ}

-- one more is expanded where not all were
pub next_emitted : (expanded all count : ℕ) → expanded ≤ all → count ≡ all → (expanded ≡ count → ⊥) → expanded + 1 ≤ all
next_emitted expanded all count emitted is other = omega arith

-- a settlement of the history is of a class of the family
pub class_low : (family : Family) (n id : ℕ) (share : Share) (history : HistoryView) (number : ℕ) (s : Settlement) →
    AreKept family n id share history → slice_get history.settlements number ≡ Some s → s.class < classes_of family
class_low family n id share history number s kept there =
    rw (get_or_from_slice_get history.settlements number s s there) at (kept.classes number s (slice_get_within history.settlements number s there))
