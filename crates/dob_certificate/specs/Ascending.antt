-- The order of entries.
use Rattle.std.specs.Prelude.{ℕ, ◌+◌, ◌<◌, List, length, slice_index_or}
use Rattle.dob_certificate.specs.declared.entry.Entry.{Entry}

-- the entry at that place
abbrev pub listed_entry : List Entry → ℕ → Entry
listed_entry entries place = slice_index_or entries place (record { class = 0; plies = 0 })

-- its class
abbrev pub class_at : List Entry → ℕ → ℕ
class_at entries place = (listed_entry entries place).class

-- each class is above the one before it
abbrev pub AreAscending : List Entry → Type 0
AreAscending entries = (place : ℕ) → place + 1 < length entries → class_at entries place < class_at entries (place + 1)
