-- How far a check is, as is reported to a watch.
use Rattle.std.specs.Prelude.{◌≡◌, ◌⊎◌, ◌+◌, ◌*◌, ℕ, ◌-◌, ◌%◌, ◌<◌, ◌≤◌, ◌==◌, List, if◌then◌else◌, length}
use Rattle.dob_distance.specs.declared.value.Value.{Value}
use Rattle.dob_check.specs.Parts.{part_end}

-- of so many classes of a table so many are reported to the watch once the first of them are looked at: of whole runs of 65,536, and at the end of all
abbrev pub told_of : ℕ → ℕ → ℕ
told_of count looked = if looked == count then looked else looked - looked % 65536

-- Of so many classes at that one the watch learns of those that are more than at the one before, if there are any.
abbrev pub IsToldAt : (ℕ → Type 0) → ℕ → ℕ → Type 0
IsToldAt Told count class = (news : ℕ) × (told_of count class + news ≡ told_of count (class + 1)) × ((news ≡ 0) ⊎ Told news)

-- so at each class of the part of that place
abbrev pub IsToldIn : (ℕ → Type 0) → List Value → ℕ → Type 0
IsToldIn Told values place = (class : ℕ) → place * 65536 ≤ class → class < part_end values place → IsToldAt Told (length values) class
