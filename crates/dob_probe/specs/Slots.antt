-- What is counted of each code while a table's classes are gone over.
use Rattle.std.specs.Prelude.{◌≡◌, ℕ, ◌+◌, ◌%◌, ◌<◌, ◌^◌, drop, take, List, Option, Some, None, get_or, count_by}
use Rattle.dob_distance.specs.declared.value.Value.{Value}
use Rattle.dob_distance.specs.Codes.{code_of_value}
use Rattle.dob_probe.specs.declared.groups.Group.{Group}
use Rattle.dob_probe.specs.Statistics.{has_code, IsGroup}

-- no value has the code, or its group is there
abbrev pub HasSlot : List Value → ℕ → Option Group → Type 0
HasSlot values code None = count_by (has_code code) values ≡ 0
HasSlot values code (Some group) = (code_of_value group.value ≡ code) × IsGroup values group

-- of each code, also of those behind the last slot
abbrev pub AreSlots : List Value → List (Option Group) → Type 0
AreSlots values slots = (code : ℕ) → HasSlot values code (get_or slots code None)

-- so many of the values, from a place on
abbrev pub part_of : List Value → ℕ → ℕ → List Value
part_of values first count = take count (drop first values)

-- What both parts of the classes have of a code, of which the first has so many: the group of the first part has the first class, and where
-- it has none, that of the second one has, behind the first part. Sums are those of words.
abbrev pub both_slots : Option Group → Option Group → ℕ → Option Group
both_slots (Some group) (Some further) classes = Some (record group { classes = (group.classes + further.classes) % 2 ^ 64 })
both_slots (Some group) None classes = Some group
both_slots None (Some further) classes = Some (record further { first = (classes + further.first) % 2 ^ 64 })
both_slots None None classes = None

-- the slot's group with one class more
abbrev pub with_class : Option Group → Value → ℕ → Group
with_class (Some group) v class = record group { classes = group.classes + 1 }
with_class None v class = record { value = v; classes = 1; first = class }

-- one more can be counted
abbrev pub HasRoom : Option Group → Type 0
HasRoom None = Unit {0}
HasRoom (Some group) = group.classes + 1 < 2 ^ 64
