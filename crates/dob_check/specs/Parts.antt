-- The parts of a table's classes that are looked at by themselves.
use Rattle.std.specs.Prelude.{ℕ, ◌+◌, ◌-◌, ◌*◌, ◌/◌, ◌≤◌, List, length, min}
use Rattle.dob_distance.specs.declared.value.Value.{Value}
use Rattle.dob_probe.specs.Slots.{AreSlots, part_of}
use Rattle.dob_check.specs.declared.counts.SlotPart.{SlotPart}

-- how many parts there are: whole ones, and what is left behind them, which may be none
abbrev pub part_count : List Value → ℕ
part_count values = length values / 65536 + 1

-- the part of that place begins at a class, or behind the last one
pub record IsPlace (values : List Value) (place : ℕ) : Type 0 where
  pub begins : place * 65536 ≤ length values

-- how many classes the part of that place has
abbrev pub part_size : List Value → ℕ → ℕ
part_size values place = min 65536 (length values - place * 65536)

-- where its classes end
abbrev pub part_end : List Value → ℕ → ℕ
part_end values place = place * 65536 + part_size values place

-- what is counted of the part of that place
pub record IsPart (values : List Value) (place : ℕ) (part : SlotPart) : Type 0 where
  pub counted : AreSlots (part_of values (place * 65536) (part_size values place)) part.slots.items
