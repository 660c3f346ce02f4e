-- Values as other languages see them.
use Rattle.std.specs.Prelude.{◌≡◌, ℕ, List}
use Rattle.byteorder.specs.Endian.{little_bytes}
use Rattle.dob_distance.specs.declared.value.Value.{Value}
use Rattle.dob_distance.specs.Distances.{plies_of}
use Rattle.dob_distance.specs.Codes.{code_of_value, IsEntry}
use Rattle.dob_foreign.specs.Values.{outcome_number}
use Rattle.dobutsu_web.specs.declared.values.DobutsuValue.{DobutsuValue}

-- the record of the value
abbrev pub IsRecordOf : Value → List ℕ → Type 0
IsRecordOf value bytes = IsEntry value × (bytes ≡ little_bytes 2 (code_of_value value))

abbrev pub shown_value : Value → DobutsuValue
shown_value value = record { kind = outcome_number value; plies = plies_of value }
