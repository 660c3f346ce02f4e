-- Entries of a table as numbers: 0 is a draw, and a number above 0 is one more than the distance; odd distances are
-- wins and even ones losses.
use Rattle.std.specs.Prelude.{◌≡◌, ℕ, zero, suc, ◌+◌, ◌%◌, ◌≤◌, ◌==◌, if◌then◌else◌, List, map}
use Rattle.dob_pieces.specs.declared.profile.Profile.{Profile}
use Rattle.dob_pieces.specs.declared.setup.Setup.{Setup}
use Rattle.dob_distance.specs.declared.value.Value.{Value}
use Rattle.dob_distance.specs.declared.value.Value.TheVariants.{Win, Loss, Draw}
use Rattle.dob_distance.specs.declared.value.TheConstants.{MAX_DISTANCE}
use Rattle.dob_distance.specs.Values.{HasValue}

-- the value at that distance
abbrev pub value_at_distance : ℕ → Value
value_at_distance plies = if plies % 2 == 1 then Win plies else Loss plies

-- the value that a code stands for
abbrev pub value_of_code : ℕ → Value
value_of_code zero = Draw
value_of_code (suc plies) = value_at_distance plies

-- the values that codes stand for
abbrev pub values_of_codes : List ℕ → List Value
values_of_codes codes = map value_of_code codes

-- the code of a value
abbrev pub code_of_value : Value → ℕ
code_of_value (Win plies) = plies + 1
code_of_value (Loss plies) = plies + 1
code_of_value Draw = 0

-- the parity of a value's distance: odd for wins, even for losses
abbrev pub HasParity : Value → Type 0
HasParity (Win plies) = plies % 2 ≡ 1
HasParity (Loss plies) = plies % 2 ≡ 0
HasParity Draw = Unit {0}

-- wins come at odd and losses at even distances
abbrev pub ValuesHaveParity : Type 0
ValuesHaveParity = (profile : Profile) (p : Setup) (v : Value) → HasValue profile p v → HasParity v

-- a distance of at most MAX_DISTANCE
abbrev pub IsShort : Value → Type 0
IsShort (Win plies) = plies ≤ MAX_DISTANCE
IsShort (Loss plies) = plies ≤ MAX_DISTANCE
IsShort Draw = Unit {0}

-- wins have odd and losses even distances, at most MAX_DISTANCE
abbrev pub IsEntry : Value → Type 0
IsEntry (Win plies) = (plies % 2 ≡ 1) × (plies ≤ MAX_DISTANCE)
IsEntry (Loss plies) = (plies % 2 ≡ 0) × (plies ≤ MAX_DISTANCE)
IsEntry Draw = Unit {0}
