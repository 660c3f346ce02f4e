-- Numbers in the fewest bytes: seven bits in each, the lowest first, and 128 more in each but the last (LEB128).
use Rattle.std.specs.Prelude.{ℕ, zero, suc, ◌+◌, ◌*◌, ◌/◌, ◌%◌, List, [], ◌∷◌, nat_lt, if◌then◌else◌}

-- a number in at most so many bytes and one
unfoldable pub leb128 : ℕ → ℕ → List ℕ
leb128 zero number = number ∷ []
leb128 (suc more) number = if nat_lt number 128 then number ∷ [] else (128 + number % 128) ∷ leb128 more (number / 128)

-- the least number that has no place in so many bytes and one
abbrev pub leb128_limit : ℕ → ℕ
leb128_limit zero = 128
leb128_limit (suc more) = 128 * leb128_limit more

-- a number below 2 ^ 35: in at most five bytes
abbrev pub number_bytes : ℕ → List ℕ
number_bytes number = leb128 4 number
