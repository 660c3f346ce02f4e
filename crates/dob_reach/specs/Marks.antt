-- Marks of numbers, a bit each, 64 in a word.
use Rattle.std.specs.Prelude.{◌≡◌, ◌⊎◌, ℕ, ◌+◌, ◌*◌, ◌/◌, ◌%◌, ◌≤◌, List, length, slice_index_or, AllPairs, Contains}
use Rattle.std.specs.Int.{bit_at}

-- the number's bit
abbrev pub mark_of : List ℕ → ℕ → ℕ
mark_of words number = bit_at (slice_index_or words (number / 64) 0) (number % 64)

-- it is marked
abbrev pub IsMarked : List ℕ → ℕ → Type 0
IsMarked words number = mark_of words number ≡ 1

-- there are bits for so many numbers
abbrev pub HasBits : List ℕ → ℕ → Type 0
HasBits words count = count ≤ length words * 64

-- there is a bit for each number of the list
abbrev pub HaveBits : List ℕ → List ℕ → Type 0
HaveBits words numbers = (number : ℕ) → Contains numbers number → HasBits words (number + 1)

-- no mark is lost
pub record KeepsMarks (before words : List ℕ) : Type 0 where
  pub long : length words ≡ length before
  pub kept : (number : ℕ) → IsMarked before number → IsMarked words number

-- of some numbers those that weren't marked before are marked and listed, each once
pub record AreMarked (before words done next : List ℕ) : Type 0 where
  pub keeps : KeepsMarks before words
  pub marked : (number : ℕ) → IsMarked words number → IsMarked before number ⊎ Contains next number
  pub fresh : (number : ℕ) → Contains next number → ¬ IsMarked before number
  pub listed : (number : ℕ) → Contains next number → IsMarked words number × Contains done number
  pub whole : (number : ℕ) → Contains done number → IsMarked words number
  pub once : AllPairs (λ (a b : ℕ). ¬ (a ≡ b)) next
