-- Sets of squares as masks: what the operations on bits make of them.
use Rattle.dob_pieces.proofs.Common.{◌%◌, ◌&&◌, ◌-◌, ◌<◌, ◌==◌, ◌^◌, ◌||◌, ◌∙◌, ◌≡◌, ◌≢◌, ◌≤◌, Bool, arith, bit_and, bit_or, false, inl, inr, not, refl}
use Rattle.dob_pieces.proofs.Common.{one_if}
use Rattle.dob_pieces.proofs.Common.{sym, true, ℕ, cases_eq, cases_lt, bit_not, trailing_zeros, IsMask, IsFirst, bit}
use Rattle.std.proofs.Common.{◌*◌, min, max, rules, w16}
use Rattle.std.proofs.lemmas.Nat.{and_le_l, or_lt}
use Rattle.std.proofs.lemmas.Nat.Bits.{bit_at_and, bit_at_or, bit_at_not, bit_at-trailing_zeros, bit_at_above, bit_at-lt, bit_at-zero, same_from_bits_below}
use Rattle.std.proofs.lemmas.Bool.Decides.{nat_tests}
use Rattle.std.specs.Simd.Lanes.{mask_l}
use Rattle.dob_pieces.proofs.Common.{true≢false, bit_at, bit_mask_l, get_or-map-range_with_len, map, mask_l-lt, range_with_len}
use Rattle.std.proofs.Math.Pow.{pow_mono}

min-bits : (a b : Bool) → min (one_if a) (one_if b) ≡ one_if (a && b)
min-bits true true = refl
min-bits false true = refl
min-bits _ _ = refl

max-bits : (a b : Bool) → max (one_if a) (one_if b) ≡ one_if (a || b)
max-bits true true = refl
max-bits false true = refl
max-bits _ _ = refl

-- the squares of both
pub IsMask-and : (f g : ℕ → Bool) (a b : ℕ) → IsMask f a → IsMask g b → IsMask (λ square. f square && g square) (bit_and a b)
IsMask-and f g a b is are = search (rules, bit_at_and, min-bits)

-- the squares of either
pub IsMask-or : (f g : ℕ → Bool) (a b : ℕ) → IsMask f a → IsMask g b → IsMask (λ square. f square || g square) (bit_or a b)
IsMask-or f g a b is are = record {
  within = or_lt 12 a b is.within are.within;
  bits = λ square lt. rw (bit_at_or a b square, is.bits square lt, are.bits square lt) (max-bits (f square) (g square));
}

without-bits : (a b : Bool) → min (one_if a) (1 - one_if b) ≡ one_if (a && not b)
without-bits true true = refl
without-bits false true = refl
without-bits _ _ = refl

-- the squares of the first that the second doesn't have
pub IsMask-without : (f g : ℕ → Bool) (a b : ℕ) → IsMask f a → IsMask g b → IsMask (λ square. f square && not (g square)) (bit_and a (bit_not w16 b))
IsMask-without f g a b is are = record {
  within = omega (arith, and_le_l a (bit_not w16 b), is.within);
  bits = λ square lt.
      let off = bit_at_not w16 b square (omega (arith, are.within)) (omega (arith, lt)) in
      rw (bit_at_and a (bit_not w16 b) square, off, are.bits square lt, is.bits square lt) (without-bits (f square) (g square));
}

-- a mask by a test that says the same
pub IsMask-same : (f g : ℕ → Bool) (a : ℕ) → ((square : ℕ) → square < 12 → f square ≡ g square) → IsMask f a → IsMask g a
IsMask-same f g a same is = grind arith

from_bit : (b : Bool) → one_if b ≡ 1 → b ≡ true
from_bit true e = refl
from_bit false e = absurd (omega arith)

from_no_bit : (b : Bool) → one_if b ≡ 0 → b ≡ false
from_no_bit true e = absurd (omega arith)
from_no_bit false e = refl

-- no square of an empty mask passes the test
pub none_passes : (test : ℕ → Bool) (mask : ℕ) → IsMask test mask → mask ≡ 0 → (square : ℕ) → square < 12 → test square ≡ false
none_passes test mask is e square lt = grind (arith, from_no_bit, bit_at-zero)

-- the lowest square of a mask that has one
pub record IsLowest (test : ℕ → Bool) (mask place : ℕ) : Type 0 where
  pub on_board : place < 12
  pub passes : test place ≡ true
  pub lowest : (square : ℕ) → square < place → test square ≡ false

pub lowest-lt : (mask : ℕ) → 0 < mask → mask < 4096 → trailing_zeros w16 mask < 12
lowest-lt mask some within =
    let found = bit_at-trailing_zeros w16 mask some (omega (arith, within)) in
    elim (cases_lt (trailing_zeros w16 mask) 12) [
      | inl lt ↦ lt
      | inr ge ↦ let no = bit_at_above mask 12 (trailing_zeros w16 mask) (omega (arith, within)) ge in absurd (omega (arith, no, found.1))
    ]

pub lowest_is : (test : ℕ → Bool) (mask place : ℕ) → IsMask test mask → IsFirst mask place → IsLowest test mask place
lowest_is test mask place is (some, e) =
    let within = is.within in
    let t = trailing_zeros w16 mask in
    let found = bit_at-trailing_zeros w16 mask some (omega (arith, within)) in
    let lt = lowest-lt mask some within in
    rw e (record {
      on_board = lt;
      passes = from_bit (test t) (sym (is.bits t lt) ∙ found.1);
      lowest = λ square below.
          from_no_bit (test square) (sym (is.bits square (let lt : square < 12 = omega arith in lt)) ∙ found.2 square below);
    })

-- a mask with a square that passes isn't empty
pub some_passes : (test : ℕ → Bool) (mask square : ℕ) → IsMask test mask → square < 12 → test square ≡ true → 0 < mask
some_passes test mask square is lt passes = grind (arith, none_passes)

pub passes_somewhere : (test : ℕ → Bool) (mask : ℕ) → IsMask test mask → mask ≢ 0 → (square : ℕ) × (square < 12) × (test square ≡ true)
passes_somewhere test mask is some =
    let it = lowest_is test mask (trailing_zeros w16 mask) is (omega (arith, some), refl) in (trailing_zeros w16 mask, it.on_board, it.passes)

-- and one in which none passes is
pub empty_mask : (test : ℕ → Bool) (mask : ℕ) → IsMask test mask → ((square : ℕ) → square < 12 → test square ≡ false) → mask ≡ 0
empty_mask test mask is none = elim (cases_eq mask 0) [
  | inl e ↦ e
  | inr some ↦ let it = passes_somewhere test mask is some in absurd (true≢false (sym it.2 ∙ none it.0 it.1))
]

-- a set by its own bits
pub own_mask : (mask : ℕ) → mask < 4096 → IsMask (λ square. bit_at mask square == 1) mask
own_mask mask within = record { within = within; bits = λ s lt. grind (arith, nat_tests, bit_at-lt mask s) }

pub mask_by_bits : (test : ℕ → Bool) (mask : ℕ) → IsMask test mask → mask ≡ mask_l (map test (range_with_len 0 12))
mask_by_bits test mask is = grind (arith, mask_l-lt, same_from_bits_below, bit_mask_l, get_or-map-range_with_len)

-- ---- one square more
pub bit-small : (square : ℕ) → square < 12 → bit square < 2 ^ 12
bit-small square lt =
    let le : square ≤ 11 = omega (arith, lt) in
    let low : 2 ^ square ≤ 2 ^ 11 = pow_mono le in
    omega (arith, low)

pub with_small : (mask square : ℕ) → square < 12 → mask < 4096 → bit_or mask (1 * 2 ^ square % 2 ^ 16) < 4096
with_small mask square lt within = or_lt 12 mask _ within (bit-small square lt)

-- what one function for each operation on sets is proved by
pub ruleset set_laws = (or_lt, bit-small, lowest-lt, with_small)
