-- Walks over the squares of a set, from the first on.
use Rattle.dob_pieces.proofs.Common.{◌++◌, ◌+◌, ◌<◌, ◌==◌, ◌∙◌, ◌∷◌, ◌≡◌, ◌≢◌, ◌≤◌, Bool, List, [], ap, append-nil, append_assoc, arith, false, inl, inr}
use Rattle.dob_pieces.proofs.Common.{length}
use Rattle.dob_pieces.proofs.Common.{count_ones, ones-mask_l, refl, subst, suc, sym, true, zero, ℕ, cases_Bool, cases_eq, length-append, eq-eqb, ne_eqb}
use Rattle.dob_pieces.proofs.Common.{bit_at, range_with_len, each_below, IsFirst}
use Rattle.dob_pieces.proofs.Common.{IsMask, one_if, squares_in, w16, without_square}
use Rattle.std.specs.List.{All, filter, flat_map}
use Rattle.std.proofs.lemmas.List.{flat_map_more}
use Rattle.std.proofs.lemmas.List.Concat.{flat_map-append}
use Rattle.std.proofs.lemmas.List.Elements.{All-contains, Contains-append_right, filter_passes}
use Rattle.std.proofs.lemmas.List.Sums.{count_by-le-length, length-filter}
use Rattle.dob_pieces.proofs.Lists.{head_in, length-each}
use Rattle.dob_pieces.proofs.MaskBits.{lowest-lt, mask_by_bits, own_mask}
use Rattle.std.proofs.lemmas.Nat.{ones-le}
use Rattle.std.proofs.lemmas.Nat.Bits.{bit_at-trailing_zeros, bit_at_clear_other, bit_at_clear_same}

-- ---- numbers of a range that pass
filter_same : (p q : ℕ → Bool) (a n : ℕ) → ((k : ℕ) → a ≤ k → k < a + n → p k ≡ q k) → filter p (range_with_len a n) ≡ filter q (range_with_len a n)
filter_same p q a zero same = refl
filter_same p q a (suc n) same =
    rw (same a (omega arith) (omega arith), filter_same p q (a + 1) n (λ k le lt. same k (omega arith) (omega arith))) refl

-- the first that passes, and the others
filter_first : (p q : ℕ → Bool) (a n place : ℕ) → a ≤ place → place < a + n → p place ≡ true → ((k : ℕ) → k < place → p k ≡ false) → q place ≡ false
    → ((k : ℕ) → k < a + n → k ≢ place → q k ≡ p k) → filter p (range_with_len a n) ≡ place ∷ filter q (range_with_len a n)
filter_first p q a zero place le lt on before off others = absurd (omega arith)
filter_first p q a (suc n) place le lt on before off others = elim (cases_eq a place) [
  | inl here ↦
      rw (here, on, off) (ap (λ (xs : List ℕ). place ∷ xs)
      (filter_same p q (place + 1) n (λ k more less. sym (others k (omega (arith, here, less)) (λ e. omega (arith, e, more))))))
  | inr later ↦
      let none : p a ≡ false = before a (omega (arith, later)) in
      rw (others a (omega arith) later, none)
      (filter_first p q (a + 1) n place (omega (arith, later)) (omega (arith, lt)) on before off (λ k less apart. others k (omega (arith, less)) apart))
]

-- ---- the squares that pass a test
unfoldable pub passing : (ℕ → Bool) → List ℕ
passing test = filter test (range_with_len 0 12)

passing_few : (test : ℕ → Bool) → length (passing test) ≤ 12
unfolding passing
passing_few test = omega (arith, length-filter test (range_with_len 0 12), count_by-le-length test (range_with_len 0 12))

pub bit_is : (b : Bool) (n : ℕ) → n ≡ one_if b → (n == 1) ≡ b
bit_is true n e = eq-eqb n 1 e
bit_is false n e = ne_eqb n 1 (λ one. omega (arith, e, one))

-- are those of its set
pub squares_passing : (test : ℕ → Bool) (mask : ℕ) → IsMask test mask → squares_in mask ≡ passing test
unfolding squares_in passing
squares_passing test mask is =
    filter_same (λ square. bit_at mask square == 1) test 0 12 (λ k le lt. bit_is (test k) (bit_at mask k) (is.bits k (omega (arith, lt))))

-- none of an empty set
pub no_squares : (mask : ℕ) → mask ≡ 0 → squares_in mask ≡ []
unfolding squares_in
no_squares mask e = rw e refl

-- and else the first, and those of the set without it
pub first_square : (mask place : ℕ) → mask < 4096 → IsFirst mask place → squares_in mask ≡ place ∷ squares_in (without_square mask place)
unfolding squares_in
first_square mask place within (some, e) =
    let found = bit_at-trailing_zeros w16 mask some (omega (arith, within)) in
    let low = lowest-lt mask some within in
    let lt : place < 12 = omega (arith, e, low) in
    let here : place < 16 = omega (arith, lt) in
    let is_one : ℕ → Bool = λ n. n == 1 in
    filter_first (λ square. bit_at mask square == 1) (λ square. bit_at (without_square mask place) square == 1) 0 12 place (omega arith) lt
    (ap is_one (ap (bit_at mask) e ∙ found.1)) (λ k before. ap is_one (found.2 k (omega (arith, before, e))))
    (ap is_one (bit_at_clear_same w16 mask place here))
    (λ k below apart. ap is_one (bit_at_clear_other w16 mask place here k (omega (arith, below)) apart))

-- as many as bits
pub count_squares : (mask : ℕ) → mask < 4096 → count_ones mask ≡ length (squares_in mask)
unfolding squares_in
count_squares mask within =
    let test : ℕ → Bool = λ square. bit_at mask square == 1 in
    ap count_ones (mask_by_bits test mask (own_mask mask within)) ∙ ones-mask_l test (range_with_len 0 12) ∙ sym (length-filter test (range_with_len 0 12))

-- ---- what each square gives

module _ {X : Type 0} where
  -- where the test fails there is nothing
  abbrev pub IsQuiet : (ℕ → Bool) → (ℕ → List X) → Type 0
  IsQuiet test g = (k : ℕ) → test k ≡ false → g k ≡ []

  -- each square of the mask gives one item, and each other none
  abbrev pub IsCounting : (ℕ → Bool) → (ℕ → List X) → Type 0
  IsCounting test g = (k : ℕ) → length (g k) ≡ one_if (test k)

  of_passing : (test : ℕ → Bool) (g : ℕ → List X) → IsQuiet test g → (xs : List ℕ) → flat_map g (filter test xs) ≡ flat_map g xs
  of_passing test g quiet [] = refl
  of_passing test g quiet (x ∷ xs) = elim (cases_Bool (test x)) [
    | inl is ↦ rw is (ap (λ (ys : List X). g x ++ ys) (of_passing test g quiet xs))
    | inr isnt ↦ rw (isnt, quiet x isnt) (of_passing test g quiet xs)
  ]

  pub each_range : (g : ℕ → List X) → flat_map g (range_with_len 0 12) ≡ each_below g 12
  each_range g = simp (append_assoc, append-nil)

  each_passing : (test : ℕ → Bool) (g : ℕ → List X) → IsQuiet test g → flat_map g (passing test) ≡ each_below g 12
  unfolding passing
  each_passing test g quiet = of_passing test g quiet (range_with_len 0 12) ∙ each_range g

-- The squares of a set gone over, those that are left, and the items so far, which are those before and what the squares gone over give.
pub record IsWalked {X : Type 0} (test : ℕ → Bool) (g : ℕ → List X) (left : ℕ) (walked : List ℕ) (before items : List X) : Type 0 where
  pub squares_are : passing test ≡ walked ++ squares_in left
  pub items_are : items ≡ before ++ flat_map g walked

module _ {X : Type 0} where
  pub walk_start : (test : ℕ → Bool) (g : ℕ → List X) (mask : ℕ) (before : List X) → IsMask test mask → IsWalked test g mask [] before before
  walk_start test g mask before is = record { squares_are = sym (squares_passing test mask is); items_are = sym (append-nil before) }

module _ {X : Type 0} {test : ℕ → Bool} {g : ℕ → List X} {left : ℕ} {walked : List ℕ} {before items : List X}
    (w : IsWalked test g left walked before items) where
  pub walk_whole : squares_in left ≡ [] → items ≡ before ++ flat_map g (passing test)
  walk_whole none =
      w.items_are
      ∙ ap (λ (xs : List ℕ). before ++ flat_map g xs) (sym (w.squares_are ∙ ap (λ (xs : List ℕ). walked ++ xs) none ∙ append-nil walked))

  pub walk_end : IsQuiet test g → squares_in left ≡ [] → items ≡ before ++ each_below g 12
  walk_end quiet none = walk_whole none ∙ ap (λ (xs : List X). before ++ xs) (each_passing test g quiet)

  pub walk_most : length walked ≤ 12
  walk_most = omega (arith, ap length w.squares_are, length-append walked (squares_in left), passing_few test)

  -- the next square
  module _ {place : ℕ} {others : List ℕ} (next : squares_in left ≡ place ∷ others) where
    all_are : passing test ≡ walked ++ place ∷ others
    all_are = w.squares_are ∙ ap (λ (xs : List ℕ). walked ++ xs) next

    pub walk_passes : test place ≡ true
    unfolding passing
    walk_passes = All-contains (λ (s : ℕ). test s ≡ true) (walked ++ place ∷ others) place
        (subst (All (λ (s : ℕ). test s ≡ true)) all_are (filter_passes test (range_with_len 0 12)))
        (Contains-append_right walked (place ∷ others) place (head_in place others))

    pub walk_next : {rest : ℕ} {new : List X} → others ≡ squares_in rest → (test place ≡ true → new ≡ items ++ g place)
        → IsWalked test g rest (walked ++ place ∷ []) before new
    walk_next same more = record {
      squares_are = all_are ∙ sym (append_assoc walked (place ∷ []) others) ∙ ap (λ (xs : List ℕ). (walked ++ place ∷ []) ++ xs) same;
      items_are = more walk_passes ∙ ap (λ (xs : List X). xs ++ g place) w.items_are ∙ flat_map_more g before walked place;
    }

    -- there is room for what it gives where there is room for all
    pub walk_room : IsQuiet test g → length items + length (g place) ≤ length before + length (each_below g 12)
    walk_room quiet =
        let whole : each_below g 12 ≡ flat_map g walked ++ (g place ++ flat_map g others)
        = sym (each_passing test g quiet) ∙ ap (flat_map g) all_are ∙ flat_map-append g walked (place ∷ others) in
        omega (
          arith,
          ap length whole,
          length-append (flat_map g walked) (g place ++ flat_map g others),
          length-append (g place) (flat_map g others),
          ap length w.items_are,
          length-append before (flat_map g walked),
        )

    pub walk_room_one : IsQuiet test g → IsCounting test g → length items < length before + length (each_below g 12)
    walk_room_one quiet count = omega (arith, walk_room quiet, count place, ap one_if walk_passes)

    pub walk_few : length walked < 12
    walk_few = omega (arith, ap length all_are, length-append walked (place ∷ others), passing_few test)

-- so many items as the set has squares
pub counted_items : {X : Type 0} (test : ℕ → Bool) (g : ℕ → List X) (mask : ℕ) → IsCounting test g → IsMask test mask
    → length (squares_in mask) ≡ length (each_below g 12)
unfolding passing
counted_items test g mask count is =
    let all = squares_passing test mask is in
    let number = length-filter test (range_with_len 0 12) in
    let sum = length-each g 12 in
    omega (arith, ap length all, number, sum, count 0, count 1, count 2, count 3, count 4, count 5, count 6, count 7, count 8, count 9, count 10, count 11)

pub ruleset counts = (count_squares, ones-le)
