-- Ranks number the positions of a set, in their order.
use Rattle.dob_rank.proofs.Common.{◌+◌, ◌<◌, ◌∙◌, ◌≡◌, ◌≤◌, List, ap, arith, inl, inr, refl, subst, suc, sym, zero, ℕ, cases_lt, PieceSet, Setup, same_block}
use Rattle.dob_rank.proofs.Common.{sum_below-rises, HasDigits, bases_by, block_bases, block_of, block_size, digits, digits_of, find, nth, number_of, on_board}
use Rattle.dob_rank.proofs.Common.{product, rank_of_set, setup_by, setup_in, size_of_set, sum_below, Before, IsPositionOfSet, key, nat_tests}
pub use Rattle.dob_rank.specs.Numbers.{place_of, HasBlock}
use Rattle.dob_rank.proofs.Arithmetic.MixedRadix.{number_of-below, number_of-rises, HasDigits-digits_of, number_of-digits_of, digits_of-number_of}
use Rattle.dob_rank.proofs.Arithmetic.MixedRadix.{number_of-upto}
use Rattle.dob_rank.proofs.Positions.Digits.{HasParts, HasParts-from_position, HasDigits-on_board, HasDigits-digits, setup_by-back}
use Rattle.dob_rank.proofs.Positions.Made.{made, HasBoth}
use Rattle.dob_rank.proofs.Positions.Blocks.{block_size-product}
use Rattle.dob_rank.proofs.Positions.Keys.{key-upto}
use Rattle.dob_rank.proofs.Arithmetic.Order.{Upto, Upto-from, Precedes-irreflexive, Precedes-or}

-- ---- a rank is the start of its block and the place there
pub rank_of_set-place : (set : PieceSet) (s : Setup) → rank_of_set set s ≡ sum_below (block_size set) (block_of set s) + place_of set s
unfolding rank_of_set
rank_of_set-place set s = refl

pub block_of-below : (set : PieceSet) (s : Setup) → IsPositionOfSet set s → block_of set s < product (block_bases set)
block_of-below set s p = number_of-below (block_bases set) (on_board s) (HasDigits-on_board set s (HasParts-from_position set s p))

pub on_board-block : (set : PieceSet) (s : Setup) → IsPositionOfSet set s → digits_of (block_bases set) (block_of set s) ≡ on_board s
on_board-block set s p = digits_of-number_of (block_bases set) (on_board s) (HasDigits-on_board set s (HasParts-from_position set s p))

pub place_of-below : (set : PieceSet) (s : Setup) → IsPositionOfSet set s → place_of set s < block_size set (block_of set s)
place_of-below set s p =
    subst (λ (n : ℕ). place_of set s < n) (ap (λ (xs : List ℕ). product (bases_by set xs)) (sym (on_board-block set s p))
    ∙ sym (block_size-product set (block_of set s)))
    (number_of-below (bases_by set (on_board s)) (digits s) (HasDigits-digits set s (HasParts-from_position set s p)))

pub rank_of_set-below : (set : PieceSet) (s : Setup) → IsPositionOfSet set s → rank_of_set set s < size_of_set set
unfolding size_of_set
rank_of_set-below set s p =
    let low = place_of-below set s p in
    let upto = sum_below-rises (block_size set) (block_of set s) (product (block_bases set)) (block_of-below set s p) in
    let is = rank_of_set-place set s in
    omega arith

-- the block and place of a position give it back
pub setup_in-back : (set : PieceSet) (s : Setup) → IsPositionOfSet set s → setup_in set (block_of set s) (place_of set s) ≡ s
setup_in-back set s p =
    let h : HasParts set s = HasParts-from_position set s p in
    ap (λ (xs : List ℕ). setup_by set xs (digits_of (bases_by set xs) (place_of set s))) (on_board-block set s p)
    ∙ ap (setup_by set (on_board s)) (digits_of-number_of (bases_by set (on_board s)) (digits s) (HasDigits-digits set s h))
    ∙ setup_by-back set s h

-- ---- a place below its block's size
pub record IsPlace (set : PieceSet) (block place : ℕ) : Type 0 where
  pub block_below : block < product (block_bases set)
  pub place_below : place < block_size set block

-- any place makes a position of the set that has that block and place

pub HasBlock-setup_in : (set : PieceSet) (block place : ℕ) → IsPlace set block place → HasBlock set block place (setup_in set block place)
HasBlock-setup_in set block place p =
    let low : place < product (bases_by set (digits_of (block_bases set) block)) = subst (λ (n : ℕ). place < n) (block_size-product set block) p.place_below in
    let b : HasBoth set (digits_of (block_bases set) block) (digits_of (bases_by set (digits_of (block_bases set) block)) place) (setup_in set block place)
    = made set (digits_of (block_bases set) block) (digits_of (bases_by set (digits_of (block_bases set) block)) place)
    (HasDigits-digits_of (block_bases set) block p.block_below)
    (HasDigits-digits_of (bases_by set (digits_of (block_bases set) block)) place low) in
    record {
      position = b.position;
      block_is = ap (number_of (block_bases set)) b.on_board_is ∙ number_of-digits_of (block_bases set) block p.block_below;
      place_is = ap (λ (xs : List ℕ). number_of (bases_by set xs) (digits (setup_in set block place))) b.on_board_is
          ∙ ap (number_of (bases_by set (digits_of (block_bases set) block))) b.digits_are
          ∙ number_of-digits_of (bases_by set (digits_of (block_bases set) block)) place low;
    }

-- sums of a start and a place
lower : (rp rq a x w b y : ℕ) → rp ≡ a + x → rq ≡ b + y → x < w → a + w ≤ b → rp ≤ rq
lower rp rq a x w b y h k l m = omega arith

nearer : (rp rq a x z b y : ℕ) → rp ≡ a + x → rq ≡ b + y → z ≤ y → x ≡ z → a ≡ b → rp ≤ rq
nearer rp rq a x z b y h k l m n = omega arith

cancel : (a b x y : ℕ) → a ≡ b → a + x ≡ b + y → x ≡ y
cancel a b x y h k = omega arith

-- ---- the order

-- a position with a key that is no later has no higher rank
rank_of_set-upto : (set : PieceSet) (p q : Setup) → IsPositionOfSet set p → IsPositionOfSet set q → Upto (key p) (key q) → rank_of_set set p ≤ rank_of_set set q
rank_of_set-upto set p q hp hq h =
    let rp : rank_of_set set p ≡ sum_below (block_size set) (block_of set p) + place_of set p = rank_of_set-place set p in
    let rq : rank_of_set set q ≡ sum_below (block_size set) (block_of set q) + place_of set q = rank_of_set-place set q in
    elim (key-upto set p q hp hq h) [
      | inl lt ↦ (let a : block_of set p < block_of set q
          = number_of-rises (block_bases set) (on_board p) (on_board q) (HasDigits-on_board set p (HasParts-from_position set p hp))
          (HasDigits-on_board set q (HasParts-from_position set q hq)) lt in
          lower (rank_of_set set p) (rank_of_set set q) (sum_below (block_size set) (block_of set p)) (place_of set p) (block_size set (block_of set p))
          (sum_below (block_size set) (block_of set q)) (place_of set q) rp rq (place_of-below set p hp)
          (sum_below-rises (block_size set) (block_of set p) (block_of set q) a))
      | inr r ↦ (let dp : HasDigits (bases_by set (on_board q)) (digits p)
          = subst (λ (xs : List ℕ). HasDigits (bases_by set xs) (digits p)) r.0 (HasDigits-digits set p (HasParts-from_position set p hp)) in
          nearer (rank_of_set set p) (rank_of_set set q) (sum_below (block_size set) (block_of set p)) (place_of set p)
          (number_of (bases_by set (on_board q)) (digits p)) (sum_below (block_size set) (block_of set q)) (place_of set q) rp rq
          (number_of-upto (bases_by set (on_board q)) (digits p) (digits q) refl dp (HasDigits-digits set q (HasParts-from_position set q hq)) r.1)
          (ap (λ (xs : List ℕ). number_of (bases_by set xs) (digits p)) r.0)
          (ap (λ (xs : List ℕ). sum_below (block_size set) (number_of (block_bases set) xs)) r.0))
    ]

-- positions of one set with one rank are one
pub rank_of_set-same : (set : PieceSet) (p q : Setup) → IsPositionOfSet set p → IsPositionOfSet set q → rank_of_set set p ≡ rank_of_set set q → p ≡ q
rank_of_set-same set p q hp hq e =
    let sums : sum_below (block_size set) (block_of set p) + place_of set p ≡ sum_below (block_size set) (block_of set q) + place_of set q
    = sym (rank_of_set-place set p) ∙ e ∙ rank_of_set-place set q in
    let block : block_of set p ≡ block_of set q
    = same_block (block_size set) (block_of set p) (block_of set q) (place_of set p) (place_of set q)
    (place_of-below set p hp) (place_of-below set q hq) sums in
    let start : sum_below (block_size set) (block_of set p) ≡ sum_below (block_size set) (block_of set q) = ap (sum_below (block_size set)) block in
    let place : place_of set p ≡ place_of set q
    = cancel (sum_below (block_size set) (block_of set p)) (sum_below (block_size set) (block_of set q)) (place_of set p) (place_of set q) start sums in
    sym (setup_in-back set p hp) ∙ ap (λ (b : ℕ). setup_in set b (place_of set p)) block ∙ ap (setup_in set (block_of set q)) place ∙ setup_in-back set q hq

pub rank_of_set-rises : (set : PieceSet) (p q : Setup) → IsPositionOfSet set p → IsPositionOfSet set q → Before p q → rank_of_set set p < rank_of_set set q
unfolding Before
rank_of_set-rises set p q hp hq h =
    let upto = rank_of_set-upto set p q hp hq (Upto-from (key p) (key q) h) in
    elim (cases_lt (rank_of_set set p) (rank_of_set set q)) [
      | inl lt ↦ lt
      | inr ge ↦ absurd (Precedes-irreflexive (key q) (rw (rank_of_set-same set p q hp hq (omega (arith, upto, ge))) at h))
    ]

-- a lower rank stands before
pub Before-from_rank : (set : PieceSet) (p q : Setup) → IsPositionOfSet set p → IsPositionOfSet set q → rank_of_set set p < rank_of_set set q → Before p q
unfolding Before
Before-from_rank set p q hp hq lt = elim (Precedes-or (key p) (key q)) [ inl h ↦ h | inr u ↦ absurd (omega (arith, lt, rank_of_set-upto set q p hq hp u)) ]

-- ---- the numbering
record IsFound (f : ℕ → ℕ) (blocks n : ℕ) (at : ℕ × ℕ) : Type 0 where
  block_below : at.0 < blocks
  place_below : at.1 < f at.0
  whole : sum_below f at.0 + at.1 ≡ n

find-found : (f : ℕ → ℕ) (blocks n : ℕ) → n < sum_below f blocks → IsFound f blocks n (find f blocks n)
find-found f zero n h = absurd (omega arith)
find-found f (suc b) n h = grind (arith, nat_tests, find-found f b n)

pub nth-is : (set : PieceSet) (n : ℕ)
    → nth set n ≡ setup_in set (find (block_size set) (product (block_bases set)) n).0 (find (block_size set) (product (block_bases set)) n).1
unfolding nth
nth-is set n = refl

nth-found : (set : PieceSet) (n : ℕ) → n < size_of_set set
    → IsFound (block_size set) (product (block_bases set)) n (find (block_size set) (product (block_bases set)) n)
unfolding size_of_set
nth-found set n h = find-found (block_size set) (product (block_bases set)) n h

pub nth-block : (set : PieceSet) (n : ℕ) → n < size_of_set set
    → HasBlock set (find (block_size set) (product (block_bases set)) n).0 (find (block_size set) (product (block_bases set)) n).1 (nth set n)
nth-block set n h =
    let r = nth-found set n h in rw (nth-is set n) (HasBlock-setup_in set _ _ (record { block_below = r.block_below; place_below = r.place_below }))

-- the setup of a place has the rank of that place
pub rank_of_set-block : (set : PieceSet) (block place : ℕ) (s : Setup) → HasBlock set block place s → rank_of_set set s ≡ sum_below (block_size set) block +
    place
rank_of_set-block set block place s h = rank_of_set-place set s ∙ rw (h.block_is, h.place_is) refl

pub rank_of_set-nth : (set : PieceSet) (n : ℕ) → n < size_of_set set → rank_of_set set (nth set n) ≡ n
rank_of_set-nth set n h = rank_of_set-block set _ _ (nth set n) (nth-block set n h) ∙ (nth-found set n h).whole

pub nth-rank_of_set : (set : PieceSet) (s : Setup) → IsPositionOfSet set s → nth set (rank_of_set set s) ≡ s
nth-rank_of_set set s p = rank_of_set-same set (nth set (rank_of_set set s)) s (nth-block set (rank_of_set set s) (rank_of_set-below set s p)).position p
    (rank_of_set-nth set (rank_of_set set s) (rank_of_set-below set s p))
