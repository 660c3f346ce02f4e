-- Which word is which, and what a write to one leaves of the others.
use Rattle.std.proofs.Common.{◌≡◌, ◌≢◌, true, false, cond, eqb, eq-eqb, ne_eqb, refl, ℕ, suc, ◌+◌, ◌*◌, ◌<◌, ◌≤◌, List, length, set, get_or, ◌∙◌, arith, inl}
use Rattle.std.proofs.Common.{inr, get_or-set_same, get_or-set_other}
use Rattle.dob_board.proofs.Names.{mul-add-lt, same_from_place, Raises, CountsStay, posted_word, taken_word, word_count}

pub posted_below : (n i j : ℕ) → i < n → j < n → posted_word n i j < 3 + n * n
posted_below n i j i_in j_in = omega (arith, mul-add-lt i n j n i_in j_in)

pub posted_within : (n i j : ℕ) → i < n → j < n → posted_word n i j < word_count n
posted_within n i j i_in j_in = omega (arith, mul-add-lt i n j n i_in j_in)

pub taken_within : (n i j : ℕ) → i < n → j < n → taken_word n i j < word_count n
taken_within n i j i_in j_in = omega (arith, mul-add-lt i n j n i_in j_in)

pub posted_place : (n i j k l : ℕ) → j < n → l < n → posted_word n i j ≡ posted_word n k l → (i ≡ k) × (j ≡ l)
posted_place n i j k l j_in l_in e = same_from_place i j k l n j_in l_in (omega (arith, e))

pub taken_place : (n i j k l : ℕ) → j < n → l < n → taken_word n i j ≡ taken_word n k l → (i ≡ k) × (j ≡ l)
taken_place n i j k l j_in l_in e = same_from_place i j k l n j_in l_in (omega (arith, e))

-- ---- after a write

-- the counts of the links, read off the words
abbrev pub posted_in : ℕ → List ℕ → ℕ → ℕ → ℕ
posted_in n words i j = get_or words (posted_word n i j) 0

abbrev pub taken_in : ℕ → List ℕ → ℕ → ℕ → ℕ
taken_in n words i j = get_or words (taken_word n i j) 0

pub posted_raised : (n i j : ℕ) (words : List ℕ) (v : ℕ) → length words ≡ word_count n → i < n → j < n → v ≡ suc (posted_in n words i j) →
    Raises n (posted_in n words) (posted_in n (set words (posted_word n i j) v)) i j
posted_raised n i j words v wide i_in j_in is = record {
  one_more = get_or-set_same words (posted_word n i j) v 0 (omega (arith, posted_within n i j i_in j_in, wide)) ∙ is;
  others = λ k l k_in l_in apart. get_or-set_other words (posted_word n i j) (posted_word n k l) v 0
      (λ e. let same = posted_place n k l i j l_in j_in e in elim apart [ inl ne ↦ ne same.0 | inr ne ↦ ne same.1 ]);
}

pub taken_raised : (n i j : ℕ) (words : List ℕ) (v : ℕ) → length words ≡ word_count n → i < n → j < n → v ≡ suc (taken_in n words i j) →
    Raises n (taken_in n words) (taken_in n (set words (taken_word n i j) v)) i j
taken_raised n i j words v wide i_in j_in is = record {
  one_more = get_or-set_same words (taken_word n i j) v 0 (omega (arith, taken_within n i j i_in j_in, wide)) ∙ is;
  others = λ k l k_in l_in apart. get_or-set_other words (taken_word n i j) (taken_word n k l) v 0
      (λ e. let same = taken_place n k l i j l_in j_in e in elim apart [ inl ne ↦ ne same.0 | inr ne ↦ ne same.1 ]);
}

-- a write to what was posted leaves what was taken, and the other way round
pub taken_stays : (n i j : ℕ) (words : List ℕ) (v : ℕ) → i < n → j < n →
    CountsStay n (taken_in n words) (taken_in n (set words (posted_word n i j) v))
taken_stays n i j words v i_in j_in k l k_in l_in =
    get_or-set_other words (posted_word n i j) (taken_word n k l) v 0 (λ e. omega (arith, e, posted_below n i j i_in j_in))

pub posted_stays : (n i j : ℕ) (words : List ℕ) (v : ℕ) → i < n → j < n →
    CountsStay n (posted_in n words) (posted_in n (set words (taken_word n i j) v))
posted_stays n i j words v i_in j_in k l k_in l_in =
    get_or-set_other words (taken_word n i j) (posted_word n k l) v 0 (λ e. omega (arith, e, posted_below n k l k_in l_in))

-- a write behind the first three words leaves these
pub head_stays : (words : List ℕ) (w v k : ℕ) → 3 ≤ w → k < 3 → get_or (set words w v) k 0 ≡ get_or words k 0
head_stays words w v k behind before = get_or-set_other words w k v 0 (λ e. omega (arith, e))

-- ---- a function with another value at i
abbrev pub with_at : {A : Type 0} → ℕ → A → (ℕ → A) → ℕ → A
with_at i x f k = cond (eqb k i) x (f k)

pub with_here : {A : Type 0} (i : ℕ) (x : A) (f : ℕ → A) → with_at i x f i ≡ x
with_here i x f = let same : eqb i i ≡ true = eq-eqb i i refl in rw same refl

pub with_else : {A : Type 0} (i k : ℕ) (x : A) (f : ℕ → A) → k ≢ i → with_at i x f k ≡ f k
with_else i k x f apart = let other : eqb k i ≡ false = ne_eqb k i apart in rw other refl
