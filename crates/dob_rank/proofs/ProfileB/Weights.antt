-- Weighted counts: the weight of a choice, and how many numbers stand for allowed forms. A profile allows a board by the forms of its chicks.
use Rattle.dob_rank.proofs.Common.{◌%◌, ◌&&◌, ◌*◌, ◌+◌, ◌/◌, ◌<◌, ◌^◌, ◌∙◌, ◌∷◌, ◌≡◌, Bool, List, [], ap, arith, false, inl, inr, refl, subst, suc, sym, true}
use Rattle.dob_rank.proofs.Common.{ℕ, mod-mul, mod-eq_of_lt, mul_comm, pow-succ', pow-zero, cases_eq, eq-eqb, ne_eqb, div-mul-add, mod-mul-add, mod_below}
use Rattle.dob_rank.proofs.Common.{same_from_place, sum_blocks, sum_same, sum_times, marks_below, one_if, count, sum_below, are_allowed, weight, ◌≤◌, nat_tests}
use Rattle.dob_rank.proofs.Common.{zero, may_all_stand, Profile, B, base_of, board_of, cell_of, order, may_have, Chicks, Empty}
use Rattle.dob_rank.proofs.Boards.Choices.{count_same}
use Rattle.dob_rank.proofs.Boards.FormDigits.{power_positive}
use Rattle.dob_pieces.specs.Profiles.{may_stand}
use Rattle.dob_rank.proofs.Boards.Settled.{AreLayers}

-- ---- choices
pub weight_same : (w : ℕ → ℕ) (t s : ℕ) (ls : List ℕ) → weight w t s (t ∷ ls) ≡ w s * weight w t (suc s) ls
weight_same w t s ls = rw (eq-eqb t t refl) refl

-- ---- forms
pub one_if-and : (a b : Bool) → one_if (a && b) ≡ one_if a * one_if b
one_if-and true b = (let e : one_if b ≡ 1 * one_if b = omega arith in e)
one_if-and false b = (let e : 0 ≡ 0 * one_if b = omega arith in e)

-- the two low digits of numbers with one remainder
low_digits : (n m b w : ℕ) → 0 < b → 0 < w → n % (b * w) ≡ m % (b * w) → (n / w % b ≡ m / w % b) × (n % w ≡ m % w)
low_digits n m b w hb hw e = same_from_place (n / w % b) (n % w) (m / w % b) (m % w) w (mod_below n w hw) (mod_below m w hw)
    (sym (mod-mul n hb hw) ∙ e ∙ mod-mul m hb hw)

more_digits : (base t : ℕ) (ls : List ℕ) → base ^ count t (t ∷ ls) ≡ base * base ^ count t ls
more_digits base t ls = ap (λ (x : ℕ). base ^ x) (count_same t ls) ∙ pow-succ' base (count t ls)

-- only the low digits of the number matter
pub allowed_low : (ok : ℕ → ℕ → Bool) (base t n m s : ℕ) (ls : List ℕ) → 0 < base → n % base ^ count t ls ≡ m % base ^ count t ls
    → are_allowed ok base t n s ls ≡ are_allowed ok base t m s ls
allowed_low ok base t n m s [] h e = refl
allowed_low ok base t n m s (l ∷ ls) h e =
    let two = low_digits n m base (base ^ count t ls) h (power_positive base (count t ls) h) in
    grind (arith, nat_tests, two, pow-succ' base (count t ls), allowed_low ok base t n m (suc s) ls h)

-- of one more piece its own form and those of the others
pub one_more : (ok : ℕ → ℕ → Bool) (base t q r s : ℕ) (ls : List ℕ) → 0 < base → q < base → r < base ^ count t ls
    → are_allowed ok base t (q * base ^ count t ls + r) s (t ∷ ls) ≡ ok s q && are_allowed ok base t r (suc s) ls
one_more ok base t q r s ls h lq lr = rw (
  eq-eqb t t refl,
  div-mul-add q (base ^ count t ls) r lr,
  mod-eq_of_lt lq,
  allowed_low ok base t (q * base ^ count t ls + r) r (suc s) ls h (mod-mul-add q (base ^ count t ls) r lr ∙ sym (mod-eq_of_lt lr)),
) refl

-- the allowed numbers whose first piece has a lower form
pub lower_forms : (ok : ℕ → ℕ → Bool) (base t q s : ℕ) (ls : List ℕ) → 0 < base → q ≤ base
    → sum_below (λ p. sum_below (λ k. one_if (are_allowed ok base t (p * base ^ count t ls + k) s (t ∷ ls))) (base ^ count t ls)) q
    ≡ sum_below (λ p. one_if (ok s p)) q * sum_below (λ (k : ℕ). one_if (are_allowed ok base t k (suc s) ls)) (base ^ count t ls)
lower_forms ok base t q s ls h upto =
    sum_same _ (λ p. sum_below (λ (k : ℕ). one_if (are_allowed ok base t k (suc s) ls)) (base ^ count t ls) * one_if (ok s p)) q
    (λ p lp. sum_same _ (λ k. one_if (ok s p) * one_if (are_allowed ok base t k (suc s) ls)) (base ^ count t ls)
    (λ k lk. ap one_if (one_more ok base t p k s ls h (omega (arith, lp, upto)) lk) ∙ one_if-and (ok s p) (are_allowed ok base t k (suc s) ls))
    ∙ sum_times (one_if (ok s p)) _ (base ^ count t ls) ∙ mul_comm (one_if (ok s p)) _)
    ∙ sum_times _ (λ p. one_if (ok s p)) q ∙ mul_comm _ (sum_below (λ p. one_if (ok s p)) q)

-- how many of the numbers of forms are allowed
pub forms_weigh : (ok : ℕ → ℕ → Bool) (base t s : ℕ) (ls : List ℕ) → 0 < base
    → marks_below (λ number. are_allowed ok base t number s ls) (base ^ count t ls) ≡ weight (λ square. marks_below (ok square) base) t s ls
unfolding marks_below
forms_weigh ok base t s [] h = ap (λ (x : ℕ). sum_below (λ (r : ℕ). one_if true) x) (pow-zero base)
forms_weigh ok base t s (l ∷ ls) h =
    let rest : sum_below (λ (r : ℕ). one_if (are_allowed ok base t r (suc s) ls)) (base ^ count t ls)
    ≡ weight (λ square. sum_below (λ (r : ℕ). one_if (ok square r)) base) t (suc s) ls = forms_weigh ok base t (suc s) ls h in
    elim (cases_eq l t) [
      | inl e ↦ subst (λ (x : ℕ). sum_below (λ (n : ℕ). one_if (are_allowed ok base t n s (x ∷ ls))) (base ^ count t (x ∷ ls))
          ≡ weight (λ square. sum_below (λ (r : ℕ). one_if (ok square r)) base) t s (x ∷ ls)) (sym e)
          (ap (λ (x : ℕ). sum_below (λ (n : ℕ). one_if (are_allowed ok base t n s (t ∷ ls))) x)
          (more_digits base t ls ∙ (let z : base * base ^ count t ls ≡ base * base ^ count t ls + 0 = omega arith in z))
          ∙ sum_blocks (λ (n : ℕ). one_if (are_allowed ok base t n s (t ∷ ls))) (base ^ count t ls) base 0
          ∙ omega (arith, lower_forms ok base t base s ls h (omega arith))
          ∙ ap (λ (x : ℕ). sum_below (λ q. one_if (ok s q)) base * x) rest
          ∙ sym (weight_same (λ square. sum_below (λ (r : ℕ). one_if (ok square r)) base) t s ls))
      | inr o ↦ rw (ne_eqb l t o) (grind (arith, rest))
    ]

-- ---- boards by the forms of their chicks

-- what isn't a chick may stand anywhere
others_stand : (profile : Profile) (square l form : ℕ) → l ≤ order Empty → (l ≡ order Chicks → ⊥) → may_stand profile square (cell_of l form) ≡ true
others_stand B square (suc (suc zero)) form h n = absurd (n refl)
others_stand B square (suc (suc (suc zero))) (suc form) h n = refl
others_stand B square (suc (suc (suc (suc zero)))) (suc form) h n = refl
others_stand B square (suc (suc (suc (suc (suc (suc l)))))) form h n = absurd (omega arith)
others_stand profile square l form h n = refl

-- a board is allowed just where its chicks' forms are
pub board_allowed : (profile : Profile) (numbers : ℕ → ℕ) (square : ℕ) (ls : List ℕ) → AreLayers ls
    → may_all_stand profile square (board_of numbers ls)
    ≡ are_allowed (may_have profile) (base_of (order Chicks)) (order Chicks) (numbers (order Chicks)) square ls
board_allowed profile numbers square [] a = refl
board_allowed profile numbers square (l ∷ ls) a =
    let other = others_stand profile square l (numbers l / base_of l ^ count l ls % base_of l) a.0 in
    grind (arith, nat_tests, board_allowed profile numbers (suc square) ls a.1, other)
