-- Sums over the choices of two of ten squares, each square with its forms: before a choice stand those whose first square is before its own, and those with its
-- first square whose second one is before its own.
use Rattle.dob_rank.proofs.Common.{◌&&◌, ◌*◌, ◌+◌, ◌-◌, ◌/◌, ◌<◌, ◌∙◌, ◌≡◌, ◌≤◌, ◌⊎◌, Bool, ap, arith, cond, inl, inr, nat_eq, nat_lt, not, refl, subst, suc, sym}
use Rattle.dob_rank.proofs.Common.{true, zero, ℕ, ◌||◌, all_below, all_below-at, sum_below, sum_below-rises, lower_of, higher_of, nat_tests}
use Rattle.dob_rank.proofs.Common.{add-mul, cases_eq, cases_lt, ltb-true, mul-le-mul}

-- ---- the choices in their order

-- after a choice its second square is the next one, or, where that was the last, the first one is
abbrev is_next : ℕ → Bool
is_next c =
    let i = lower_of 10 c in
    let j = higher_of 10 c in
    let k = lower_of 10 (suc c) in
    let l = higher_of 10 (suc c) in
    cond (nat_eq j 9) (nat_eq k (suc i) && nat_eq l (suc (suc i))) (nat_eq k i && nat_eq l (suc j))

all_next : all_below is_next 44 ≡ true
all_next = refl

record IsNext (i j k l : ℕ) : Type 0 where
  same : (j ≡ 9 → ⊥) → (k ≡ i) × (l ≡ suc j)
  new : j ≡ 9 → (k ≡ suc i) × (l ≡ suc (suc i))

next_by : (i j k l : ℕ) → cond (nat_eq j 9) (nat_eq k (suc i) && nat_eq l (suc (suc i))) (nat_eq k i && nat_eq l (suc j)) ≡ true → IsNext i j k l
next_by i j k l e = record { same = λ n. grind (arith, nat_tests, e); new = λ n. grind (arith, nat_tests, e) }

-- the second square comes after the first
abbrev is_rising : ℕ → Bool
is_rising c = nat_lt (lower_of 10 c) (higher_of 10 c)

all_rising : all_below is_rising 45 ≡ true
all_rising = refl

pub pair_rises : (c : ℕ) → c < 45 → lower_of 10 c < higher_of 10 c
pair_rises c low = ltb-true (lower_of 10 c) (higher_of 10 c) (all_below-at is_rising 45 c all_rising low)

-- a choice's number by its squares
abbrev pub pair_number : ℕ → ℕ → ℕ
pair_number i j = i * (19 - i) / 2 + j - i - 1

abbrev is_numbered : ℕ → ℕ → Bool
is_numbered i j = not (nat_lt i j) || (nat_lt (pair_number i j) 45 && (nat_eq (lower_of 10 (pair_number i j)) i && nat_eq (higher_of 10 (pair_number i j)) j))

all_numbered : all_below (λ i. all_below (is_numbered i) 10) 10 ≡ true
all_numbered = refl

pub record IsPair (c i j : ℕ) : Type 0 where
  pub below : c < 45
  pub first : lower_of 10 c ≡ i
  pub second : higher_of 10 c ≡ j

pub pair_at : (i j : ℕ) → i < j → j < 10 → IsPair (pair_number i j) i j
pair_at i j rising within =
    let at = of_tests (lower_of 10 (pair_number i j)) (higher_of 10 (pair_number i j)) (pair_number i j) i j
    (all_below-at (is_numbered i) 10 j (all_below-at (λ n. all_below (is_numbered n) 10) 10 i all_numbered (omega (arith, rising, within))) within) rising in
    record { below = at.0; first = at.1.0; second = at.1.1 }
  where
    of_tests : (x y c i j : ℕ) → (not (nat_lt i j) || (nat_lt c 45 && (nat_eq x i && nat_eq y j))) ≡ true → i < j → (c < 45) × ((x ≡ i) × (y ≡ j))
    of_tests x y c i j e rise = (grind (arith, nat_tests, e, rise), (grind (arith, nat_tests, e, rise), grind (arith, nat_tests, e, rise)))

-- ---- the sums

-- how many forms the pairs have whose first square is before that one
abbrev pub firsts : (ℕ → ℕ) → ℕ → ℕ
firsts v k = sum_below (λ first. v first * (sum_below v 10 - sum_below v (suc first))) k

abbrev pair_forms : (ℕ → ℕ) → ℕ → ℕ
pair_forms v c = v (lower_of 10 c) * v (higher_of 10 c)

nothing : (x y : ℕ) → 0 ≡ 0 + x * (y - y)
nothing x y = (let e : y - y ≡ 0 = omega arith in rw e (let z : 0 ≡ 0 + x * 0 = omega arith in z))

times : (w a b : ℕ) → w * a + w * b ≡ w * (a + b)
times w a b = grind arith

in_row : (s b w p q x : ℕ) → s ≡ b + w * (q - p) → p ≤ q → s + w * x ≡ b + w * (q + x - p)
in_row s b w p q x e h =
    let apart : q + x - p ≡ q - p + x = omega (arith, h) in
    rw apart (omega (arith, e, times w (q - p) x))

new_row : (s b w p q x y z : ℕ) → s ≡ b + w * (q - p) → p ≤ q → s + w * x ≡ b + w * (q + x - p) + y * (z - z)
new_row s b w p q x y z e h = in_row s b w p q x e h ∙ omega (arith, nothing y z)

pub pair_sum : (v : ℕ → ℕ) (c : ℕ) → c < 45
    → sum_below (pair_forms v) c ≡ firsts v (lower_of 10 c) + v (lower_of 10 c) * (sum_below v (higher_of 10 c) - sum_below v (suc (lower_of 10 c)))
pair_sum v zero low = nothing (v 0) (sum_below v 1)
pair_sum v (suc c) low =
    let i = lower_of 10 c in
    let j = higher_of 10 c in
    let next = next_by i j (lower_of 10 (suc c)) (higher_of 10 (suc c)) (all_below-at is_next 44 c all_next (omega (arith, low))) in
    let rest = pair_sum v c (omega (arith, low)) in
    let rises = sum_below-rises v i j (pair_rises c (omega (arith, low))) in
    elim (cases_eq j 9) [
      | inl e ↦ rw ((next.new e).0, (next.new e).1)
          (new_row (sum_below (pair_forms v) c) (firsts v i) (v i) (sum_below v (suc i)) (sum_below v j) (v j) (v (suc i)) (sum_below v (suc (suc i))) rest rises
          ∙ ap (λ (n : ℕ). firsts v i + v i * (sum_below v n + v n - sum_below v (suc i)) + v (suc i) * (sum_below v (suc (suc i)) - sum_below v (suc (suc i)))) e)
      | inr n ↦ rw ((next.same n).0, (next.same n).1)
          (in_row (sum_below (pair_forms v) c) (firsts v i) (v i) (sum_below v (suc i)) (sum_below v j) (v j) rest rises)
    ]

-- all pairs
pub pair_total : (v : ℕ → ℕ) → sum_below (pair_forms v) 45 ≡ firsts v 10
pair_total v = last (sum_below (pair_forms v) 44) (firsts v 8) (v 8) (v 9) (sum_below v 9) (sum_below v 10) (pair_sum v 44 (omega arith))
  where
    last : (s b w x q z : ℕ) → s ≡ b + w * (q - q) → s + w * x ≡ b + w * (q + x - q) + x * (z - z)
    last s b w x q z e = new_row s b w q q x x z e (omega arith)

-- ---- by how many forms are seen, where a square has three or four
closed_3 : (b w r k : ℕ) → 2 * b + w * (w + 7) ≡ 2 * (w * (w + 3 + r)) + 12 * k
    → 2 * (b + 3 * r) + (w + 3) * (w + 3 + 7) ≡ 2 * ((w + 3) * (w + 3 + r)) + 12 * (suc k)
closed_3 b w r k e = grind (arith, e)

closed_4 : (b w r k : ℕ) → 2 * b + w * (w + 7) ≡ 2 * (w * (w + 4 + r)) + 12 * k
    → 2 * (b + 4 * r) + (w + 4) * (w + 4 + 7) ≡ 2 * ((w + 4) * (w + 4 + r)) + 12 * (suc k)
closed_4 b w r k e = grind (arith, e)

closed_step : (b w x t k : ℕ) → (x ≡ 3) ⊎ (x ≡ 4) → w + x ≤ t → 2 * b + w * (w + 7) ≡ 2 * (w * t) + 12 * k
    → 2 * (b + x * (t - (w + x))) + (w + x) * (w + x + 7) ≡ 2 * ((w + x) * t) + 12 * (suc k)
closed_step b w x t k three_or_four h e =
    let whole : w + x + (t - (w + x)) ≡ t = omega (arith, h) in
    elim three_or_four [
      | inl three ↦ subst (λ (n : ℕ). 2 * (b + x * (t - (w + x))) + (w + x) * (w + x + 7) ≡ 2 * ((w + x) * n) + 12 * (suc k)) whole
          (subst (λ (y : ℕ). 2 * (b + y * (t - (w + x))) + (w + y) * (w + y + 7) ≡ 2 * ((w + y) * (w + y + (t - (w + x)))) + 12 * (suc k)) (sym three)
          (closed_3 b w (t - (w + x)) k (subst (λ (y : ℕ). 2 * b + w * (w + 7) ≡ 2 * (w * (w + y + (t - (w + x)))) + 12 * k) three
          (subst (λ (n : ℕ). 2 * b + w * (w + 7) ≡ 2 * (w * n) + 12 * k) (sym whole) e))))
      | inr four ↦ subst (λ (n : ℕ). 2 * (b + x * (t - (w + x))) + (w + x) * (w + x + 7) ≡ 2 * ((w + x) * n) + 12 * (suc k)) whole
          (subst (λ (y : ℕ). 2 * (b + y * (t - (w + x))) + (w + y) * (w + y + 7) ≡ 2 * ((w + y) * (w + y + (t - (w + x)))) + 12 * (suc k)) (sym four)
          (closed_4 b w (t - (w + x)) k (subst (λ (y : ℕ). 2 * b + w * (w + 7) ≡ 2 * (w * (w + y + (t - (w + x)))) + 12 * k) four
          (subst (λ (n : ℕ). 2 * b + w * (w + 7) ≡ 2 * (w * n) + 12 * k) (sym whole) e))))
    ]

-- the sum by what is seen and what there is in all
pub record IsClosed (b w t k : ℕ) : Type 0 where
  pub twice : 2 * b + w * (w + 7) ≡ 2 * (w * t) + 12 * k
  pub few : b ≤ w * t

pub seen_upto : (v : ℕ → ℕ) (k n : ℕ) → k ≤ n → sum_below v k ≤ sum_below v n
seen_upto v k n upto = elim (cases_lt k n) [
  | inl low ↦ omega (arith, sum_below-rises v k n low)
  | inr high ↦ (let e : k ≡ n = omega (arith, upto, high) in rw e (omega arith))
]

pub closed : (v : ℕ → ℕ) → ((k : ℕ) → k < 10 → (v k ≡ 3) ⊎ (v k ≡ 4)) → (k : ℕ) → k ≤ 10 → IsClosed (firsts v k) (sum_below v k) (sum_below v 10) k
closed v each zero upto = start (sum_below v 10)
  where
    start : (t : ℕ) → IsClosed 0 0 t 0
    start t = record { twice = grind arith; few = omega arith }
closed v each (suc k) upto =
    let rest = closed v each k (omega (arith, upto)) in
    let low = seen_upto v (suc k) 10 upto in
    record {
      twice = closed_step (firsts v k) (sum_below v k) (v k) (sum_below v 10) k (each k (omega (arith, upto))) low rest.twice;
      few = more (firsts v k) (sum_below v k) (v k) (sum_below v 10) (sum_below v (suc k)) rest.few;
    }
  where
    same : (x : ℕ) → x ≤ x
    same x = omega arith

    less : (t y : ℕ) → t - y ≤ t
    less t y = omega arith

    more : (b w x t y : ℕ) → b ≤ w * t → b + x * (t - y) ≤ (w + x) * t
    more b w x t y h = (let most : x * (t - y) ≤ x * t = mul-le-mul (same x) (less t y) in omega (arith, h, most, add-mul w x t))
