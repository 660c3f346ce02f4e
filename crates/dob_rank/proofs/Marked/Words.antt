-- Marks below a place.
use Rattle.dob_rank.proofs.Common.{◌+◌, ◌-◌, ◌<◌, ◌≡◌, ◌≤◌, Bool, ap, arith, false, refl, suc, true, zero, ℕ, marks_below, one_if, ◌∙◌}

one_if-below : (b : Bool) → one_if b < 2
one_if-below true = omega arith
one_if-below false = omega arith

-- one more place
pub marks_below_more : (mark : ℕ → Bool) (n : ℕ) → marks_below mark (suc n) ≡ marks_below mark n + one_if (mark n)
unfolding marks_below
marks_below_more mark n = refl

-- ---- marks below a place
pub marks_below-le : (mark : ℕ → Bool) (n : ℕ) → marks_below mark n ≤ n
unfolding marks_below
marks_below-le mark zero = omega arith
marks_below-le mark (suc n) = (let rest : marks_below mark n ≤ n = marks_below-le mark n in
    let bit : one_if (mark n) < 2 = one_if-below (mark n) in omega arith)

pub marks_below_none : (mark : ℕ → Bool) → marks_below mark 0 ≡ 0
unfolding marks_below
marks_below_none mark = refl

pub no_later : (mark : ℕ → Bool) (from : ℕ) → marks_below mark (from + 0) ≡ marks_below mark from
no_later mark from = ap (marks_below mark) (let e : from + 0 ≡ from = omega arith in e)

pub marks_later : (mark : ℕ → Bool) (from n : ℕ) → marks_below mark (from + suc n) ≡ marks_below mark (from + n) + one_if (mark (from + n))
marks_later mark from n = ap (marks_below mark) (let e : from + suc n ≡ suc (from + n) = omega arith in e) ∙ marks_below_more mark (from + n)

pub marks_below-up : (mark : ℕ → Bool) (from n : ℕ) → marks_below mark from ≤ marks_below mark (from + n)
marks_below-up mark from zero = omega (arith, no_later mark from)
marks_below-up mark from (suc n) = omega (arith, marks_below-up mark from n, marks_later mark from n)

-- a stretch of marked places
pub marks_below-all : (mark : ℕ → Bool) (from n : ℕ) → ((k : ℕ) → k < n → mark (from + k) ≡ true) →
    marks_below mark (from + n) ≡ marks_below mark from + n
marks_below-all mark from zero all = omega (arith, no_later mark from)
marks_below-all mark from (suc n) all =
    let one : one_if (mark (from + n)) ≡ 1 = ap one_if (all n (omega arith)) in
    omega (arith, marks_below-all mark from n (λ k below. all k (omega arith)), marks_later mark from n, one)

-- and one of places that aren't
pub marks_below-unmarked : (mark : ℕ → Bool) (from n : ℕ) → ((k : ℕ) → k < n → mark (from + k) ≡ false) →
    marks_below mark (from + n) ≡ marks_below mark from
marks_below-unmarked mark from zero all = no_later mark from
marks_below-unmarked mark from (suc n) all =
    let none : one_if (mark (from + n)) ≡ 0 = ap one_if (all n (omega arith)) in
    omega (arith, marks_below-unmarked mark from n (λ k below. all k (omega arith)), marks_later mark from n, none)

-- marks below a place are no more than those below a later one
pub marks_below-upto : (mark : ℕ → Bool) (m n : ℕ) → m ≤ n → marks_below mark m ≤ marks_below mark n
marks_below-upto mark m n upto =
    let up = marks_below-up mark m (n - m) in
    let end : marks_below mark (m + (n - m)) ≡ marks_below mark n = ap (marks_below mark) (let e : m + (n - m) ≡ n = omega (arith, upto) in e) in
    omega (arith, up, end)

-- ---- what searches keep
marks_next : (mark : ℕ → Bool) (n : ℕ) → marks_below mark (n + 1) ≡ marks_below mark n + one_if (mark n)
marks_next mark n = ap (marks_below mark) (let e : n + 1 ≡ suc n = omega arith in e) ∙ marks_below_more mark n

pub one_counted : (mark : ℕ → Bool) (n before : ℕ) → before ≡ marks_below mark n → mark n ≡ true → before + 1 ≡ marks_below mark (n + 1)
one_counted mark n before is on = grind (arith, marks_next)

pub none_counted : (mark : ℕ → Bool) (n before : ℕ) → before ≡ marks_below mark n → mark n ≡ false → before ≡ marks_below mark (n + 1)
none_counted mark n before is off = grind (arith, marks_next)
