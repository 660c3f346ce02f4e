-- Sums over the numbers below a bound.
use Rattle.std.proofs.Common.{◌≡◌, ℕ, zero, suc, ◌+◌, ◌*◌, ◌<◌, ◌≤◌, refl, sym, ap, ◌∙◌, subst, inl, inr, arith}
use Rattle.std.proofs.lemmas.Bool.{cases_lt}
use Rattle.std.proofs.Math.Nat.{mul_comm, add-mul}
use Rattle.dob_pieces.specs.Lists.{sum_below}

-- the sum below a number and the term there are within any later sum
pub sum_below-rises : (f : ℕ → ℕ) (a b : ℕ) → a < b → sum_below f a + f a ≤ sum_below f b
sum_below-rises f a zero h = absurd (omega arith)
sum_below-rises f a (suc b) h = elim (cases_lt a b) [
  | inl lt ↦ (let earlier : sum_below f a + f a ≤ sum_below f b = sum_below-rises f a b lt in omega arith)
  | inr le ↦ (let same : a ≡ b = omega arith in subst (λ (x : ℕ). sum_below f x + f x ≤ sum_below f b + f b) (sym same) (omega arith))
]

-- a place below its term gives its block and place
pub same_block : (f : ℕ → ℕ) (a b x y : ℕ) → x < f a → y < f b → sum_below f a + x ≡ sum_below f b + y → a ≡ b
same_block f a b x y h k e = elim (cases_lt a b) [
  | inl lt ↦ absurd (omega (arith, sum_below-rises f a b lt))
  | inr le ↦ elim (cases_lt b a) [
    | inl lt ↦ absurd (omega (arith, sum_below-rises f b a lt))
    | inr ge ↦ omega arith
  ]
]

-- ---- sums taken apart

-- terms alike below the bound have one sum
pub sum_same : (f g : ℕ → ℕ) (n : ℕ) → ((k : ℕ) → k < n → f k ≡ g k) → sum_below f n ≡ sum_below g n
sum_same f g zero h = refl
sum_same f g (suc n) h =
    let rest : sum_below f n ≡ sum_below g n = sum_same f g n (λ k lt. h k (omega arith)) in
    let last : f n ≡ g n = h n (omega arith) in omega arith

-- a sum in two parts
pub sum_parts : (f : ℕ → ℕ) (a b : ℕ) → sum_below f (a + b) ≡ sum_below f a + sum_below (λ k. f (a + k)) b
sum_parts f a zero = ap (sum_below f) (let e : a + 0 ≡ a = omega arith in e) ∙ (let e : sum_below f a ≡ sum_below f a + 0 = omega arith in e)
sum_parts f a (suc b) =
    let rest : sum_below f (a + b) ≡ sum_below f a + sum_below (λ k. f (a + k)) b = sum_parts f a b in
    ap (sum_below f) (let e : a + suc b ≡ suc (a + b) = omega arith in e)
    ∙ (let e : sum_below f (a + b) + f (a + b) ≡ sum_below f a + (sum_below (λ k. f (a + k)) b + f (a + b)) = omega arith in e)

-- a factor goes out of a sum
pub sum_times : (c : ℕ) (f : ℕ → ℕ) (n : ℕ) → sum_below (λ k. c * f k) n ≡ c * sum_below f n
sum_times c f zero = (let e : 0 ≡ c * 0 = omega arith in e)
sum_times c f (suc n) =
    let rest : sum_below (λ k. c * f k) n ≡ c * sum_below f n = sum_times c f n in
    let more : (sum_below f n + f n) * c ≡ sum_below f n * c + f n * c = add-mul (sum_below f n) (f n) c in
    omega (arith, rest, more, mul_comm c (sum_below f n), mul_comm c (f n), mul_comm c (sum_below f n + f n))

-- a sum by blocks of n terms
pub sum_blocks : (f : ℕ → ℕ) (n a b : ℕ) → sum_below f (a * n + b)
    ≡ sum_below (λ q. sum_below (λ r. f (q * n + r)) n) a + sum_below (λ r. f (a * n + r)) b
sum_blocks f n zero b = ap (sum_below f) (let e : 0 * n + b ≡ b = omega arith in e)
    ∙ sum_same f (λ r. f (0 * n + r)) b (λ k lt. ap f (let e : k ≡ 0 * n + k = omega arith in e))
    ∙ (let e : sum_below (λ r. f (0 * n + r)) b ≡ 0 + sum_below (λ r. f (0 * n + r)) b = omega arith in e)
sum_blocks f n (suc a) b =
    let step : suc a * n ≡ a * n + n = (omega (arith, add-mul a 1 n)) in
    let whole : sum_below f (a * n + n) ≡ sum_below (λ q. sum_below (λ r. f (q * n + r)) n) a + sum_below (λ r. f (a * n + r)) n = sum_blocks f n a n in
    ap (λ (x : ℕ). sum_below f (x + b)) step ∙ sum_parts f (a * n + n) b
    ∙ ap (λ (x : ℕ). x + sum_below (λ r. f (a * n + n + r)) b) whole
    ∙ ap (λ (x : ℕ). sum_below (λ q. sum_below (λ r. f (q * n + r)) n) a + sum_below (λ r. f (a * n + r)) n + sum_below (λ r. f (x + r)) b) (sym step)

-- a sum of one term
pub sum_alike : (c n : ℕ) → sum_below (λ k. c) n ≡ n * c
sum_alike c zero = (let e : 0 ≡ 0 * c = omega arith in e)
sum_alike c (suc n) =
    let rest : sum_below (λ k. c) n ≡ n * c = sum_alike c n in
    let more : (n + 1) * c ≡ n * c + 1 * c = add-mul n 1 c in
    omega (arith, rest, more)
