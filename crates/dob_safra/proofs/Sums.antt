-- Sums of the values of a function below a number.
use Rattle.std.proofs.Common.{◌≡◌, ◌≢◌, ℕ, zero, suc, ◌+◌, ◌*◌, ◌<◌, ◌≤◌, refl, ap, sym, ◌∙◌, arith, ⊎_elim}
use Rattle.std.proofs.lemmas.Bool.{cases_lt}
use Rattle.dob_safra.specs.Rings.{sum_below}

-- what holds below n + 1 holds below n
pub fewer : (P : ℕ → Type 0) (n : ℕ) → ((k : ℕ) → k < suc n → P k) → (k : ℕ) → k < n → P k
fewer P n h k lt = h k (omega arith)

pub sum_same : (n : ℕ) (f g : ℕ → ℕ) → ((k : ℕ) → k < n → g k ≡ f k) → sum_below n g ≡ sum_below n f
sum_same zero f g same = refl
sum_same (suc n) f g same = omega (arith, sum_same n f g (fewer (λ k. g k ≡ f k) n same), same n (omega arith))

pub sum_bound : (n bound : ℕ) (f : ℕ → ℕ) → ((k : ℕ) → k < n → f k ≤ bound) → sum_below n f ≤ n * bound
sum_bound zero bound f small = omega arith
sum_bound (suc n) bound f small = omega (arith, sum_bound n bound f (fewer (λ k. f k ≤ bound) n small), small n (omega arith))

-- one value is one more
pub sum_raised : (n : ℕ) (f g : ℕ → ℕ) (i : ℕ) → i < n → g i ≡ suc (f i) → ((k : ℕ) → k < n → k ≢ i → g k ≡ f k) →
    sum_below n g ≡ suc (sum_below n f)
sum_raised zero f g i lt raised others = absurd (omega arith)
sum_raised (suc n) f g i lt raised others =
    ⊎_elim
    (λ below. let here : g n ≡ f n = others n (omega arith) (λ e. omega (arith, e)) in
    let before : sum_below n g ≡ suc (sum_below n f) =
    sum_raised n f g i below raised (λ k less. others k (omega arith)) in
    omega (arith, here, before))
    (λ above. let last : i ≡ n = omega arith in
    let here : g n ≡ suc (f n) = ap g (sym last) ∙ raised ∙ ap (λ k. suc (f k)) last in
    let before : sum_below n g ≡ sum_below n f =
    sum_same n f g (λ k less. others k (omega arith) (λ e. omega (arith, e))) in
    omega (arith, here, before))
    (cases_lt i n)

pub sum_added : (n : ℕ) (f g : ℕ → ℕ) → sum_below n (λ k. f k + g k) ≡ sum_below n f + sum_below n g
sum_added zero f g = refl
sum_added (suc n) f g = omega (arith, sum_added n f g)

pub sum_zeros : (n : ℕ) → sum_below n (λ k. 0) ≡ 0
sum_zeros zero = refl
sum_zeros (suc n) = omega (arith, sum_zeros n)

-- rows first or columns first
pub sum_swapped : (n m : ℕ) (f : ℕ → ℕ → ℕ) → sum_below n (λ i. sum_below m (λ j. f i j)) ≡ sum_below m (λ j. sum_below n (λ i. f i j))
sum_swapped zero m f = sym (sum_zeros m)
sum_swapped (suc n) m f =
    let split : sum_below m (λ j. sum_below n (λ i. f i j) + f n j) ≡ sum_below m (λ j. sum_below n (λ i. f i j)) + sum_below m (λ j. f n j) =
    sum_added m (λ j. sum_below n (λ i. f i j)) (λ j. f n j) in
    omega (arith, sum_swapped n m f, split)

-- a sum is 0 only where each value is
pub sum_zero : (n : ℕ) (f : ℕ → ℕ) → sum_below n f ≡ 0 → (k : ℕ) → k < n → f k ≡ 0
sum_zero zero f e k lt = absurd (omega arith)
sum_zero (suc n) f e k lt =
    ⊎_elim
    (λ below. sum_zero n f (omega arith) k below)
    (λ above. let last : k ≡ n = omega arith in ap f last ∙ omega arith)
    (cases_lt k n)

-- a value is at most the sum
pub sum_member : (n : ℕ) (f : ℕ → ℕ) (k : ℕ) → k < n → f k ≤ sum_below n f
sum_member zero f k lt = absurd (omega arith)
sum_member (suc n) f k lt =
    ⊎_elim
    (λ below. omega (arith, sum_member n f k below))
    (λ above. let last : k ≡ n = omega arith in omega (arith, ap f last))
    (cases_lt k n)
