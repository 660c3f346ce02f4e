-- Numbers and their images: of the numbers below a bound that an involution takes to one another, those that come no later than their image are half of all and
-- of those that are their own.
use Rattle.std.proofs.Common.{◌&&◌, ◌*◌, ◌+◌, ◌<◌, ◌∙◌, ◌≡◌, Bool, ap, arith, eqb, inl, inr, leb, ltb, refl, suc, sym, zero, ℕ}
use Rattle.std.proofs.lemmas.Bool.Decides.{nat_tests}
use Rattle.std.proofs.lemmas.Bool.{cases_eq, eq-eqb, ne_eqb}
use Rattle.dob_pieces.specs.Lists.{one_if, sum_below}
use Rattle.dob_lists.proofs.Sums.{sum_same}

-- ---- sums
pub sum_none : (f : ℕ → ℕ) (n : ℕ) → ((k : ℕ) → k < n → f k ≡ 0) → sum_below f n ≡ 0
sum_none f zero none = refl
sum_none f (suc n) none =
    let rest : sum_below f n ≡ 0 = sum_none f n (λ k low. none k (omega arith)) in
    let last : f n ≡ 0 = none n (omega arith) in omega arith

pub sum_plus : (f g : ℕ → ℕ) (n : ℕ) → sum_below (λ k. f k + g k) n ≡ sum_below f n + sum_below g n
sum_plus f g zero = refl
sum_plus f g (suc n) = omega (arith, sum_plus f g n)

-- a sum of sums in the other order
pub sum_swap : (f : ℕ → ℕ → ℕ) (m n : ℕ) → sum_below (λ i. sum_below (f i) n) m ≡ sum_below (λ j. sum_below (λ i. f i j) m) n
sum_swap f zero n = sym (sum_none (λ j. 0) n (λ k low. refl))
sum_swap f (suc m) n = omega (arith, sum_swap f m n, sum_plus (λ j. sum_below (λ i. f i j) m) (f m) n)

-- one term alone
pub sum_one : (f : ℕ → ℕ) (m n : ℕ) → m < n → sum_below (λ k. one_if (eqb k m) * f k) n ≡ f m
sum_one f m zero low = absurd (omega arith)
sum_one f m (suc n) low = elim (cases_eq n m) [
  | inl is ↦
      let rest = sum_none (λ k. one_if (eqb k m) * f k) n (λ k below. other k (omega (arith, is, below))) in
      let last : one_if (eqb n m) * f n ≡ f m = rw (eq-eqb n m is) (let one : 1 * f n ≡ f n = omega arith in one ∙ ap f is) in
      omega (arith, rest, last)
  | inr not ↦
      let rest = sum_one f m n (omega (arith, not, low)) in
      let last = other n not in
      omega (arith, rest, last)
]
  where
    other : (k : ℕ) → (k ≡ m → ⊥) → one_if (eqb k m) * f k ≡ 0
    other k apart = rw (ne_eqb k m apart) (omega arith)

-- ---- an involution

-- it takes the numbers below a bound to one another, and back
pub record IsInvolution (σ : ℕ → ℕ) (n : ℕ) : Type 0 where
  pub within : (k : ℕ) → k < n → σ k < n
  pub back : (k : ℕ) → k < n → σ (σ k) ≡ k

same_tests : (a b x y : ℕ) → (a ≡ b → x ≡ y) → (x ≡ y → a ≡ b) → eqb a b ≡ eqb x y
same_tests a b x y there back = grind (arith, nat_tests, there, back)

-- the images have the sum of the numbers themselves
pub sum_images : (f σ : ℕ → ℕ) (n : ℕ) → IsInvolution σ n → sum_below (λ k. f (σ k)) n ≡ sum_below f n
sum_images f σ n is =
    sum_same (λ k. f (σ k)) (λ k. sum_below (λ j. one_if (eqb j (σ k)) * f j) n) n (λ k low. sym (sum_one f (σ k) n (is.within k low)))
    ∙ sum_swap (λ k j. one_if (eqb j (σ k)) * f j) n n
    ∙ sum_same (λ j. sum_below (λ k. one_if (eqb j (σ k)) * f j) n) f n
    (λ j lj. sum_same (λ k. one_if (eqb j (σ k)) * f j) (λ k. one_if (eqb k (σ j)) * f j) n
    (λ k lk. ap (λ (b : Bool). one_if b * f j)
    (same_tests j (σ k) k (σ j) (λ e. sym (is.back k lk) ∙ ap σ (sym e)) (λ e. sym (is.back j lj) ∙ ap σ (sym e))))
    ∙ sum_one (λ k. f j) (σ j) n (is.within j lj))

-- ---- those no later than their image

-- a number that is there and no later than its image, and one that is its own image
abbrev pub is_first_of : (ℕ → ℕ) → (ℕ → Bool) → ℕ → Bool
is_first_of σ there k = there k && leb k (σ k)

abbrev pub is_own_image : (ℕ → ℕ) → (ℕ → Bool) → ℕ → Bool
is_own_image σ there k = there k && eqb k (σ k)

abbrev later : (ℕ → ℕ) → (ℕ → Bool) → ℕ → ℕ
later σ there k = one_if (there k && ltb (σ k) k)

-- how many of the numbers below a bound pass a test
abbrev pub how_many : (ℕ → Bool) → ℕ → ℕ
how_many test n = sum_below (λ k. one_if (test k)) n

-- an involution that takes what is there to what is there
pub record HasImages (σ : ℕ → ℕ) (there : ℕ → Bool) (n : ℕ) : Type 0 where
  pub turns : IsInvolution σ n
  pub keeps : (k : ℕ) → k < n → there (σ k) ≡ there k

first_or_later : (on : Bool) (k image : ℕ) → one_if (on && leb k image) + one_if (on && ltb image k) ≡ one_if on
first_or_later on k image = grind (arith, nat_tests)

own_or_sooner : (on : Bool) (k image : ℕ) → one_if (on && leb k image) ≡ one_if (on && eqb k image) + one_if (on && ltb k image)
own_or_sooner on k image = grind (arith, nat_tests)

-- they are half of all and of those that are their own
pub half : (σ : ℕ → ℕ) (there : ℕ → Bool) (n : ℕ) → HasImages σ there n
    → 2 * how_many (is_first_of σ there) n ≡ how_many there n + how_many (is_own_image σ there) n
half σ there n has =
    let all : sum_below (λ k. one_if (is_first_of σ there k) + later σ there k) n ≡ how_many there n
    = sum_same _ (λ k. one_if (there k)) n (λ k low. first_or_later (there k) k (σ k)) in
    let parts = sum_plus (λ k. one_if (is_first_of σ there k)) (later σ there) n in
    let some : how_many (is_first_of σ there) n ≡ sum_below (λ k. one_if (is_own_image σ there k) + later σ there (σ k)) n
    = sum_same (λ k. one_if (is_first_of σ there k)) (λ k. one_if (is_own_image σ there k) + later σ there (σ k)) n
    (λ k low. own_or_sooner (there k) k (σ k)
    ∙ ap (λ (x : ℕ). one_if (is_own_image σ there k) + x) (image_later k low)) in
    let sooner = sum_plus (λ k. one_if (is_own_image σ there k)) (λ k. later σ there (σ k)) n in
    let turned = sum_images (later σ there) σ n has.turns in
    omega (arith, all, parts, some, sooner, turned)
  where
    image_later : (k : ℕ) → k < n → one_if (there k && ltb k (σ k)) ≡ later σ there (σ k)
    image_later k low =
        ap (λ (b : Bool). one_if (b && ltb k (σ k))) (sym (has.keeps k low))
        ∙ ap (λ (x : ℕ). one_if (there (σ k) && ltb x (σ k))) (sym (has.turns.back k low))
