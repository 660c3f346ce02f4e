-- Ascending lists of numbers: they are distinguished by how often each number stands in them.
use Rattle.dob_unmove.proofs.Common.{◌≢◌, ◌+◌, ◌<◌, ◌==◌, ◌∙◌, ◌∷◌, ◌≡◌, ◌≤◌, All, AllPairs, List, [], ap, arith, inl, inr, refl, suc, sym, zero, ℕ}
use Rattle.dob_unmove.proofs.Common.{cases_eq, cases_order, eq-eqb, ne_eqb, All-append, All-cons, All-contains, All-head, All-nil, All-replicate, All-tail}
use Rattle.dob_unmove.proofs.Common.{sum_by-append, sum_by-cons, count_by, each_below, pairs-head, pairs-tail, one_if}
use Rattle.std.specs.Prelude.{replicate}
use Rattle.std.proofs.lemmas.List.Folds.{sum_by-replicate}
use Rattle.dob_unmove.proofs.Counting.{pairs-append}

-- how often the number stands in the list
abbrev pub times : ℕ → List ℕ → ℕ
times x xs = count_by (λ y. y == x) xs

abbrev Ascends : List ℕ → Type 0
Ascends xs = AllPairs (λ (a b : ℕ). a ≤ b) xs

times-cons : (x y : ℕ) (xs : List ℕ) → times x (y ∷ xs) ≡ one_if (y == x) + times x xs
times-cons x y xs = sum_by-cons (λ z. one_if (z == x)) y xs

times-cons_same : (x : ℕ) (xs : List ℕ) → times x (x ∷ xs) ≡ 1 + times x xs
times-cons_same x xs = times-cons x x xs ∙ ap (λ b. one_if b + times x xs) (eq-eqb x x refl)

-- a number from which all of a list differ doesn't stand in it
times-none : (x : ℕ) (xs : List ℕ) → All (λ y. y ≢ x) xs → times x xs ≡ 0
times-none x [] h = refl
times-none x (y ∷ ys) h =
    let other = ap one_if (ne_eqb y x (All-head (λ z. z ≢ x) y ys h)) in
    omega (arith, times-cons x y ys, other, times-none x ys (All-tail (λ z. z ≢ x) y ys h))

-- so it is of one that no list of lesser numbers has
pub times-absent : (x bound : ℕ) (xs : List ℕ) → bound ≤ x → All (λ y. y < bound) xs → times x xs ≡ 0
times-absent x bound xs above h = times-none x xs (λ k d lt e. let less = h k d lt in omega (arith, less, above, e))

-- the lesser first number of two lists would stand in one of them alone
first_apart : (x y : ℕ) (xs ys : List ℕ) → x < y → Ascends (y ∷ ys) → times x (x ∷ xs) ≡ times x (y ∷ ys) → ⊥
first_apart x y xs ys less up same =
    let later : All (λ z. z ≢ x) ys = λ k d lt e. let le = pairs-head (λ (a b : ℕ). a ≤ b) y ys up k d lt in omega (arith, less, le, e) in
    omega (arith, same, times-cons_same x xs, times-none x (y ∷ ys) (All-cons (λ z. z ≢ x) y ys (λ e. omega (arith, less, e)) later))

-- Two ascending lists in which each number stands equally often are the same list.
pub ascending_same : (xs ys : List ℕ) → Ascends xs → Ascends ys → ((x : ℕ) → times x xs ≡ times x ys) → xs ≡ ys
ascending_same [] [] up rises same = refl
ascending_same [] (y ∷ ys) up rises same = absurd (omega (arith, same y, times-cons_same y ys))
ascending_same (x ∷ xs) [] up rises same = absurd (omega (arith, same x, times-cons_same x xs))
ascending_same (x ∷ xs) (y ∷ ys) up rises same = elim (cases_order x y) [
  | inl e ↦
      let rest = ascending_same xs ys (pairs-tail (λ (a b : ℕ). a ≤ b) x xs up) (pairs-tail (λ (a b : ℕ). a ≤ b) y ys rises)
      (λ z. omega (arith, same z, times-cons z x xs, times-cons z y ys, ap (λ (w : ℕ). one_if (w == z)) e)) in
      λ i. e i ∷ rest i
  | inr other ↦ elim other [
    | inl less ↦ absurd (first_apart x y xs ys less rises (same x))
    | inr more ↦ absurd (first_apart y x ys xs more up (sym (same y)))
  ]
]

-- ---- each number so many times

module _ (number : ℕ → ℕ) where
  abbrev each : ℕ → List ℕ
  each n = each_below (λ x. replicate (number x) x) n

  pub each-below : (n : ℕ) → All (λ x. x < n) (each n)
  each-below zero = All-nil (λ (x : ℕ). x < zero)
  each-below (suc n) =
      All-append (λ (x : ℕ). x < suc n) (each n) (replicate (number n) n) (λ k d lt. omega (arith, each-below n k d lt))
      (All-replicate (λ (x : ℕ). x < suc n) (number n) n (omega arith))

  last_same : (n : ℕ) → All (λ x. x ≡ n) (replicate (number n) n)
  last_same n = All-replicate (λ (x : ℕ). x ≡ n) (number n) n refl

  pub each-ascends : (n : ℕ) → Ascends (each n)
  each-ascends zero = λ i j d lt within. absurd (omega (arith, within))
  each-ascends (suc n) =
      pairs-append (λ (a b : ℕ). a ≤ b) (each n) (replicate (number n) n) (each-ascends n)
      (λ i j d lt within. omega (arith, last_same n i d (omega arith), last_same n j d within))
      (λ a b in_each in_last. omega (
        arith,
        All-contains (λ (x : ℕ). x < n) (each n) a (each-below n) in_each,
        All-contains (λ (x : ℕ). x ≡ n) (replicate (number n) n) b (last_same n) in_last,
      ))

  pub times-each : (n x : ℕ) → x < n → times x (each n) ≡ number x
  times-each zero x lt = absurd (omega (arith, lt))
  times-each (suc n) x lt =
      let all = sum_by-append (λ z. one_if (z == x)) (each n) (replicate (number n) n) in
      let last = sum_by-replicate (λ z. one_if (z == x)) (number n) n in
      elim (cases_eq n x) [
        | inl e ↦ omega (arith, all, rw (eq-eqb n x e) at last, times-absent x n (each n) (omega (arith, e)) (each-below n), ap number e)
        | inr ne ↦ omega (arith, all, rw (ne_eqb n x ne) at last, times-each n x (omega (arith, lt, ne)))
      ]
