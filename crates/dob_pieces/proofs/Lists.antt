-- Lists made piece by piece: what they contain, their parts, their order, and whether two are the same.
use Rattle.dob_pieces.proofs.Common.{◌++◌, ◌<◌, ◌∙◌, ◌∷◌, ◌≡◌, ◌≤◌, ◌⊎◌, Bool, Contains, List, [], ap, arith, cond, drop, false, inl, inr, length, refl, subst}
use Rattle.dob_pieces.proofs.Common.{suc, sym, true, zero, ℕ, cases_eq, cases_lt, drop_at, length-append, take_at, each_below, sum_below}
use Rattle.std.proofs.Common.{◌&&◌, nat_eq, take, All, AllPairs}
use Rattle.std.proofs.lemmas.Bool.Decides.{nat_tests}
use Rattle.std.proofs.lemmas.List.Elements.{Contains-append_left, Contains-append_right, Contains-append_cases, All-nil, All-cons}
use Rattle.std.proofs.lemmas.List.Kept.{AllPairs-cons}

-- ---- what they contain

module _ {X : Type 0} where
  pub none_in_empty : (x : X) → Contains [] x → ⊥
  none_in_empty x h = absurd (omega (arith, h.1))

  pub head_in : (x : X) (xs : List X) → Contains (x ∷ xs) x
  head_in x xs = (0, omega arith, refl)

  -- the lists of each number are as long as the sum of their lengths
  pub length-each : (g : ℕ → List X) (n : ℕ) → length (each_below g n) ≡ sum_below (λ k. length (g k)) n
  length-each g zero = refl
  length-each g (suc n) = omega (arith, length-append (each_below g n) (g n), length-each g n)

  -- an element of a longer list is its first one or stands in the rest
  pub cons_cases : (x : X) (xs : List X) (y : X) → Contains (x ∷ xs) y → (x ≡ y) ⊎ Contains xs y
  cons_cases x xs y h = grind arith

  pub rest_in : (x y : X) (xs : List X) → Contains xs y → Contains (x ∷ xs) y
  rest_in x y xs there = Contains-append_right (x ∷ []) xs y there

  pub cond_sound : (b : Bool) (xs : List X) (x : X) → Contains (cond b xs []) x → (b ≡ true) × Contains xs x
  cond_sound true xs x h = (refl, h)
  cond_sound false xs x h = absurd (none_in_empty x h)

  pub cond_whole : (b : Bool) (xs : List X) (x : X) → b ≡ true → Contains xs x → Contains (cond b xs []) x
  cond_whole b xs x e h = subst (λ (v : Bool). Contains (cond v xs []) x) (sym e) h

  pub each_sound : (g : ℕ → List X) (n : ℕ) (x : X) → Contains (each_below g n) x → (k : ℕ) × (k < n) × Contains (g k) x
  each_sound g zero x h = absurd (none_in_empty x h)
  each_sound g (suc n) x h =
      elim (Contains-append_cases (each_below g n) (g n) x h) [
        | inl before ↦ let w = each_sound g n x before in (w.0, omega (arith, w.1), w.2)
        | inr here ↦ (n, omega arith, here)
      ]

  pub each_whole : (g : ℕ → List X) (n k : ℕ) (x : X) → k < n → Contains (g k) x → Contains (each_below g n) x
  each_whole g zero k x h here = absurd (omega arith)
  each_whole g (suc n) k x h here =
      elim (cases_lt k n) [
        | inl lt ↦ Contains-append_left (each_below g n) (g n) x (each_whole g n k x lt here)
        | inr ge ↦
            let e : k ≡ n = omega arith in
            Contains-append_right (each_below g n) (g n) x (subst (λ (i : ℕ). Contains (g i) x) e here)
      ]

  -- lists whose first parts are of one length have the same parts
  pub append-same : (a b c d : List X) → length a ≡ length b → a ++ c ≡ b ++ d → (a ≡ b) × (c ≡ d)
  append-same a b c d size joined = (
    sym (take_at a c (length a) refl) ∙ ap (take (length a)) joined ∙ take_at b d (length a) (sym size),
    sym (drop_at a c (length a) refl) ∙ ap (drop (length a)) joined ∙ drop_at b d (length a) (sym size),
  )

-- a number stands in a list or it doesn't
pub stands_or : (numbers : List ℕ) (number : ℕ) → Contains numbers number ⊎ (¬ Contains numbers number)
stands_or [] number = inr (none_in_empty number)
stands_or (first ∷ rest) number = elim (cases_eq first number) [
  | inl same ↦ inl (subst (Contains (first ∷ rest)) same (head_in first rest))
  | inr other ↦ elim (stands_or rest number) [
    | inl there ↦ inl (rest_in first number rest there)
    | inr absent ↦ inr (λ there. elim (cons_cases first rest number there) [ inl e ↦ other e | inr later ↦ absent later ])
  ]
]

-- ---- their order

-- the places ascend from low on, and end below high
abbrev pub Rising : {X : Type 0} → (X → ℕ) → ℕ → ℕ → List X → Type 0
Rising place low high [] = low ≤ high
Rising place low high (x ∷ xs) = (low ≤ place x) × Rising place (suc (place x)) high xs

module _ {X : Type 0} (place : X → ℕ) where
  pub rising-lower : (low least high : ℕ) (xs : List X) → low ≤ least → Rising place least high xs → Rising place low high xs
  rising-lower low least high [] h r = omega arith
  rising-lower low least high (x ∷ xs) h r = (omega (arith, r.0), r.1)

  pub rising-append : (low mid high : ℕ) (xs ys : List X) → Rising place low mid xs → Rising place mid high ys → Rising place low high (xs ++ ys)
  rising-append low mid high [] ys r s = rising-lower low mid high ys r s
  rising-append low mid high (x ∷ xs) ys r s = (r.0, rising-append (suc (place x)) mid high xs ys r.1 s)

  pub rising-cond : (b : Bool) (low high : ℕ) (xs : List X) → low ≤ high → Rising place low high xs → Rising place low high (cond b xs [])
  rising-cond true low high xs h r = r
  rising-cond false low high xs h r = h

  pub rising-each : (g : ℕ → List X) (b : ℕ → ℕ) (n : ℕ) → ((k : ℕ) → k < n → Rising place (b k) (b (suc k)) (g k)) → Rising place (b 0) (b n) (each_below g n)
  rising-each g b zero h = omega arith
  rising-each g b (suc n) h =
      rising-append (b 0) (b n) (b (suc n)) (each_below g n) (g n) (rising-each g b n (λ k lt. h k (omega arith))) (h n (omega arith))

  pub rising-after : (low high : ℕ) (xs : List X) → Rising place low high xs → All (λ x. low ≤ place x) xs
  rising-after low high [] r = All-nil (λ (x : X). low ≤ place x)
  rising-after low high (x ∷ xs) r =
      All-cons (λ (y : X). low ≤ place y) x xs r.0 (rising-after low high xs (rising-lower low (suc (place x)) high xs (omega (arith, r.0)) r.1))

  -- each stands before all that come later
  pub rising-pairs : (low high : ℕ) (xs : List X) → Rising place low high xs → AllPairs (λ x y. place x < place y) xs
  rising-pairs low high [] r = λ i j d h k. absurd (omega (arith, k))
  rising-pairs low high (x ∷ xs) r =
      AllPairs-cons (λ (a b : X). place a < place b) x xs
      (λ k d h. omega (arith, rising-after (suc (place x)) high xs r.1 k d h))
      (rising-pairs (suc (place x)) high xs r.1)

-- ---- two lists of numbers compared by a test that computes
abbrev pub same_list : List ℕ → List ℕ → Bool
same_list [] [] = true
same_list [] (y ∷ ys) = false
same_list (x ∷ xs) [] = false
same_list (x ∷ xs) (y ∷ ys) = nat_eq x y && same_list xs ys

pub same_list-true : (xs ys : List ℕ) → same_list xs ys ≡ true → xs ≡ ys
same_list-true [] [] h = refl
same_list-true (x ∷ xs) (y ∷ ys) h = grind (arith, nat_tests, same_list-true xs ys, h)
same_list-true xs ys h = absurd (let e : false ≡ true = h in cc)
