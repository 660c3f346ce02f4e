-- Counts of numbers with a property: put together, of a list's items, and below a bound.
use Rattle.dob_reach.proofs.Common.{◌++◌, ◌+◌, ◌<◌, ◌∙◌, ◌∷◌, ◌≡◌, ◌≤◌, ◌⊎◌, AllPairs, Among, Contains, Contains-append_cases, Contains-append_left}
use Rattle.dob_reach.proofs.Common.{Contains-append_right, HasJust, List, [], arith, cons_cases, get_or, get_or_default, head_in, inl, inr, length}
use Rattle.dob_reach.proofs.Common.{length-append, none_in_empty, range_with_len, refl, rest_in, subst, sym, ℕ}
use Rattle.std.proofs.lemmas.List.FromFn.{length-range_with_len, get_or-range_with_len}
use Rattle.std.proofs.lemmas.List.Kept.{AllPairs-cons}
use Rattle.dob_classes.proofs.OfFamilies.Counted.{pairs-head, pairs-tail, no_longer}

-- ---- lists
abbrev pub Apart : ℕ → ℕ → Type 0
Apart a b = ¬ (a ≡ b)

-- a number that isn't the first stands behind it, each time
pub apart_first : (first : ℕ) (rest : List ℕ) → ((number : ℕ) → Contains rest number → ¬ (first ≡ number)) → AllPairs Apart rest → AllPairs Apart (first ∷ rest)
apart_first first rest others once =
    AllPairs-cons Apart first rest (λ k d lt. others (get_or rest k d) (k, lt, get_or_default rest k (get_or rest k d) d lt)) once

pub after_first : (x : ℕ) (xs : List ℕ) → AllPairs Apart (x ∷ xs) → (number : ℕ) → Contains xs number → ¬ (x ≡ number)
after_first x xs p number left same = pairs-head Apart x xs p left.0 number left.1 (same ∙ sym left.2)

-- a list of one number has no other
pub only_one : (x number : ℕ) → Contains (x ∷ []) number → x ≡ number
only_one x number there = elim (cons_cases x [] number there) [ inl same ↦ same | inr more ↦ absurd (none_in_empty number more) ]

-- two lists without repeats that have nothing in common
pub apart_both : (xs ys : List ℕ) → AllPairs Apart xs → AllPairs Apart ys → ((number : ℕ) → Contains xs number → ¬ Contains ys number) → AllPairs Apart (xs ++ ys)
apart_both [] ys p q across = q
apart_both (x ∷ xs) ys p q across =
    apart_first x (xs ++ ys)
    (λ number there same. elim (Contains-append_cases xs ys number there) [
      | inl left ↦ after_first x xs p number left same
      | inr right ↦ across x (head_in x xs) (subst (Contains ys) (sym same) right)
    ])
    (apart_both xs ys (pairs-tail Apart x xs p) q (λ number left. across number (rest_in x number xs left)))

-- one more at the end
pub apart_more : (xs : List ℕ) (x : ℕ) → AllPairs Apart xs → (¬ Contains xs x) → AllPairs Apart (xs ++ x ∷ [])
apart_more xs x once absent =
    apart_both xs (x ∷ []) once (apart_first x [] (λ number there. absurd (none_in_empty number there)) (λ i j d lt within. absurd (omega (arith, within))))
    (λ number left right. absent (subst (Contains xs) (sym (only_one x number right)) left))

-- ---- just so many

-- two properties of the same numbers have one count
pub just_same : {P Q : ℕ → Type 0} {count : ℕ} → HasJust P count → ((k : ℕ) → P k → Q k) → ((k : ℕ) → Q k → P k) → HasJust Q count
just_same has onward back = record {
  list = has.list;
  sound = λ number there. onward number (has.sound number there);
  whole = λ number is. has.whole number (back number is);
  once = has.once;
  counted = has.counted;
}

pub just_none : {P : ℕ → Type 0} → ((k : ℕ) → ¬ P k) → HasJust P 0
just_none none = record {
  list = [];
  sound = λ number there. absurd (none_in_empty number there);
  whole = λ number is. absurd (none number is);
  once = λ i j d lt within. absurd (omega (arith, within));
  counted = refl;
}

-- of properties that no number has both
pub just_both : {P Q : ℕ → Type 0} {m n : ℕ} → HasJust P m → HasJust Q n → ((k : ℕ) → P k → ¬ Q k) → HasJust (λ k. P k ⊎ Q k) (m + n)
just_both p q across = record {
  list = p.list ++ q.list;
  sound = λ number there. elim (Contains-append_cases p.list q.list number there) [
    | inl left ↦ inl (p.sound number left)
    | inr right ↦ inr (q.sound number right)
  ];
  whole = λ number is. elim is [
    | inl left ↦ Contains-append_left p.list q.list number (p.whole number left)
    | inr right ↦ Contains-append_right p.list q.list number (q.whole number right)
  ];
  once = apart_both p.list q.list p.once q.once (λ number left right. across number (p.sound number left) (q.sound number right));
  counted = (let all = length-append p.list q.list in omega (arith, all, p.counted, q.counted));
}

-- what stands in a list without repeats
pub just_list : (numbers : List ℕ) → AllPairs Apart numbers → HasJust (Contains numbers) (length numbers)
just_list numbers once = record {
  list = numbers;
  sound = λ number there. there;
  whole = λ number there. there;
  once = once;
  counted = refl;
}

-- numbers below a bound are no more than it
range_has : (bound number : ℕ) → number < bound → Contains (range_with_len 0 bound) number
range_has bound number low =
    (number, omega (arith, length-range_with_len 0 bound, low), omega (arith, get_or-range_with_len 0 bound number number low))

pub just_few : {P : ℕ → Type 0} {count bound : ℕ} → HasJust P count → ((k : ℕ) → P k → k < bound) → count ≤ bound
just_few {bound = bound} has low =
    let fits = no_longer has.list (range_with_len 0 bound) has.once (λ number there. range_has bound number (low number (has.sound number there))) in
    omega (arith, fits, length-range_with_len 0 bound, has.counted)

-- one number alone
pub just_one : (number : ℕ) → HasJust (λ k. k ≡ number) 1
just_one number = record {
  list = number ∷ [];
  sound = λ k there. sym (only_one number k there);
  whole = λ k is. subst (Contains (number ∷ [])) (sym is) (head_in number []);
  once = apart_first number [] (λ k there. absurd (none_in_empty k there)) (λ i j d lt within. absurd (omega (arith, within)));
  counted = refl;
}

-- ---- so many of a list
pub among_few : (P : ℕ → Type 0) (numbers : List ℕ) (count : ℕ) → Among P numbers count → count ≤ length numbers
among_few P [] count none = omega (arith, none)
among_few P (x ∷ xs) count some = elim some [
  | inl one ↦ let rest = among_few P xs one.1 one.3 in omega (arith, rest, one.2)
  | inr other ↦ let rest = among_few P xs count other.1 in omega (arith, rest)
]

pub among_both : (P : ℕ → Type 0) (xs ys : List ℕ) (m n : ℕ) → Among P xs m → Among P ys n → Among P (xs ++ ys) (m + n)
among_both P [] ys m n p q = let same : n ≡ m + n = omega (arith, p) in subst (Among P ys) same q
among_both P (x ∷ xs) ys m n p q = elim p [
  | inl one ↦ inl (one.0, one.1 + n, (let e = one.2 in omega (arith, e)), among_both P xs ys one.1 n one.3 q)
  | inr other ↦ inr (other.0, among_both P xs ys m n other.1 q)
]

pub among_one : (P : ℕ → Type 0) (x : ℕ) → P x → Among P (x ∷ []) 1
among_one P x is = inl (is, 0, refl, refl)

pub among_none : (P : ℕ → Type 0) (x : ℕ) → (¬ P x) → Among P (x ∷ []) 0
among_none P x not_is = inr (not_is, refl)

-- so many numbers of a list without repeats have the property
pub among_just : (P : ℕ → Type 0) (numbers : List ℕ) (count : ℕ) → Among P numbers count → AllPairs Apart numbers → HasJust (λ k. Contains numbers k × P k) count
among_just P [] count none once = rw none (just_none (λ k is. none_in_empty k is.0))
among_just P (x ∷ xs) count some once = elim some [
  | inl one ↦ rw one.2 (just_same (just_both (among_just P xs one.1 one.3 (pairs-tail Apart x xs once)) (just_one x)
      (λ k later same. after_first x xs once k later.0 (sym same)))
      (λ k which. elim which [ inl later ↦ (rest_in x k xs later.0, later.1) | inr same ↦ rw same (head_in x xs, one.0) ])
      (λ k is. elim (cons_cases x xs k is.0) [ inl same ↦ inr (sym same) | inr later ↦ inl (later, is.1) ]))
  | inr other ↦ just_same (among_just P xs count other.1 (pairs-tail Apart x xs once))
      (λ k later. (rest_in x k xs later.0, later.1))
      (λ k is. elim (cons_cases x xs k is.0) [ inl same ↦ absurd (other.0 (rw (← same) at is.1)) | inr later ↦ (later, is.1) ])
]
