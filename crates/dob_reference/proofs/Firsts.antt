-- The first move of a list that is made piece by piece.
use Rattle.std.proofs.Common.{List, None, Option, Some, [], add-one, ap, arith, drop, drop-cons, false, get_or, inl, inr, length, option_to_list}
use Rattle.std.proofs.Common.{refl, suc, sym, true, zero, ℕ, ◌++◌, ◌+◌, ◌<◌, ◌∙◌, ◌∷◌, ◌≡◌}
use Rattle.std.proofs.lemmas.Bool.{cases_lt}
use Rattle.std.specs.List.{cons_option, filter_map}
use Rattle.std.specs.Option.{is_some}
use Rattle.dob_pieces.specs.Lists.{each_below}
use Rattle.dob_moves.specs.Walks.{first}
use Rattle.dob_moves.specs.declared.game_move.Move.{Move}

-- a value that is there comes first
first-cons_some : (o : Option Move) (rest : List Move) → is_some o ≡ true → first (cons_option o rest) ≡ o
first-cons_some None rest h = cc
first-cons_some (Some m) rest h = refl

first-cons_none : (o : Option Move) (rest : List Move) → is_some o ≡ false → first (cons_option o rest) ≡ first rest
first-cons_none None rest h = refl
first-cons_none (Some m) rest h = cc

-- of what is left from place i on, the value at i comes first, if it is there
pub first_found : (f : ℕ → Option Move) (xs : List ℕ) (i : ℕ) → i < length xs → is_some (f (get_or xs i 0)) ≡ true
    → first (filter_map f (drop i xs)) ≡ f (get_or xs i 0)
first_found f xs i h found = rw (drop-cons xs i 0) (first-cons_some (f (get_or xs i 0)) (filter_map f (drop (suc i) xs)) found)

-- and else what comes after it
pub first_passed : (f : ℕ → Option Move) (xs : List ℕ) (i : ℕ) → i < length xs → is_some (f (get_or xs i 0)) ≡ false
    → first (filter_map f (drop (i + 1) xs)) ≡ first (filter_map f (drop i xs))
first_passed f xs i h absent = rw (add-one, drop-cons xs i 0) (sym (first-cons_none (f (get_or xs i 0)) (filter_map f (drop (suc i) xs)) absent))

pub first-append_none : (xs ys : List Move) → first xs ≡ None → first (xs ++ ys) ≡ first ys
first-append_none [] ys h = refl
first-append_none (x ∷ xs) ys h = cc

pub first-append_some : (xs ys : List Move) → is_some (first xs) ≡ true → first (xs ++ ys) ≡ first xs
first-append_some [] ys h = cc
first-append_some (x ∷ xs) ys h = refl

pub none_from : {X : Type 0} (o : Option X) → is_some o ≡ false → o ≡ None
none_from None h = refl
none_from (Some x) h = cc

-- one more that gives nothing
pub below_passed : (g : ℕ → List Move) (i : ℕ) → first (each_below g i) ≡ None → is_some (first (g i)) ≡ false → first (each_below g (i + 1)) ≡ None
below_passed g i before absent = rw add-one (first-append_none (each_below g i) (g i) before ∙ none_from (first (g i)) absent)

-- the first that gives something
pub below_found : (g : ℕ → List Move) (i n : ℕ) → i < n → first (each_below g i) ≡ None → is_some (first (g i)) ≡ true → first (each_below g n) ≡ first (g i)
below_found g i zero h before found = absurd (omega arith)
below_found g i (suc n) h before found =
    elim (cases_lt i n) [
      | inl lt ↦
          let e = below_found g i n lt before found in
          first-append_some (each_below g n) (g n) (ap is_some e ∙ found) ∙ e
      | inr ge ↦
          let e : n ≡ i = omega arith in
          rw e (first-append_none (each_below g i) (g i) before)
    ]

-- the same of single values
pub first-option : (o : Option Move) → first (option_to_list o) ≡ o
first-option None = refl
first-option (Some m) = refl

pub ruleset firsts = (first_found, first_passed, first-append_none, first-append_some, none_from, below_passed, below_found, first-option)
