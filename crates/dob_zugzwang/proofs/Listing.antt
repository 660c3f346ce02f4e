-- Pairs that are found class by class, as a list.
use Rattle.dob_zugzwang.proofs.Common.{◌<◌, ◌∙◌, ◌∷◌, ◌≡◌, ◌≤◌, List, None, Option, Some, [], arith, inl, inr, length, subst, sym, ℕ, cases_eq, get_or_default}
use Rattle.dob_zugzwang.proofs.Common.{slice_get_within, one_class, ClassTable, ArePairs, IsPair, IsPairAt, Zugzwang}
use Rattle.std.proofs.Common.{zero, suc, ◌+◌, get_or, AllPairs, Contains}
use Rattle.std.specs.List.{AllZip, filter_map, range_with_len}
use Rattle.std.proofs.lemmas.List.Kept.{AllPairs-cons}
use Rattle.dob_pieces.proofs.Lists.{cons_cases, head_in, none_in_empty, rest_in}
use Rattle.dob_zugzwang.proofs.Pairing.{pairs_agree}

abbrev Found : List (Option Zugzwang) → List Zugzwang
Found found = filter_map (λ (o : Option Zugzwang). o) found

-- what is found of so many classes from one on is pairs of these classes, all of them, in their order
record AreFound (table : ClassTable) (from count : ℕ) (pairs : List Zugzwang) : Type 0 where
  pub sound : (pair : Zugzwang) → Contains pairs pair → IsPair table pair × (from ≤ pair.class)
  pub whole : (pair : Zugzwang) → from ≤ pair.class → pair.class < from + count → IsPair table pair → Contains pairs pair
  pub ascending : AllPairs (λ (a b : Zugzwang). a.class < b.class) pairs

module _ (table : ClassTable) where
  pass : (from count : ℕ) (pairs : List Zugzwang) → ((pair : Zugzwang) → pair.class ≡ from → ¬ IsPair table pair) → AreFound table (from + 1) count pairs
      → AreFound table from (suc count) pairs
  pass from count pairs none are = record {
    sound = λ pair there. let had = are.sound pair there in (had.0, omega (arith, had.1));
    whole = λ pair low high is. elim (cases_eq pair.class from) [
      | inl same ↦ absurd (none pair same is)
      | inr other ↦ are.whole pair (omega (arith, low, other)) (omega (arith, high)) is
    ];
    ascending = are.ascending;
  }

  take_in : (from count : ℕ) (first : Zugzwang) (pairs : List Zugzwang) → first.class ≡ from → IsPair table first → AreFound table (from + 1) count pairs
      → AreFound table from (suc count) (first ∷ pairs)
  take_in from count first pairs here is_first are = record {
    sound = λ pair there. elim (cons_cases first pairs pair there) [
      | inl same ↦ subst (λ (q : Zugzwang). IsPair table q × (from ≤ q.class)) same (is_first, omega (arith, here))
      | inr later ↦ let had = are.sound pair later in (had.0, omega (arith, had.1))
    ];
    whole = λ pair low high is. elim (cases_eq pair.class from) [
      | inl same ↦ subst (Contains (first ∷ pairs)) (pairs_agree table first pair (here ∙ sym same) is_first is) (head_in first pairs)
      | inr other ↦ rest_in first pair pairs (are.whole pair (omega (arith, low, other)) (omega (arith, high)) is)
    ];
    ascending = AllPairs-cons (λ (a b : Zugzwang). a.class < b.class) first pairs
        (λ k d lt. let had = are.sound (get_or pairs k d) (k, lt, get_or_default pairs k (get_or pairs k d) d lt) in omega (arith, here, had.1)) are.ascending;
  }

  found_from : (from count : ℕ) (found : List (Option Zugzwang)) → AllZip (IsPairAt table) (range_with_len from count) found → AreFound table from count (Found found)
  found_from from zero [] at = record {
    sound = λ pair there. absurd (none_in_empty pair there);
    whole = λ pair low high is. absurd (omega (arith, low, high));
    ascending = λ i j d lt within. absurd (omega (arith, within));
  }
  found_from from zero (o ∷ found) at = absurd at
  found_from from (suc count) [] at = absurd at
  found_from from (suc count) (None ∷ found) at = pass from count (Found found) at.0 (found_from (from + 1) count found at.1)
  found_from from (suc count) (Some pair ∷ found) at = take_in from count pair (Found found) at.0.0 at.0.1 (found_from (from + 1) count found at.1)

  -- a pair's class is one of the table's
  pub pair_within : (pair : Zugzwang) → IsPair table pair → pair.class < length table.values
  pair_within pair is =
      let has = is.1.zugzwang.has in
      let low = slice_get_within table.values has.class pair.value has.entry in
      let same = one_class table.family is.0 pair.class has.class is.1.in_class has.number in
      omega (arith, low, same)

  -- what is found of all classes is all pairs
  pub all_found : (count : ℕ) (found : List (Option Zugzwang)) → ((pair : Zugzwang) → IsPair table pair → pair.class < count)
      → AllZip (IsPairAt table) (range_with_len 0 count) found → ArePairs table (filter_map (λ (o : Option Zugzwang). o) found)
  all_found count found within at =
      let are = found_from 0 count found at in
      record {
        sound = λ pair there. (are.sound pair there).0;
        whole = λ pair is. are.whole pair (omega arith) (let low = within pair is in omega (arith, low)) is;
        ascending = are.ascending;
      }
