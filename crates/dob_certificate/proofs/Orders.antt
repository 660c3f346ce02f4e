-- Items by ascending keys, as entries by ascending class: what a search finds, and that a key stands at one place at most.
use Rattle.dob_certificate.proofs.Common.{◌+◌, ◌<◌, ◌∙◌, ◌≡◌, ◌≢◌, ◌≤◌, Contains, Err, IfErr, IfNone, IfOk, IfSome, List, None, Ok, Option, Result, Some}
use Rattle.dob_certificate.proofs.Common.{add-one, ap, arith, get_or, inl, inr, length, subst, suc, sym, zero, ℕ, cases_lt, nat_tests}
use Rattle.dob_certificate.proofs.Common.{IsNonDecreasingBy-from_default, Family, Setup, IsInClass, one_class, AreAscending, class_at, listed_entry, IsEntryFor}
use Rattle.dob_certificate.proofs.Common.{Entry}
use Rattle.std.specs.List.Sorted.{IsSearchInRange, IsBinarySearchResult, IsNonDecreasingBy}
use Rattle.std.specs.Ordering.{nat_cmp, ordering_index}
use Rattle.std.proofs.lemmas.Cmp.{ranked}
use Rattle.std.proofs.lemmas.List.{get_or_default}

-- what stands where no entry does
abbrev pub no_entry : Entry
no_entry = record { class = 0; plies = 0 }

-- ---- items with ascending keys

module _ {X : Type 0} (key : X → ℕ) (d : X) (xs : List X)
    (ascending : (place : ℕ) → place + 1 < length xs → key (get_or xs place d) < key (get_or xs (place + 1) d)) where
  -- an earlier item has a lower key
  rises : (earlier later : ℕ) → earlier < later → later < length xs → key (get_or xs earlier d) < key (get_or xs later d)
  rises earlier zero before within = absurd (omega arith)
  rises earlier (suc later) before within =
      let step : key (get_or xs later d) < key (get_or xs (suc later) d) = rw add-one at (ascending later (omega arith)) in
      elim (cases_lt earlier later) [
        | inl further ↦ let far = rises earlier later further (omega arith) in omega arith
        | inr here ↦
            let same : later ≡ earlier = omega arith in
            subst (λ k. key (get_or xs k d) < key (get_or xs (suc later) d)) same step
      ]

  pub one_place : (a b : ℕ) → a < length xs → b < length xs → key (get_or xs a d) ≡ key (get_or xs b d) → a ≡ b
  one_place a b at_a at_b same = elim (cases_lt a b) [
    | inl before ↦ let low = rises a b before at_b in absurd (omega arith)
    | inr later ↦ elim (cases_lt b a) [ inl before ↦ let low = rises b a before at_a in absurd (omega arith) | inr back ↦ omega arith ]
  ]

  module _ (wanted : ℕ) where
    -- the comparisons with a key rise along the list, as a binary search asks
    comparisons_rise : IsNonDecreasingBy (λ (x : X). ordering_index (nat_cmp (key x) wanted)) xs
    comparisons_rise = IsNonDecreasingBy-from_default (λ (x : X). ordering_index (nat_cmp (key x) wanted)) xs d (λ i j le in_range.
        let keys_rise : key (get_or xs i d) ≤ key (get_or xs j d) = elim (cases_lt i j) [
          | inl before ↦ let less = rises i j before in_range in omega arith
          | inr back ↦ omega (arith, ap (λ (k : ℕ). key (get_or xs k d)) (let same : i ≡ j = omega arith in same))
        ] in
        grind (arith, nat_tests))

    -- a binary search ends at the key, or where no place has it
    pub searched : (r : Result ℕ ℕ) → IsSearchInRange r (length xs) → IsBinarySearchResult (λ (x : X). nat_cmp (key x) wanted) xs r →
        record {
          found : IfOk r (λ place. (place < length xs) × (key (get_or xs place d) ≡ wanted));
          absent : IfErr r (λ _. (place : ℕ) → place < length xs → key (get_or xs place d) ≢ wanted);
        }
    searched (Ok at) in_range equal = record { found = (in_range, ranked _ wanted _ (sym (equal d))); absent = tt }
    searched (Err at) in_range parted = record {
      found = tt;
      absent = λ place within same. elim (cases_lt place at) [
        | inl before ↦ omega (arith, same, ranked _ wanted _ (sym ((parted comparisons_rise).0 place d (omega arith) before)))
        | inr behind ↦ omega (arith, same, ranked _ wanted _ (sym ((parted comparisons_rise).1 place d behind within)))
      ];
    }

-- ---- entries by ascending class

-- what is read at a place is the entry there, whatever is read behind the end
pub read_at : (entries : List Entry) (place : ℕ) (entry : Entry) → place < length entries → get_or entries place entry ≡ entry → listed_entry entries place ≡ entry
read_at entries place entry within is = get_or_default entries place no_entry entry within ∙ is

pub listed_there : (entries : List Entry) (place : ℕ) → place < length entries → get_or entries place (listed_entry entries place) ≡ listed_entry entries place
listed_there entries place within = sym (get_or_default entries place no_entry (listed_entry entries place) within)

-- a class has one entry at most
pub one_entry : (entries : List Entry) → AreAscending entries → (a b : Entry) → Contains entries a → Contains entries b → a.class ≡ b.class → a ≡ b
one_entry entries ascending a b at_a at_b same =
    let here_a = read_at entries at_a.0 a at_a.1 at_a.2 in
    let here_b = read_at entries at_b.0 b at_b.1 at_b.2 in
    let class = λ (entry : Entry). entry.class in
    let place = one_place class no_entry entries ascending at_a.0 at_b.0 at_a.1 at_b.1 (ap class here_a ∙ same ∙ sym (ap class here_b)) in
    sym here_a ∙ ap (listed_entry entries) place ∙ here_b

-- no entry of a class stands in a list none of whose places has it
pub no_place : (entries : List Entry) (class : ℕ) → ((place : ℕ) → place < length entries → class_at entries place ≢ class) →
    (entry : Entry) → Contains entries entry → entry.class ≢ class
no_place entries class none entry there same =
    none there.0 there.1 (ap (λ (e : Entry). e.class) (read_at entries there.0 entry there.1 there.2) ∙ same)

-- the entry that a search for a position's class found, or none
module _ (family : Family) (entries : List Entry) (q : Setup) (class : ℕ) (is : IsInClass family q class) where
  pub none_for : (found : Option Entry) → IfNone found ((entry : Entry) → Contains entries entry → entry.class ≢ class) →
      IfNone found ((entry : Entry) → ¬ IsEntryFor family entries q entry)
  none_for (Some entry) none = tt
  none_for None none = λ entry found. none entry found.listed (one_class family q entry.class class found.stands is)

  pub alone_for : (found : Option Entry) → IfSome found (λ entry. (other : Entry) → Contains entries other → other.class ≡ class → entry ≡ other) →
      IfSome found (λ entry. (other : Entry) → IsEntryFor family entries q other → entry ≡ other)
  alone_for None alone = tt
  alone_for (Some entry) alone = λ other found. alone other found.listed (one_class family q other.class class found.stands is)
