-- An answer of many is that of one call, and those that are written stay.
use Rattle.dobutsu_c.proofs.Common.{◌+◌, ◌<◌, ◌∙◌, ◌≡◌, ◌≢◌, ◌≤◌, Err, List, MatchResult, Ok, Result, ap, arith, get_or, inl, inr, length, slice_set, suc}
use Rattle.dobutsu_c.proofs.Common.{sym, ℕ, get_or-set_other, get_or-set_same, get_or_default, Family, Setup, RepresentsClass, Value, HasByFault, IsToldBy}
use Rattle.dobutsu_c.proofs.Common.{IsIndexFor, IsTold, number_by, IsAnswer, IsExact, start_at, IsShown, shown, ByFault, Numbering, DobutsuPosition, DobutsuValue}
use Rattle.std.proofs.lemmas.Bool.{cases_eq}
use Rattle.std.proofs.lemmas.Grind.{get_or-set_at, elements}
use Rattle.dobutsu_c.proofs.Exact.{no_fault, one_told, told_right}
use Rattle.dobutsu_c.proofs.Indexed.{told_by_right, no_fault_by, not_unmarked, one_fault_by, some_fault_by, unmarked_fault}
use Rattle.std.proofs.Common.{refl}

module _ (file text : List ℕ) (by : Numbering) (old new : DobutsuValue) (number : ℕ) where
  -- by the index of the file's family
  value_exact : (value : Value) → IsTold file text value → number ≡ 0 → new ≡ shown value → IsExact file text old new number
  value_exact value is none shown_is = record {
    given = λ zero. (value, is, shown_is);
    told = λ v at. (none, shown_is ∙ ap shown (one_told file text value v is at));
    right = λ table setup file_is right named zero. (value, told_right file text table setup value file_is right named is, shown_is);
    refused = λ some. absurd (some none);
    first = λ fault holds. absurd (no_fault file text is.0 is.1 is.2 fault is.3 holds);
    unchanged = λ some. absurd (some none);
  }

  fault_exact : (fault : ByFault) → IsIndexFor file by → HasByFault file text by fault → number ≡ number_by fault → number ≢ 0 → new ≡ old
      → IsExact file text old new number
  fault_exact fault for is number_is some same = record {
    given = λ none. absurd (some none);
    told = λ v at. absurd (no_fault_by file text by at.0 at.1 at.2 fault for at.3 is);
    right = λ table setup file_is right named none. absurd (some none);
    refused = λ other. let found = some_fault_by file text by fault for is in (found.0, found.1, number_is ∙ found.2);
    first = λ f holds. number_is ∙ one_fault_by file text by fault f for is holds;
    unchanged = λ other. same;
  }

  pub answered : (probed : Result Value ByFault) → MatchResult probed (IsToldBy file text by) (HasByFault file text by)
      → MatchResult probed (λ value. (number ≡ 0) × (new ≡ shown value)) (λ fault. (number ≡ number_by fault) × (number ≢ 0) × (new ≡ old))
      → IsAnswer file by text old new number
  answered (Ok value) is new_is = record {
    exact = λ for. value_exact value (told_by_right file text by value for is) new_is.0 new_is.1;
    told_by = λ none. (value, is, new_is.1);
    refused_by = λ some. absurd (some new_is.0);
    unmarked = λ format family setup read wrong. absurd (not_unmarked file text by is.0 format is.1 family is.2 setup is.4.held read wrong);
    unchanged = λ some. absurd (some new_is.0);
  }
  answered (Err fault) is new_is = record {
    exact = λ for. fault_exact fault for is new_is.0 new_is.1 new_is.2;
    told_by = λ none. absurd (new_is.1 none);
    refused_by = λ some. (fault, is, new_is.0);
    unmarked = λ format family setup read wrong. new_is.0 ∙ unmarked_fault file text by format family setup fault read wrong is;
    unchanged = λ some. new_is.2;
  }

-- the next text begins where one ends
pub begins_next : (ends : List ℕ) (place : ℕ) → start_at ends (place + 1) ≡ get_or ends place 0
begins_next ends place = let next : place + 1 ≡ suc place = omega arith in rw next refl

-- what is said of two places that were read holds of what they are, whatever a place that isn't there is
pub read_there : {N X : Type 0} (Q : N → X → Type 0) (numbers : List N) (now old : List X) (place : ℕ) (d0 d : N) (e0 e : X) → place < length numbers
    → place < length now → get_or now place e ≡ get_or old place e → Q (get_or numbers place d0) (get_or now place e0)
    → Q (get_or numbers place d) (get_or old place e)
read_there Q numbers now old place d0 d e0 e there within same is =
    rw (← get_or_default numbers place d0 d there, ← same, ← get_or_default now place e0 e within) is

-- one more place is written: those before it stay, and so do those behind
module _ {X : Type 0} (P : ℕ → X → X → Type 0) (old now : List X) (place : ℕ) (x : X) (within : place < length now)
    (before : (k : ℕ) (e : X) → k < place → P k (get_or old k e) (get_or now k e))
    (others : (k : ℕ) (e : X) → place ≤ k → get_or now k e ≡ get_or old k e) where
  pub one_written : ((e : X) → P place (get_or old place e) x)
      → (k : ℕ) (e : X) → k < place + 1 → P k (get_or old k e) (get_or (slice_set now place x) k e)
  one_written here k e below = elim (cases_eq place k) [
    | inl same ↦ rw (← same, get_or-set_same now place x e within) (here e)
    | inr apart ↦ rw (get_or-set_other now place k x e (λ same. apart (sym same))) (before k e (omega arith))
  ]

  pub others_left : (k : ℕ) (e : X) → place + 1 ≤ k → get_or (slice_set now place x) k e ≡ get_or old k e
  others_left k e above = grind (arith, elements, others k e)

pub one_more_class : (family : Family) (first place : ℕ) (now : List DobutsuPosition) (x : DobutsuPosition) (p : Setup) → place < length now
    → RepresentsClass family p (first + place) → IsShown x p
    → ((k : ℕ) → k < place → (setup : Setup) × RepresentsClass family setup (first + k) × ((e : DobutsuPosition) → IsShown (get_or now k e) setup))
    → (k : ℕ) → k < place + 1
    → (setup : Setup) × RepresentsClass family setup (first + k) × ((e : DobutsuPosition) → IsShown (get_or (slice_set now place x) k e) setup)
one_more_class family first place now x p within represents shown before k below = elim (cases_eq k place) [
  | inl same ↦ (p, rw same represents, λ e. rw (get_or-set_at now place k x e same within) shown)
  | inr apart ↦
      let known = before k (omega arith) in
      (known.0, known.1, λ e. rw (get_or-set_other now place k x e apart) (known.2 e))
]
