-- The classes that are reached by the codes of their values, one class more each time.
use Rattle.dob_reach.proofs.Common.{◌+◌, ◌<◌, ◌↔◌, ◌∙◌, ◌≡◌, ◌≤◌, IsMarked, List, ap, arith, cases_eq, get_or, inl, inr, length}
use Rattle.dob_reach.proofs.Common.{set, slice_get_within, sym, ℕ}
use Rattle.std.proofs.Common.{replicate}
use Rattle.std.proofs.lemmas.List.{get_or-replicate, get_or-set_other, get_or-set_same, length-replicate, length-set}
use Rattle.std.proofs.lemmas.Option.{same_Some}
use Rattle.dob_distance.specs.Codes.{code_of_value, value_of_code}
use Rattle.dob_distance.specs.declared.value.Value.{Value}
use Rattle.dob_reach.specs.Codes.{AreCodesCounted, HasCode}
use Rattle.dob_reach.proofs.Counts.{just_few, just_same}
use Rattle.dob_reach.proofs.Valued.{MarkedBelow, no_more, none_yet, one_more}

-- a code stands for one value alone
code_back : (code : ℕ) → code_of_value (value_of_code code) ≡ code
code_back code = grind arith

code_apart : (values : List Value) (class code other : ℕ) → HasCode values code class → HasCode values other class → code ≡ other
code_apart values class code other has also =
    sym (code_back code) ∙ (ap code_of_value (same_Some (value_of_code code) (value_of_code other) (sym has ∙ also)) ∙ code_back other)

module _ (words : List ℕ) (values : List Value) where
  -- before the first class
  pub coded_none : (n : ℕ) (counts : List ℕ) → n ≡ 65536 → counts ≡ replicate n 0 → AreCodesCounted (MarkedBelow words values 0) values counts
  coded_none n counts all zeros = record {
    all = ap (λ (xs : List ℕ). length xs) zeros ∙ (length-replicate n 0 ∙ all);
    each = λ code low. rw (zeros, get_or-replicate {A = ℕ} n code 0 0 (omega (arith, low, all))) (none_yet words values (HasCode values code));
  }

  -- a class that isn't marked
  pub coded_same : (class : ℕ) (counts : List ℕ) → (¬ IsMarked words class) → AreCodesCounted (MarkedBelow words values class) values counts
      → AreCodesCounted (MarkedBelow words values (class + 1)) values counts
  coded_same class counts unmarked are = record {
    all = are.all;
    each = λ code low. no_more words values (HasCode values code) class _ (λ is _. unmarked is) (are.each code low);
  }

  -- one that is, of that code
  pub coded_more : (class code : ℕ) (counts : List ℕ) → code < 65536 → IsMarked words class → HasCode values code class
      → AreCodesCounted (MarkedBelow words values class) values counts
      → AreCodesCounted (MarkedBelow words values (class + 1)) values (set counts code (get_or counts code 0 + 1))
  coded_more class code counts within marked has are = record {
    all = length-set counts code (get_or counts code 0 + 1) ∙ are.all;
    each = λ other low. elim (cases_eq other code) [
      | inl same ↦ rw (same, get_or-set_same counts code (get_or counts code 0 + 1) 0 (omega (arith, within, are.all)))
          (one_more words values (HasCode values code) class _ marked has (are.each code within))
      | inr apart ↦ rw (get_or-set_other counts code other (get_or counts code 0 + 1) 0 apart)
          (no_more words values (HasCode values other) class _ (λ _ is. apart (code_apart values class other code is has)) (are.each other low))
    ];
  }

  -- no count is more than the classes so far
  pub coded_few : (class code : ℕ) (counts : List ℕ) → code < 65536 → AreCodesCounted (MarkedBelow words values class) values counts
      → get_or counts code 0 ≤ class
  coded_few class code counts within are = just_few (are.each code within) (λ k low. low.0.0)

  -- all classes are counted
  pub coded_all : (Reached : ℕ → Type 0) (class : ℕ) (counts : List ℕ) → length values ≤ class → ((k : ℕ) → IsMarked words k ↔ Reached k)
      → AreCodesCounted (MarkedBelow words values class) values counts → AreCodesCounted Reached values counts
  coded_all Reached class counts all marks are = record {
    all = are.all;
    each = λ code low. just_same (are.each code low) (λ k is. ((marks k).0 is.0.1, is.1))
        (λ k is. (((let within = slice_get_within values k (value_of_code code) is.1 in omega (arith, within, all)), (marks k).1 is.0), is.1));
  }
