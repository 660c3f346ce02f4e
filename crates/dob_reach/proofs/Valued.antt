-- The classes that are reached by their values, one class more each time.
use Rattle.dob_reach.proofs.Common.{◌+◌, ◌<◌, ◌↔◌, ◌∙◌, ◌≡◌, ◌≤◌, HasJust, IsMarked, List, Some, arith, cases_lt, inl, inr, length, slice_get}
use Rattle.dob_reach.proofs.Common.{slice_get_within, sym, ℕ}
use Rattle.dob_distance.specs.declared.value.Value.{Value}
use Rattle.dob_distance.specs.declared.value.Value.TheVariants.{Win, Loss, Draw}
use Rattle.dob_reach.specs.declared.values.ByValue.{ByValue}
use Rattle.dob_reach.specs.Values.{AreCounted, IsDrawn, IsLost, IsWon, with_value}
use Rattle.dob_reach.proofs.Counts.{just_both, just_none, just_one, just_same}

module _ (words : List ℕ) (values : List Value) where
  abbrev pub MarkedBelow : ℕ → ℕ → Type 0
  MarkedBelow class k = (k < class) × IsMarked words k

  module _ (Is : ℕ → Type 0) where
    pub one_more : (class count : ℕ) → IsMarked words class → Is class → HasJust (λ k. MarkedBelow class k × Is k) count
        → HasJust (λ k. MarkedBelow (class + 1) k × Is k) (count + 1)
    one_more class count marked is has = just_same (just_both has (just_one class) (λ k low same. absurd (omega (arith, low.0.0, same))))
        (λ k which. elim which [ inl low ↦ ((omega (arith, low.0.0), low.0.1), low.1) | inr same ↦ rw same ((omega arith, marked), is) ])
        (λ k low. elim (cases_lt k class) [ inl less ↦ inl ((less, low.0.1), low.1) | inr high ↦ inr (omega (arith, high, low.0.0)) ])

    pub no_more : (class count : ℕ) → (IsMarked words class → Is class → ⊥) → HasJust (λ k. MarkedBelow class k × Is k) count
        → HasJust (λ k. MarkedBelow (class + 1) k × Is k) count
    no_more class count not_is has = just_same has (λ k low. ((omega (arith, low.0.0), low.0.1), low.1))
        (λ k low. elim (cases_lt k class) [
          | inl less ↦ ((less, low.0.1), low.1)
          | inr high ↦ let same : k ≡ class = omega (arith, high, low.0.0) in absurd (not_is (rw same at low.0.1) (rw same at low.1))
        ])

    pub none_yet : HasJust (λ k. MarkedBelow 0 k × Is k) 0
    none_yet = just_none (λ k low. absurd (omega (arith, low.0.0)))

  pub counted_none : AreCounted (MarkedBelow 0) values (record { win = 0; loss = 0; draw = 0 })
  counted_none = record { won = none_yet (IsWon values); lost = none_yet (IsLost values); drawn = none_yet (IsDrawn values) }

  pub counted_same : (class : ℕ) (counts : ByValue) → (¬ IsMarked words class) → AreCounted (MarkedBelow class) values counts
      → AreCounted (MarkedBelow (class + 1)) values counts
  counted_same class counts unmarked are = record {
    won = no_more (IsWon values) class counts.win (λ is _. unmarked is) are.won;
    lost = no_more (IsLost values) class counts.loss (λ is _. unmarked is) are.lost;
    drawn = no_more (IsDrawn values) class counts.draw (λ is _. unmarked is) are.drawn;
  }

  pub counted_more : (class : ℕ) (counts : ByValue) (value : Value) → IsMarked words class → slice_get values class ≡ Some value
      → AreCounted (MarkedBelow class) values counts → AreCounted (MarkedBelow (class + 1)) values (with_value counts value)
  counted_more class counts (Win plies) marked there are = record {
    won = one_more (IsWon values) class counts.win marked (plies, there) are.won;
    lost = no_more (IsLost values) class counts.loss (λ _ is. let e = sym there ∙ is.1 in absurd (cc)) are.lost;
    drawn = no_more (IsDrawn values) class counts.draw (λ _ is. let e = sym there ∙ is in absurd (cc)) are.drawn;
  }
  counted_more class counts (Loss plies) marked there are = record {
    won = no_more (IsWon values) class counts.win (λ _ is. let e = sym there ∙ is.1 in absurd (cc)) are.won;
    lost = one_more (IsLost values) class counts.loss marked (plies, there) are.lost;
    drawn = no_more (IsDrawn values) class counts.draw (λ _ is. let e = sym there ∙ is in absurd (cc)) are.drawn;
  }
  counted_more class counts Draw marked there are = record {
    won = no_more (IsWon values) class counts.win (λ _ is. let e = sym there ∙ is.1 in absurd (cc)) are.won;
    lost = no_more (IsLost values) class counts.loss (λ _ is. let e = sym there ∙ is.1 in absurd (cc)) are.lost;
    drawn = one_more (IsDrawn values) class counts.draw marked there are.drawn;
  }

  -- all classes are counted
  pub counted_all : (Reached : ℕ → Type 0) (class : ℕ) (counts : ByValue) → length values ≤ class → ((k : ℕ) → IsMarked words k ↔ Reached k)
      → AreCounted (MarkedBelow class) values counts → AreCounted Reached values counts
  counted_all Reached class counts all marks are = record {
    won = over (IsWon values) counts.win (λ k is. slice_get_within values k (Win is.0) is.1) are.won;
    lost = over (IsLost values) counts.loss (λ k is. slice_get_within values k (Loss is.0) is.1) are.lost;
    drawn = over (IsDrawn values) counts.draw (λ k is. slice_get_within values k Draw is) are.drawn;
  }
    where
      over : (Is : ℕ → Type 0) (count : ℕ) → ((k : ℕ) → Is k → k < length values) → HasJust (λ k. MarkedBelow class k × Is k) count → HasJust (λ k. Reached k × Is k) count
      over Is count within has =
          just_same has (λ k low. ((marks k).0 low.0.1, low.1)) (λ k is. (((let low = within k is.1 in omega (arith, low, all)), (marks k).1 is.0), is.1))
