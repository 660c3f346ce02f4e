-- What is kept of a list of values, as the list grows.
use Rattle.dob_probe.proofs.Common.{◌++◌, ◌∷◌, ◌≡◌, ◌≤◌, ◌⊎◌, Bool, Contains, List, None, Option, Some, [], arith, max, min, true, ℕ, Contains-append_left}
use Rattle.dob_probe.proofs.Common.{Contains-push, Contains-push_cases, IsLeastLoss, greater_of, lesser_of, Value, Draw, Loss, Win, AreSummed, IsGreatestWin}
use Rattle.dob_probe.proofs.Common.{TellsDraw, Successors}
use Rattle.dob_distance.proofs.Distances.{same_win, same_loss}

-- of the values of one kind, given by their distances, that one is the first in an order, or there is none
abbrev IsFirst : (ℕ → Value) → (ℕ → ℕ → Type 0) → List Value → Option ℕ → Type 0
IsFirst Of Before values None = (plies : ℕ) → ¬ Contains values (Of plies)
IsFirst Of Before values (Some first) = Contains values (Of first) × ((plies : ℕ) → Contains values (Of plies) → Before first plies)

module _ (Of : ℕ → Value) (Before : ℕ → ℕ → Type 0) (values : List Value) where
  -- a value of another kind changes nothing
  first_same : (first : Option ℕ) (v : Value) → ((plies : ℕ) → ¬ (v ≡ Of plies)) → IsFirst Of Before values first
      → IsFirst Of Before (values ++ v ∷ []) first
  first_same None v other none = λ plies there. grind (arith, Contains-push_cases values v (Of plies) there, none plies, other plies)
  first_same (Some first) v other known =
      (Contains-append_left values (v ∷ []) (Of first) known.0, λ plies there. grind (arith, Contains-push_cases values v (Of plies) there, known.1 plies, other plies))

  -- with one more of the kind the first is that one or the one before, whichever is before the other
  module _ (plies : ℕ) (own : (other : ℕ) → Of plies ≡ Of other → plies ≡ other) where
    first_alone : Before plies plies → IsFirst Of Before values None → IsFirst Of Before (values ++ Of plies ∷ []) (Some plies)
    first_alone itself none = (
      Contains-push values (Of plies),
      λ other there. grind (arith, Contains-push_cases values (Of plies) (Of other) there, none other, own other, itself),
    )

    first_of_two : (first new : ℕ) → (new ≡ plies) ⊎ (new ≡ first) → Before new plies
        → ((other : ℕ) → Before first other → Before new other) → IsFirst Of Before values (Some first)
        → IsFirst Of Before (values ++ Of plies ∷ []) (Some new)
    first_of_two first new one late more known = (
      grind (arith, one, Contains-push values (Of plies), Contains-append_left values (Of plies ∷ []) (Of first)),
      λ other there. grind (arith, Contains-push_cases values (Of plies) (Of other) there, known.1 other, more other, own other, late),
    )

one_of_min : (a b : ℕ) → (min a b ≡ b) ⊎ (min a b ≡ a)
one_of_min a b = grind arith

one_of_max : (a b : ℕ) → (max a b ≡ b) ⊎ (max a b ≡ a)
one_of_max a b = grind arith

module _ (values : List Value) where
  least_same : (least : Option ℕ) (v : Value) → ((plies : ℕ) → ¬ (v ≡ Loss plies)) → IsLeastLoss values least → IsLeastLoss (values ++ v ∷ []) least
  least_same least v other known = grind (arith, first_same Loss (λ a b. a ≤ b) values least v other)

  greatest_same : (greatest : Option ℕ) (v : Value) → ((plies : ℕ) → ¬ (v ≡ Win plies)) → IsGreatestWin values greatest →
      IsGreatestWin (values ++ v ∷ []) greatest
  greatest_same None v other none = first_same Win (λ a b. b ≤ a) values None v other none
  greatest_same (Some greatest) v other known = first_same Win (λ a b. b ≤ a) values (Some greatest) v other known

  draw_same : (draw : Bool) (v : Value) → ¬ (v ≡ Draw) → TellsDraw values draw → TellsDraw (values ++ v ∷ []) draw
  draw_same draw v other tells = grind (arith, Contains-push_cases values v Draw, Contains-append_left values (v ∷ []) Draw)

  -- a loss more, and a win more
  least_more : (least : Option ℕ) (plies : ℕ) → IsLeastLoss values least →
      IsLeastLoss (values ++ Loss plies ∷ []) (Some (lesser_of least plies))
  least_more None plies none = first_alone Loss (λ a b. a ≤ b) values plies (same_loss plies) (omega arith) none
  least_more (Some least) plies known =
      first_of_two Loss (λ a b. a ≤ b) values plies (same_loss plies) least (min least plies) (one_of_min least plies) (omega arith)
      (λ other le. omega (arith, le)) known

  greatest_more : (greatest : Option ℕ) (plies : ℕ) → IsGreatestWin values greatest →
      IsGreatestWin (values ++ Win plies ∷ []) (Some (greater_of greatest plies))
  greatest_more None plies none = first_alone Win (λ a b. b ≤ a) values plies (same_win plies) (omega arith) none
  greatest_more (Some greatest) plies known =
      first_of_two Win (λ a b. b ≤ a) values plies (same_win plies) greatest (max greatest plies) (one_of_max greatest plies) (omega arith)
      (λ other le. omega (arith, le)) known

  -- a value more
  pub summed_win : (kept : Successors) (plies : ℕ) → AreSummed values kept →
      AreSummed (values ++ Win plies ∷ []) (record kept { greatest_win = Some (greater_of kept.greatest_win plies) })
  summed_win kept plies summed = record {
    least = least_same kept.least_loss (Win plies) (λ other e. absurd (cc)) summed.least;
    greatest = greatest_more kept.greatest_win plies summed.greatest;
    draw = draw_same kept.has_draw (Win plies) (λ e. absurd (cc)) summed.draw;
  }

  pub summed_loss : (kept : Successors) (plies : ℕ) → AreSummed values kept →
      AreSummed (values ++ Loss plies ∷ []) (record kept { least_loss = Some (lesser_of kept.least_loss plies) })
  summed_loss kept plies summed = record {
    least = least_more kept.least_loss plies summed.least;
    greatest = greatest_same kept.greatest_win (Loss plies) (λ other e. absurd (cc)) summed.greatest;
    draw = draw_same kept.has_draw (Loss plies) (λ e. absurd (cc)) summed.draw;
  }

  pub summed_draw : (kept : Successors) → AreSummed values kept → AreSummed (values ++ Draw ∷ []) (record kept { has_draw = true })
  summed_draw kept summed = record {
    least = least_same kept.least_loss Draw (λ other e. absurd (cc)) summed.least;
    greatest = greatest_same kept.greatest_win Draw (λ other e. absurd (cc)) summed.greatest;
    draw = Contains-push values Draw;
  }
