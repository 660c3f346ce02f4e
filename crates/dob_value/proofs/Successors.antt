-- A list of successors' numbers as it grows.
use Rattle.dob_value.proofs.Common.{◌++◌, ◌+◌, ◌<◌, ◌∷◌, ◌≡◌, ◌≤◌, Contains, List, Some, [], arith, inl, inr, length, slice_get, subst, ℕ}
use Rattle.dob_value.proofs.Common.{Contains-append_left, Contains-push, Contains-push_cases, before_or_here, standing, Family, Profile, Setup}
use Rattle.dob_value.proofs.Common.{IsLegal-Goes, total-Goes, CanGo, Goes, AreMoves, HasStatus, Move, Open, IsPositionOf, AreSuccessors}
use Rattle.dob_moves.proofs.Kept.{IsAllowed-Goes}

-- moves lead from positions of a family to such positions
pub moves_keep_the_family : (family : Family) (p : Setup) (move : Move) (q : Setup) → IsPositionOf family p → HasStatus family.profile p Open →
    Goes family.profile p move q → IsPositionOf family q
moves_keep_the_family family p move q is goes_on goes = grind (arith, IsLegal-Goes, total-Goes, IsAllowed-Goes)

-- the numbers stand for the outcomes of the moves below an index
pub record AreSuccessorsBelow (profile : Profile) {X : Type 0} (StandsFor : X → Setup → Type 0) (p : Setup) (legal : List Move) (upto : ℕ) (numbers : List X) : Type 0 where
  pub sound : (number : X) → Contains numbers number → (move : Move) × (q : Setup) × Goes profile p move q × StandsFor number q
  pub whole : (index : ℕ) (move : Move) (q : Setup) → index < upto → slice_get legal index ≡ Some move → Goes profile p move q →
      (number : X) × Contains numbers number × StandsFor number q

module _ (profile : Profile) {X : Type 0} (StandsFor : X → Setup → Type 0) (p : Setup) (legal : List Move) where
  pub successors_none : AreSuccessorsBelow profile StandsFor p legal 0 []
  successors_none = record {
    sound = λ number there. absurd (omega (arith, there.1));
    whole = λ index move q below there goes. absurd (omega arith);
  }

  pub successors_more : (upto : ℕ) (numbers : List X) (played : Move) (number : X) → slice_get legal upto ≡ Some played →
      CanGo profile p played → ((q : Setup) → Goes profile p played q → StandsFor number q) →
      AreSuccessorsBelow profile StandsFor p legal upto numbers →
      AreSuccessorsBelow profile StandsFor p legal (upto + 1) (numbers ++ number ∷ [])
  successors_more upto numbers played number here can_go stands before = record {
    sound = λ other there. elim (Contains-push_cases numbers number other there) [
      | inl earlier ↦ before.sound other earlier
      | inr same ↦ (played, can_go.0, can_go.1, subst (λ k. StandsFor k can_go.0) same (stands can_go.0 can_go.1))
    ];
    whole = λ index move q below there goes. elim (before_or_here legal upto index played move here there below) [
      | inl earlier ↦
          let step = before.whole index move q earlier there goes in
          (step.0, Contains-append_left numbers (number ∷ []) step.0 step.1, step.2)
      | inr same ↦ (number, Contains-push numbers number, stands q (subst (λ m. Goes profile p m q) same goes))
    ];
  }

  pub successors_all : (upto : ℕ) (numbers : List X) → length legal ≤ upto → AreMoves profile p legal →
      AreSuccessorsBelow profile StandsFor p legal upto numbers → AreSuccessors profile StandsFor p numbers
  successors_all upto numbers all are_moves below = record {
    sound = below.sound;
    whole = λ goes_on move q goes.
        let there = standing legal move (are_moves.whole move goes_on (q, goes)) in
        let within : there.0 < length legal = there.1 in
        below.whole there.0 move q (omega arith) there.2 goes;
  }
