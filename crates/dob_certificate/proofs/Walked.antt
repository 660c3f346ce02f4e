-- The moves of a position gone through one by one: what one of them leads to, and what all do.
use Rattle.dob_certificate.proofs.Common.{◌+◌, ◌<◌, ◌∙◌, ◌≡◌, ◌≤◌, Bool, List, Option, Some, ap, arith, length, slice_get, subst, sym, ℕ}
use Rattle.dob_certificate.proofs.Common.{slice_get-get_or, Profile, Setup, AreMoves, HasStatus, Open}
use borrow.Author.Count.{below_more}
use Rattle.dob_moves.specs.declared.game_move.Move.{Move}
use Rattle.dob_moves.specs.Moves.{Goes}
use Rattle.dob_certificate.specs.Walks.{AllLead, SomeLeads}

module _ (profile : Profile) (p : Setup) (legal : List Move) where
  -- the move at that place leads to such a position
  abbrev pub LeadsAt : (Setup → Type 0) → ℕ → Type 0
  LeadsAt Fits index = (move : Move) (q : Setup) → slice_get legal index ≡ Some move → Goes profile p move q → Fits q

  -- what is told of the outcome of the move at a place
  module _ (Told : Bool → Setup → Type 0) (told wanted : Bool) (same : told ≡ wanted) (move : Move) (outcome : Setup) (is : Told told outcome) where
    -- a move leads to what is wanted
    pub one_leads : Goes profile p move outcome → SomeLeads profile p (Told wanted)
    one_leads goes = record { move = move; outcome = outcome; goes = goes; fits = subst (λ (b : Bool). Told b outcome) same is }

    -- one more of them does
    pub more_lead : (index : ℕ) → slice_get legal index ≡ Some move → ((q : Setup) → Goes profile p move q → outcome ≡ q) →
        ((k : ℕ) → k < index → LeadsAt (Told wanted) k) → (k : ℕ) → k < index + 1 → LeadsAt (Told wanted) k
    more_lead index read alone before = below_more (LeadsAt (Told wanted)) index before here
      where
        here : LeadsAt (Told wanted) index
        here other q there goes =
            let one : Some other ≡ Some move = sym there ∙ read in
            let same_move : other ≡ move = grind (arith, one) in
            subst (Told wanted) (alone q (subst (λ (m : Move). Goes profile p m q) same_move goes)) (subst (λ (b : Bool). Told b outcome) same is)

  -- what holds of the moves at all places holds of each move
  pub all_lead : AreMoves profile p legal → HasStatus profile p Open → (Fits : Setup → Type 0) (upto : ℕ) → length legal ≤ upto →
      ((k : ℕ) → k < upto → LeadsAt Fits k) → AllLead profile p Fits
  all_lead are goes_on Fits upto all each m q goes =
      let at = are.whole m goes_on (q, goes) in
      each at.0 (omega (arith, all, at.1)) m q (slice_get-get_or legal at.0 m at.1 ∙ ap (λ x. let o : Option Move = Some x in o) at.2) goes
