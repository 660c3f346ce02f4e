-- What a walk comes to is a move, and leads to a position.
use Rattle.dob_moves.proofs.Common.{◌≡◌, Contains, List, Some, subst, ℕ, turned, IsLegal, Profile, A, Setup, CanGo, Goes, HasOutcome, Move, Open}
use Rattle.dob_moves.proofs.Common.{HasStatus, moved}
use Rattle.std.specs.Prelude.{slice_get}
use Rattle.std.proofs.lemmas.List.Elements.{Contains-get_or}
use Rattle.std.proofs.lemmas.Option.{get_or_from_slice_get, slice_get_within}
use Rattle.dob_moves.specs.declared.walks.Walk.{Walk}
use Rattle.dob_moves.specs.MoveWalks.{IsWalk}
use Rattle.dob_moves.proofs.ByProfile.{can_go}
use Rattle.dob_moves.proofs.Outcomes.{HasOutcome-moved, IsLegal-HasOutcome}
use Rattle.dob_moves.proofs.ProfileMoves.{Goes-moved}

-- what was read of a list is in it
contained : (moves : List Move) (place : ℕ) (played : Move) → slice_get moves place ≡ Some played → Contains moves played
contained moves place played there =
    subst (λ (m : Move). Contains moves m) (get_or_from_slice_get moves place played played there)
    (Contains-get_or moves place played (slice_get_within moves place played there))

-- the position is open, and this is what the move leaves
pub record IsNext (profile : Profile) (p : Setup) (played : Move) : Type 0 where
  pub is_open : HasStatus profile p Open
  pub can : CanGo A p played
  pub outcome : HasOutcome p played (turned (moved p played))
  pub goes : Goes profile p played (turned (moved p played))
  pub legal : IsLegal (turned (moved p played))

pub next_at : (profile : Profile) (p : Setup) (walk : Walk) (place : ℕ) (played : Move) → IsWalk profile p walk →
    slice_get walk.moves.items place ≡ Some played → IsNext profile p played
next_at profile p walk place played is there =
    let step = is.moves.sound played (contained walk.moves.items place played there) in
    let can = can_go profile p played step.1 in
    let outcome = HasOutcome-moved p played can in
    record {
      is_open = step.0;
      can = can;
      outcome = outcome;
      goes = Goes-moved profile p played step.1;
      legal = IsLegal-HasOutcome p played (turned (moved p played)) outcome is.legal step.0.1;
    }
