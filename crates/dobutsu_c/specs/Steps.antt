-- Moves without values, as other languages see them.
use Rattle.std.specs.Prelude.{◌≡◌, ℕ, ◌<◌, ◌≤◌, List, [], ◌∷◌, length, get_or}
use Rattle.dob_pieces.specs.declared.profile.Profile.{Profile}
use Rattle.dob_pieces.specs.declared.setup.Setup.{Setup}
use Rattle.dob_moves.specs.declared.game_move.Move.{Move}
use Rattle.dob_moves.specs.Statuses.{AreMoves, CanCatch, IsFirstCatch}
use Rattle.dob_foreign.specs.declared.moves.DobutsuStep.{DobutsuStep}
use Rattle.dob_foreign.specs.Moves.{shown_step}

-- the moves of the position; where the enemy lion can be caught its first catch alone
pub record AreSteps (profile : Profile) (p : Setup) (list : List Move) : Type 0 where
  pub caught : CanCatch p → (move : Move) × IsFirstCatch p move × (list ≡ move ∷ [])
  pub others : (¬ CanCatch p) → AreMoves profile p list

-- they stand in the first places, as far as there are places, and the others hold what they held
pub record AreWrittenSteps (list : List Move) (old new : List DobutsuStep) : Type 0 where
  pub steps : (place : ℕ) (d : Move) (e : DobutsuStep) → place < length list → place < length new → get_or new place e ≡ shown_step (get_or list place d)
  pub others : (place : ℕ) (e : DobutsuStep) → length list ≤ place → get_or new place e ≡ get_or old place e
