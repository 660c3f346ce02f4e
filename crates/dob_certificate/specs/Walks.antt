-- Where the moves of a position lead.
use Rattle.dob_pieces.specs.declared.profile.Profile.{Profile}
use Rattle.dob_pieces.specs.declared.setup.Setup.{Setup}
use Rattle.dob_moves.specs.declared.game_move.Move.{Move}
use Rattle.dob_moves.specs.Moves.{Goes}

-- a move leads to such a position
pub record SomeLeads (profile : Profile) (p : Setup) (Fits : Setup → Type 0) : Type 0 where
  pub move : Move
  pub outcome : Setup
  pub goes : Goes profile p move outcome
  pub fits : Fits outcome

-- each move does
abbrev pub AllLead : Profile → Setup → (Setup → Type 0) → Type 0
AllLead profile p Fits = (move : Move) (q : Setup) → Goes profile p move q → Fits q
