-- Laws of the rules, of which `src/laws.rt` has one function each.
use Rattle.std.specs.Prelude.{◌≡◌, ◌↔◌, ◌≤◌, ℕ, Bool, length}
use Rattle.dob_pieces.specs.declared.profile.Profile.TheVariants.{A}
use Rattle.dob_pieces.specs.declared.kind.Kind.{Kind}
use Rattle.dob_pieces.specs.declared.kind.HandKind.{HandKind}
use Rattle.dob_pieces.specs.declared.profile.Profile.{Profile}
use Rattle.dob_pieces.specs.declared.setup.Setup.{Setup}
use Rattle.dob_pieces.specs.Profiles.{IsAllowed}
use Rattle.dob_pieces.specs.Setups.{IsLegal, total, mirrored}
use Rattle.dob_moves.specs.declared.game_move.Move.{Move}
use Rattle.dob_moves.specs.declared.game_move.Move.TheVariants.{Step}
use Rattle.dob_moves.specs.declared.position_status.Status.{Status}
use Rattle.dob_moves.specs.declared.position_status.Status.TheVariants.{Open}
use Rattle.dob_moves.specs.Moves.{HasOutcome, Goes, CanGo, CatchesLion}
use Rattle.dob_moves.specs.Statuses.{HasStatus, AreMoves}
use Rattle.dob_moves.specs.MoveLists.{moves_of}
use Rattle.dob_moves.specs.Mirrors.{mirrored_move}

-- every outcome of a move of a position that is open by the rules of a profile is a position
abbrev pub OutcomesAreLegal : Type 0
OutcomesAreLegal = (profile : Profile) (p : Setup) (move : Move) (q : Setup) → IsLegal p → HasStatus profile p Open → HasOutcome p move q → IsLegal q

-- every outcome of a move by a profile's rules is allowed by it, where the position is
abbrev pub OutcomesAreAllowed : Type 0
OutcomesAreAllowed = (profile : Profile) (p : Setup) (move : Move) (q : Setup)
    → IsLegal p → IsAllowed profile p → Goes profile p move q → IsAllowed profile q

-- a position has the same status by the rules of each profile
abbrev pub ProfilesShareStatuses : Type 0
ProfilesShareStatuses = (profile : Profile) (p : Setup) (s : Status) → IsLegal p → HasStatus A p s ↔ HasStatus profile p s

-- no move changes how many pieces of a kind there are
abbrev pub OutcomesKeepPieces : Type 0
OutcomesKeepPieces = (p : Setup) (move : Move) (q : Setup) (kind : HandKind) → IsLegal p → HasOutcome p move q → total kind q ≡ total kind p

-- a move has one outcome
abbrev pub MovesHaveOneOutcome : Type 0
MovesHaveOneOutcome = (p : Setup) (move : Move) (q r : Setup) → HasOutcome p move q → HasOutcome p move r → q ≡ r

-- the statuses by the rules of a profile exclude each other
abbrev pub StatusesExclude : Type 0
StatusesExclude = (profile : Profile) (p : Setup) (s t : Status) → HasStatus profile p s → HasStatus profile p t → s ≡ t

-- a position's mirror image has its status, by the rules of each profile
abbrev pub StatusesMirror : Type 0
StatusesMirror = (profile : Profile) (p : Setup) (s : Status) → IsLegal p → HasStatus profile p s → HasStatus profile (mirrored p) s

-- the mirror image of a move leads to the mirror image of its outcome
abbrev pub OutcomesMirror : Type 0
OutcomesMirror = (p : Setup) (move : Move) (q : Setup)
    → IsLegal p → HasOutcome p move q → HasOutcome (mirrored p) (mirrored_move move) (mirrored q)

-- of all steps from one square to another at most one can go
abbrev pub StepsExclude : Type 0
StepsExclude = (profile : Profile) (p : Setup) (kind other : Kind) (from to : ℕ) (catch catches grows grow : Bool)
    → CanGo profile p (Step kind from to catch grows) → CanGo profile p (Step other from to catches grow)
    → (kind ≡ other) × (catch ≡ catches) × (grows ≡ grow)

-- a step onto the enemy lion isn't a move
abbrev pub LionsAreNotTaken : Type 0
LionsAreNotTaken = (profile : Profile) (p : Setup) (move : Move) → CatchesLion p move → ¬ CanGo profile p move

-- the list that computes has just the moves
abbrev pub ListsHaveMoves : Type 0
ListsHaveMoves = (profile : Profile) (p : Setup) → IsLegal p → AreMoves profile p (moves_of profile p)

-- a position has at most that many moves
abbrev pub most_moves : ℕ
most_moves = 63

abbrev pub MovesAreFew : Type 0
MovesAreFew = (profile : Profile) (p : Setup) → IsLegal p → length (moves_of profile p) ≤ most_moves
