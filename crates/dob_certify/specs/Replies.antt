-- The move that a list of lost classes gives.
use Rattle.std.specs.Prelude.{◌≡◌, ◌≤◌, ◌⊎◌, ℕ, suc, List, Option, Some, None, nat_lt, if◌then◌else◌}
use Rattle.dob_pieces.specs.declared.profile.Family.{Family}
use Rattle.dob_pieces.specs.declared.profile.Profile.{Profile}
use Rattle.dob_pieces.specs.declared.setup.Setup.{Setup}
use Rattle.dob_moves.specs.declared.game_move.Move.{Move}
use Rattle.dob_moves.specs.declared.position_status.Status.TheVariants.{Open}
use Rattle.dob_moves.specs.Moves.{Goes, place}
use Rattle.dob_moves.specs.Statuses.{CanCatch, HasStatus, IsFirstCatch}
use Rattle.dob_distance.specs.Values.{Lost, Won}
use Rattle.dob_certificate.specs.declared.entry.Entry.{Entry}
use Rattle.dob_certificate.specs.Lost.{IsSaidLost, SaysLost}
use Rattle.dob_certify.specs.declared.replies.Lead.{Lead}
use Rattle.dob_certify.specs.declared.replies.Reply.{Reply}
use Rattle.dob_certify.specs.declared.replies.Reply.TheVariants.{Win, Loss}

-- the move leads to a position that is said to be lost within so many plies
pub record Leads (family : Family) (lost : List Entry) (p : Setup) (move : Move) (plies : ℕ) : Type 0 where
  pub goes_on : HasStatus family.profile p Open
  pub outcome : Setup
  pub goes : Goes family.profile p move outcome
  pub said : IsSaidLost family lost plies outcome

-- no move does within fewer
abbrev pub IsLeast : Family → List Entry → Setup → ℕ → Type 0
IsLeast family lost p plies =
    HasStatus family.profile p Open → (move : Move) (q : Setup) → Goes family.profile p move q → (n : ℕ) → IsSaidLost family lost n q → plies ≤ n

-- the first move in the move order to what is said to be lost within the fewest plies
pub record IsFirstLead (family : Family) (lost : List Entry) (p : Setup) (move : Move) (plies : ℕ) : Type 0 where
  pub leads : Leads family lost p move plies
  pub least : IsLeast family lost p plies
  pub first : (other : Move) → Leads family lost p other plies → place move ≤ place other

-- no move does at all
abbrev pub NoneLeads : Family → List Entry → Setup → Type 0
NoneLeads family lost p =
    HasStatus family.profile p Open → (move : Move) (q : Setup) → Goes family.profile p move q → (n : ℕ) → ¬ IsSaidLost family lost n q

abbrev pub IsShortest : Family → List Entry → Setup → Option Lead → Type 0
IsShortest family lost p None = NoneLeads family lost p
IsShortest family lost p (Some lead) = IsFirstLead family lost p lead.played lead.plies

-- the better one of a lead and of a move to a position that is said to be lost within so many plies
abbrev pub shorter : Option Lead → Move → Option ℕ → Option Lead
shorter best move None = best
shorter None move (Some plies) = Some (record { played = move; plies = plies })
shorter (Some lead) move (Some plies) = if nat_lt plies lead.plies then Some (record { played = move; plies = plies }) else Some lead

-- that the position is lost, where it is said to be
abbrev pub loss : Option ℕ → Option Reply
loss None = None
loss (Some plies) = Some (Loss plies)

-- What the list says of p: the first catch, where there is one; else the first of the moves that lead to what is said to be lost within the fewest
-- plies; else in how many plies p itself is said to be lost; else nothing.
abbrev pub IsReply : Family → List Entry → Setup → Option Reply → Type 0
IsReply family lost p (Some (Win move plies)) = (IsFirstCatch p move × (plies ≡ 0))
    ⊎ ((¬ CanCatch p) × IsFirstLead family lost p move plies)
IsReply family lost p (Some (Loss plies)) = (¬ CanCatch p) × NoneLeads family lost p × SaysLost family lost p (Some plies)
IsReply family lost p None = (¬ CanCatch p) × NoneLeads family lost p × SaysLost family lost p None

-- by definition the move wins and the position is lost, within so many plies
abbrev pub IsRight : Profile → Setup → Option Reply → Type 0
IsRight profile p (Some (Win move plies)) = Won profile (suc plies) p
    × ((IsFirstCatch p move × (plies ≡ 0)) ⊎ ((q : Setup) × Goes profile p move q × Lost profile plies q))
IsRight profile p (Some (Loss plies)) = Lost profile plies p
IsRight profile p None = Unit {0}
