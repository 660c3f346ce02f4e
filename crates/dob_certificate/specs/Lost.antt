-- Classes that are lost within so many plies: what a list of them says, and what each of its entries has to show.
use Rattle.std.specs.Prelude.{ℕ, ◌-◌, ◌≤◌, ◌<◌, ◌⊎◌, List, Option, Some, None, Contains}
use Rattle.dob_pieces.specs.declared.profile.Family.{Family}
use Rattle.dob_pieces.specs.declared.setup.Setup.{Setup}
use Rattle.dob_moves.specs.declared.game_move.Move.{Move}
use Rattle.dob_moves.specs.declared.position_status.Status.TheVariants.{Caught, Open}
use Rattle.dob_moves.specs.Moves.{Goes}
use Rattle.dob_moves.specs.Statuses.{HasStatus}
use Rattle.dob_rank.specs.Families.{classes_of, class_setup}
use Rattle.dob_distance.specs.Values.{HasLost}
use Rattle.dob_certificate.specs.declared.entry.Entry.{Entry}
use Rattle.dob_certificate.specs.Listed.{IsEntryFor}

-- the list has the position's class with at most n plies
abbrev pub IsListedWithin : Family → List Entry → ℕ → Setup → Type 0
IsListedWithin family lost n q = (entry : Entry) × IsEntryFor family lost q entry × (entry.plies ≤ n)

-- the position has lost, or it is open and listed
abbrev pub IsSaidLost : Family → List Entry → ℕ → Setup → Type 0
IsSaidLost family lost n q = HasLost family.profile q ⊎ (HasStatus family.profile q Open × IsListedWithin family lost n q)

-- the fewest plies within which the list says that q is lost; nothing where it isn't said
abbrev pub SaysLost : Family → List Entry → Setup → Option ℕ → Type 0
SaysLost family lost q None = (n : ℕ) → ¬ IsSaidLost family lost n q
SaysLost family lost q (Some plies) = IsSaidLost family lost plies q × ((n : ℕ) → IsSaidLost family lost n q → plies ≤ n)

-- an open position with a move to one that is said to be lost within n plies
pub record HasReply (family : Family) (lost : List Entry) (n : ℕ) (q : Setup) : Type 0 where
  pub goes_on : HasStatus family.profile q Open
  pub reply : Move
  pub outcome : Setup
  pub goes : Goes family.profile q reply outcome
  pub said : IsSaidLost family lost n outcome

-- the side to move catches the lion, or has such a reply
abbrev pub IsAnswered : Family → List Entry → ℕ → Setup → Type 0
IsAnswered family lost n q = HasStatus family.profile q Caught ⊎ HasReply family lost n q

-- an open position each of whose moves leads to one that is answered within n plies
pub record AreAllAnswered (family : Family) (lost : List Entry) (n : ℕ) (p : Setup) : Type 0 where
  pub goes_on : HasStatus family.profile p Open
  pub answered : (move : Move) (q : Setup) → Goes family.profile p move q → IsAnswered family lost n q

-- What an entry with n plies has to show of its position: it has lost; or it is open, and each move is answered with two plies less.
abbrev pub IsLossSupported : Family → List Entry → ℕ → Setup → Type 0
IsLossSupported family lost n p = HasLost family.profile p ⊎ ((2 ≤ n) × AreAllAnswered family lost (n - 2) p)

-- the list supports the entry: its class is one of the family's, and its representative shows what it has to
pub record SupportsLost (family : Family) (lost : List Entry) (entry : Entry) : Type 0 where
  pub within : entry.class < classes_of family
  pub supported : IsLossSupported family lost entry.plies (class_setup family entry.class)

-- the list supports each of its entries
abbrev pub SupportsAllLost : Family → List Entry → Type 0
SupportsAllLost family lost = (entry : Entry) → Contains lost entry → SupportsLost family lost entry
