-- Classes that aren't lost within so many plies: what a list of them says, and what each of its entries has to show.
use Rattle.std.specs.Prelude.{ℕ, ◌-◌, ◌≤◌, ◌<◌, ◌⊎◌, List, Contains, nat_lt, if◌then◌else◌}
use Rattle.dob_pieces.specs.declared.profile.Family.{Family}
use Rattle.dob_pieces.specs.declared.setup.Setup.{Setup}
use Rattle.dob_moves.specs.declared.game_move.Move.{Move}
use Rattle.dob_moves.specs.declared.position_status.Status.TheVariants.{Caught, Open}
use Rattle.dob_moves.specs.Moves.{Goes}
use Rattle.dob_moves.specs.Statuses.{HasStatus}
use Rattle.dob_rank.specs.Families.{classes_of, class_setup}
use Rattle.dob_certificate.specs.declared.entry.Entry.{Entry}
use Rattle.dob_certificate.specs.declared.entry.TheConstants.{EVER}
use Rattle.dob_certificate.specs.Listed.{IsEntryFor}

-- the list has the position's class with at least n plies
abbrev pub IsListedBeyond : Family → List Entry → ℕ → Setup → Type 0
IsListedBeyond family held n q = (entry : Entry) × IsEntryFor family held q entry × (n ≤ entry.plies)

-- the lion can be caught; or the position is open, and it is listed, or n is at most 1: in one ply no open position is lost
abbrev pub IsSaidHeld : Family → List Entry → ℕ → Setup → Type 0
IsSaidHeld family held n r = HasStatus family.profile r Caught
    ⊎ (HasStatus family.profile r Open × ((n ≤ 1) ⊎ IsListedBeyond family held n r))

-- each move from an open position leads to one that is said not to be lost within n plies
abbrev pub AreAllHeld : Family → List Entry → ℕ → Setup → Type 0
AreAllHeld family held n q = HasStatus family.profile q Open → (reply : Move) (r : Setup) → Goes family.profile q reply r → IsSaidHeld family held n r

-- and the lion can't be caught
pub record IsSafe (family : Family) (held : List Entry) (n : ℕ) (q : Setup) : Type 0 where
  pub free : ¬ HasStatus family.profile q Caught
  pub all_held : AreAllHeld family held n q

-- some move leads to a safe position
pub record HasEscape (family : Family) (held : List Entry) (n : ℕ) (p : Setup) : Type 0 where
  pub step : Move
  pub outcome : Setup
  pub goes : Goes family.profile p step outcome
  pub safe : IsSafe family held n outcome

-- what an entry with n plies asks of the positions two plies later: two plies less, and ever where it says ever
abbrev pub plies_asked : ℕ → ℕ
plies_asked n = if nat_lt n EVER then n - 2 else n

-- What an entry with n plies has to show of its position: the lion can be caught; or it is open, and has an escape where n is above 1.
abbrev pub IsHoldSupported : Family → List Entry → ℕ → Setup → Type 0
IsHoldSupported family held n p = HasStatus family.profile p Caught
    ⊎ (HasStatus family.profile p Open × (2 ≤ n → HasEscape family held (plies_asked n) p))

-- the list supports the entry: its class is one of the family's, and its representative shows what it has to
pub record SupportsHeld (family : Family) (held : List Entry) (entry : Entry) : Type 0 where
  pub within : entry.class < classes_of family
  pub supported : IsHoldSupported family held entry.plies (class_setup family entry.class)

-- the list supports each of its entries
abbrev pub SupportsAllHeld : Family → List Entry → Type 0
SupportsAllHeld family held = (entry : Entry) → Contains held entry → SupportsHeld family held entry
