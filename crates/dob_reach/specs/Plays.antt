-- Plays of moves, and the laws of what is reached.
use Rattle.std.specs.Prelude.{◌≡◌, ℕ, zero, suc, Bool, true}
use Rattle.dob_pieces.specs.declared.profile.Family.{Family}
use Rattle.dob_pieces.specs.declared.profile.Profile.{Profile}
use Rattle.dob_pieces.specs.declared.setup.Setup.{Setup}
use Rattle.dob_moves.specs.declared.game_move.Move.{Move}
use Rattle.dob_moves.specs.declared.position_status.Status.TheVariants.{Open}
use Rattle.dob_moves.specs.Moves.{Goes}
use Rattle.dob_moves.specs.Statuses.{HasStatus}
use Rattle.dob_rank.specs.Families.{IsInClass}
use Rattle.dob_reach.specs.Distances.{IsReached, Met}
use Rattle.dob_reach.specs.Leads.{Leads}

-- so many moves in turn, each of an open position, lead from p to q
abbrev pub IsPlay : Profile → ℕ → Setup → Setup → Type 0
IsPlay profile zero p q = p ≡ q
IsPlay profile (suc n) p q = (r : Setup) × IsPlay profile n p r × HasStatus profile r Open × (move : Move) × Goes profile r move q

-- the class itself is reached, and what a class leads to that is reached
abbrev pub ReachedIsClosed : Type 0
ReachedIsClosed = (family : Family) (from : ℕ) → IsReached (Leads family) from from
    × ((class other : ℕ) → IsReached (Leads family) from class → Leads family class other → IsReached (Leads family) from other)

-- and each set of which that is so has all that is reached
abbrev pub ReachedIsLeast : Type 0
ReachedIsLeast = (family : Family) (from : ℕ) (has : ℕ → Bool) → has from ≡ true
    → ((class other : ℕ) → has class ≡ true → Leads family class other → has other ≡ true)
    → (class : ℕ) → IsReached (Leads family) from class → has class ≡ true

-- each play from a position comes to a member of a class that so many moves of classes lead to
abbrev pub PlaysMeetClasses : Type 0
PlaysMeetClasses = (family : Family) (n : ℕ) (p q : Setup) (from : ℕ) → IsInClass family p from → IsPlay family.profile n p q
    → (class : ℕ) × IsInClass family q class × Met (Leads family) n from class

-- and of each such class some play comes to a member
abbrev pub ClassesAreMet : Type 0
ClassesAreMet = (family : Family) (n : ℕ) (p : Setup) (from class : ℕ) → IsInClass family p from → Met (Leads family) n from class
    → (q : Setup) × IsPlay family.profile n p q × IsInClass family q class
