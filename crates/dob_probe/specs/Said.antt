-- Values as something says them, and where they leave a position's moves or its line open.
use Rattle.std.specs.Prelude.{◌≡◌, ◌⊎◌, ℕ, Bool, false, List, Result, Ok, Err}
use Rattle.dob_pieces.specs.declared.profile.Family.{Family}
use Rattle.dob_pieces.specs.declared.profile.Profile.{Profile}
use Rattle.dob_pieces.specs.declared.setup.Setup.{Setup}
use Rattle.dob_moves.specs.declared.game_move.Move.{Move}
use Rattle.dob_moves.specs.Moves.{Goes}
use Rattle.dob_rank.specs.Families.{IsInClass, IsPositionOf}
use Rattle.dob_distance.specs.declared.value.Value.{Value}
use Rattle.dob_probe.specs.declared.fault.Fault.{Fault}
use Rattle.dob_probe.specs.declared.fault.Fault.TheVariants as fault
use Rattle.dob_probe.specs.declared.gap.LookupFault.{LookupFault}
use Rattle.dob_probe.specs.declared.gap.LookupFault.TheVariants.{NoValue, Inconsistent, Memory}
use Rattle.dob_probe.specs.Lines.{Begins, LacksMove, LeadsTo}

-- a position of the family has one value at most
abbrev pub AreSingle : Family → (Setup → Value → Type 0) → Type 0
AreSingle family Has = (q : Setup) (v w : Value) → IsPositionOf family q → Has q v → Has q w → v ≡ w

-- some move of p leads to q
abbrev pub IsNext : Profile → Setup → Setup → Type 0
IsNext profile p q = (move : Move) × Goes profile p move q

-- q is p, or some move leads to it from a position on the line of p
abbrev pub IsAlong : Profile → (Setup → Value → Type 0) → Setup → Setup → Type 0
IsAlong profile Has p q = (p ≡ q) ⊎ ((moves : List Move) × (r : Setup) × Begins profile Has p moves r × IsNext profile r q)

-- some beginning of the line of p leads to a position of that class, where the line goes on but its move is missing
abbrev pub BreaksBy : Family → (Setup → Value → Type 0) → Setup → ℕ → Type 0
BreaksBy family Has p class = (moves : List Move) × (q : Setup)
    × Begins family.profile Has p moves q × IsInClass family q class × LacksMove family.profile Has q

-- ---- faults, where Lacks says why a position has no value

-- of listing moves: a position to which one leads has no value, or memory failed
abbrev pub IsGapOfMoves : {F : Type 0} → Profile → (Setup → F → Type 0) → Setup → LookupFault F → Type 0
IsGapOfMoves profile Lacks p (NoValue fault) = (q : Setup) × IsNext profile p q × Lacks q fault
IsGapOfMoves profile Lacks p (Inconsistent class) = ⊥
IsGapOfMoves profile Lacks p Memory = Unit {0}

-- of a line: a position along it has no value, or it breaks off at that class, or memory failed
abbrev pub IsGapOfLine : {F : Type 0} → Family → (Setup → Value → Type 0) → (Setup → F → Type 0) → Setup → LookupFault F → Type 0
IsGapOfLine family Has Lacks p (NoValue fault) = (q : Setup) × IsAlong family.profile Has p q × Lacks q fault
IsGapOfLine family Has Lacks p (Inconsistent class) = BreaksBy family Has p class
IsGapOfLine family Has Lacks p Memory = Unit {0}

-- of looking for a move to that value: a position to which a move leads has no value; none leads there from the position, of that class; or memory failed
abbrev pub IsGapTo : {F : Type 0} → Family → (Setup → Value → Type 0) → (Setup → F → Type 0) → Setup → Value → LookupFault F → Type 0
IsGapTo family Has Lacks p wanted (NoValue fault) = (q : Setup) × IsNext family.profile p q × Lacks q fault
IsGapTo family Has Lacks p wanted (Inconsistent class) =
    IsInClass family p class × ((move : Move) (q : Setup) → ¬ LeadsTo family.profile Has p wanted move q)
IsGapTo family Has Lacks p wanted Memory = Unit {0}

-- by a table, which has a value for each position of its family
abbrev pub fault_of : LookupFault Fault → Fault
fault_of (NoValue fault) = fault
fault_of (Inconsistent class) = fault.Inconsistent class
fault_of Memory = fault.Memory

-- ---- devices

-- whether the call's fault is a device's, as the test says
abbrev pub fails : {X F : Type 0} → (F → Bool) → Result X F → Bool
fails is_failure (Ok x) = false
fails is_failure (Err fault) = is_failure fault

abbrev pub is_failing : {F : Type 0} → (F → Bool) → LookupFault F → Bool
is_failing is_failure (NoValue fault) = is_failure fault
is_failing is_failure (Inconsistent class) = false
is_failing is_failure Memory = false
