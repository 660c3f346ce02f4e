-- The laws of zugzwangs.
use Rattle.std.specs.Prelude.{◌≡◌, ◌↔◌, ◌⊎◌, ℕ, List, Contains}
use Rattle.dob_pieces.specs.declared.profile.Family.{Family}
use Rattle.dob_pieces.specs.declared.profile.Profile.{Profile}
use Rattle.dob_pieces.specs.declared.setup.Setup.{Setup}
use Rattle.dob_pieces.specs.Setups.{IsLegal, turned}
use Rattle.dob_moves.specs.declared.position_status.Status.TheVariants.{Open}
use Rattle.dob_moves.specs.Statuses.{HasStatus}
use Rattle.dob_rank.specs.Families.{IsInClass, IsPositionOf}
use Rattle.dob_distance.specs.declared.value.Value.{Value}
use Rattle.dob_value.specs.Follows.{ClassTable, HasInTable, IsValueTable}
use Rattle.dob_distance.specs.Values.{HasValue}
use Rattle.dob_zugzwang.specs.declared.pairs.Zugzwang.{Zugzwang}
use Rattle.dob_zugzwang.specs.Zugzwangs.{IsZugzwang}
use Rattle.dob_zugzwang.specs.Pairs.{ArePairs}

-- the turn of an open position of a family is a position of it
abbrev pub TurnsArePositions : Type 0
TurnsArePositions = (family : Family) (p : Setup) → IsPositionOf family p → HasStatus family.profile p Open → IsPositionOf family (turned p)

-- the turn of the turn is the position
abbrev pub TurnedTwice : Type 0
TurnedTwice = (p : Setup) → IsLegal p → turned (turned p) ≡ p

-- so it is zugzwang for the one side where it is for the other
abbrev pub IsMutual : Type 0
IsMutual = (profile : Profile) (p : Setup) (value turn_value : Value) → IsLegal p
    → (IsZugzwang profile (HasValue profile) p value turn_value ↔ IsZugzwang profile (HasValue profile) (turned p) turn_value value)

-- by the value table the values are those of the definition
abbrev pub IsRightByValues : Type 0
IsRightByValues = (family : Family) (values : List Value) → IsValueTable family values → (p : Setup) (value turn_value : Value) → IsPositionOf family p
    → (IsZugzwang family.profile (HasInTable family values) p value turn_value ↔ IsZugzwang family.profile (HasValue family.profile) p value turn_value)

-- the class is one of the pair's two
abbrev pub IsOfPair : ℕ → Zugzwang → Type 0
IsOfPair class pair = (class ≡ pair.class) ⊎ (class ≡ pair.turn_class)

-- each zugzwang is in one of the pairs, whichever of both positions has the lower class
abbrev pub EachIsListed : Type 0
EachIsListed = (table : ClassTable) (pairs : List Zugzwang) → ArePairs table pairs → (p : Setup) (value turn_value : Value) (class : ℕ)
    → IsZugzwang table.family.profile (HasInTable table.family table.values) p value turn_value → IsInClass table.family p class
    → (pair : Zugzwang) × Contains pairs pair × IsOfPair class pair
