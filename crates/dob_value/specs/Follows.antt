-- Tables of one family with one value a class, and when a value follows from those of the successors.
use Rattle.std.specs.Prelude.{◌≡◌, ℕ, ◌+◌, ◌≤◌, List, length, Some, All, slice_get}
use Rattle.dob_pieces.specs.declared.profile.Family.{Family}
use Rattle.dob_pieces.specs.declared.profile.Profile.{Profile}
use Rattle.dob_pieces.specs.declared.setup.Setup.{Setup}
use Rattle.dob_moves.specs.declared.game_move.Move.{Move}
use Rattle.dob_moves.specs.declared.position_status.Status.{Status}
use Rattle.dob_moves.specs.declared.position_status.Status.TheVariants.{Caught, Tried, Stuck, Open}
use Rattle.dob_moves.specs.Moves.{Goes}
use Rattle.dob_moves.specs.Statuses.{HasStatus}
use Rattle.dob_rank.specs.Families.{IsPositionOf, IsRepresentative, HasClass, HasClasses, IsInClass}
use Rattle.dob_distance.specs.declared.value.Value.{Value}
use Rattle.dob_distance.specs.declared.value.Value.TheVariants.{Win, Loss, Draw}
use Rattle.dob_distance.specs.Values.{HasValue}
use Rattle.dob_distance.specs.Codes.{IsEntry}

-- the class of the position has that value in the table
pub record HasInTable (family : Family) (values : List Value) (p : Setup) (v : Value) : Type 0 where
  pub class : ℕ
  pub number : IsInClass family p class
  pub entry : slice_get values class ≡ Some v

-- some move leads to a position with that value
abbrev pub HasSuccessor : Profile → (Setup → Value → Type 0) → Setup → Value → Type 0
HasSuccessor profile Has p v = (move : Move) × (q : Setup) × Goes profile p move q × Has q v

-- each move leads to a position that is a win
abbrev pub SuccessorsAreWins : Profile → (Setup → Value → Type 0) → Setup → Type 0
SuccessorsAreWins profile Has p = (move : Move) (q : Setup) → Goes profile p move q → (plies : ℕ) × Has q (Win plies)

-- The value that follows from those of the successors: a win in one ply more than the least loss among them; where
-- all are wins, a loss in one ply more than the greatest; where there is no loss and not all are wins, a draw.
abbrev pub FollowsFromSuccessors : Profile → (Setup → Value → Type 0) → Setup → Value → Type 0
FollowsFromSuccessors profile Has p (Win plies) = (least : ℕ) × (plies ≡ least + 1) × HasSuccessor profile Has p (Loss least)
    × ((other : ℕ) → HasSuccessor profile Has p (Loss other) → least ≤ other)
FollowsFromSuccessors profile Has p (Loss plies) = (greatest : ℕ) × (plies ≡ greatest + 1) × HasSuccessor profile Has p (Win greatest)
    × ((other : ℕ) → HasSuccessor profile Has p (Win other) → other ≤ greatest) × SuccessorsAreWins profile Has p
FollowsFromSuccessors profile Has p Draw = ((plies : ℕ) → ¬ HasSuccessor profile Has p (Loss plies)) × (¬ SuccessorsAreWins profile Has p)

-- the value that follows at that status
abbrev pub FollowsAt : Profile → (Setup → Value → Type 0) → Setup → Status → Value → Type 0
FollowsAt profile Has p Caught v = v ≡ Win 1
FollowsAt profile Has p Tried v = v ≡ Loss 0
FollowsAt profile Has p Stuck v = v ≡ Loss 0
FollowsAt profile Has p Open v = FollowsFromSuccessors profile Has p v

-- The value follows from the position's status and its successors' values, where Has says which value a successor has.
abbrev pub Follows : Profile → (Setup → Value → Type 0) → Setup → Value → Type 0
Follows profile Has p v = (status : Status) × HasStatus profile p status × FollowsAt profile Has p status v

-- a table's family, and its values in the order of the classes
pub record ClassTable : Type 0 where
  pub family : Family
  pub values : List Value

abbrev pub class_table : Family → List Value → ClassTable
class_table family values = record { family = family; values = values }

-- one entry for each class
pub record IsTable (family : Family) (values : List Value) : Type 0 where
  pub classes : HasClasses family (length values)
  pub entries : All IsEntry values

-- as many values as there are classes, each one that is given for its class
pub record AreGiven (Gives : ℕ → Value → Type 0) (count : ℕ) (values : List Value) : Type 0 where
  pub whole : length values ≡ count
  pub each : (class : ℕ) (value : Value) → slice_get values class ≡ Some value → Gives class value

-- A consistent table: each class's value follows from its status and its successors' values.
pub record IsConsistent (family : Family) (values : List Value) : Type 0 where
  pub table : IsTable family values
  pub follows : (representative : Setup) (class : ℕ) (v : Value) → IsRepresentative family representative → HasClass family representative class →
      slice_get values class ≡ Some v → Follows family.profile (HasInTable family values) representative v

-- The value table: each class has an entry, which is the value of each of its positions.
pub record IsValueTable (family : Family) (values : List Value) : Type 0 where
  pub table : IsTable family values
  pub known : (p : Setup) → IsPositionOf family p → (v : Value) × HasInTable family values p v
  pub values_are : (p : Setup) (v : Value) → IsPositionOf family p → HasInTable family values p v → HasValue family.profile p v

-- each consistent table is the value table
abbrev pub ConsistentIsRight : Type 0
ConsistentIsRight = (family : Family) (values : List Value) → IsConsistent family values → IsValueTable family values
