-- The positions in which a move can be made, and those of a class.
use Rattle.std.specs.Prelude.{◌≡◌, ℕ, ◌≤◌, ◌==◌, List, count_by, length}
use Rattle.std.specs.List.{All, AllPairs, Contains}
use Rattle.dob_pieces.specs.declared.profile.Profile.{Profile}
use Rattle.dob_pieces.specs.declared.profile.Profile.TheVariants.{A}
use Rattle.dob_pieces.specs.declared.setup.Setup.{Setup}
use Rattle.dob_pieces.specs.Setups.{IsLegal}
pub use Rattle.dob_rank.specs.Order.{IsEither}
use Rattle.dob_moves.specs.declared.game_move.Move.{Move}
use Rattle.dob_moves.specs.declared.position_status.Status.TheVariants.{Open}
use Rattle.dob_moves.specs.Moves.{Goes}
use Rattle.dob_moves.specs.Statuses.{HasStatus}

-- a position in which a move can be made
pub record IsOpenPosition (p : Setup) : Type 0 where
  pub legal : IsLegal p
  pub open_to_move : HasStatus A p Open

-- the position p is open, and the move leads from it to q or to the mirror image of q
abbrev pub LeadsInto : Profile → Setup → Setup → Move → Type 0
LeadsInto profile p q move = HasStatus profile p Open × ((outcome : Setup) × Goes profile p move outcome × IsEither q outcome)

-- Just so many moves of p lead to q or to the mirror image of q: a list of that length has each of them once, and no
-- other.
pub record HasEdges (profile : Profile) (p q : Setup) (number : ℕ) : Type 0 where
  pub moves : List Move
  pub sound : (move : Move) → Contains moves move → LeadsInto profile p q move
  pub whole : (move : Move) → LeadsInto profile p q move → Contains moves move
  pub once : AllPairs (λ (a b : Move). ¬ (a ≡ b)) moves
  pub counted : length moves ≡ number

-- Each class stands in the list as often as moves of its representative lead to q or its mirror image, and no other
-- number does. `Represents p class` says that p is the representative of the class with that number.
pub record CountEdges (profile : Profile) (Represents : Setup → ℕ → Type 0) (q : Setup) (numbers : List ℕ) : Type 0 where
  pub known : All (λ (class : ℕ). (p : Setup) × Represents p class) numbers
  pub edges : (p : Setup) (class : ℕ) → Represents p class → HasEdges profile p q (count_by (λ number. number == class) numbers)

-- so it does, and the list ascends
pub record ArePredecessors (profile : Profile) (Represents : Setup → ℕ → Type 0) (q : Setup) (numbers : List ℕ) : Type 0 where
  pub counts : CountEdges profile Represents q numbers
  pub ascending : AllPairs (λ (a b : ℕ). a ≤ b) numbers

-- Representatives are positions; equal ones and mirror images have one number, and a number has one representative.
pub record IsNumbering (Represents : Setup → ℕ → Type 0) : Type 0 where
  pub legal : (p : Setup) (class : ℕ) → Represents p class → IsLegal p
  pub one_number : (p q : Setup) (a b : ℕ) → Represents p a → Represents q b → IsEither p q → a ≡ b
  pub one_represents : (p q : Setup) (class : ℕ) → Represents p class → Represents q class → p ≡ q
