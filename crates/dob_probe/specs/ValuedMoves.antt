-- The moves of a position with their values, best first.
use Rattle.std.specs.Prelude.{◌≡◌, ◌⊎◌, ◌+◌, ◌<◌, List, length, Contains, AllPairs}
use Rattle.dob_pieces.specs.declared.profile.Profile.{Profile}
use Rattle.dob_pieces.specs.declared.setup.Setup.{Setup}
use Rattle.dob_moves.specs.declared.position_status.Status.TheVariants.{Open}
use Rattle.dob_moves.specs.declared.game_move.Move.{Move}
use Rattle.dob_moves.specs.Moves.{CanGo, Goes, place}
use Rattle.dob_moves.specs.Statuses.{CanCatch, HasStatus, IsFirstCatch}
use Rattle.dob_distance.specs.declared.value.Value.{Value}
use Rattle.dob_distance.specs.declared.value.Value.TheVariants.{Win, Loss, Draw}
use Rattle.dob_probe.specs.declared.by_value.ValuedMove.{ValuedMove}

-- the value that the side that made a move has, where the position after it has that value for the other side
abbrev pub seen_from_before : Value → Value
seen_from_before (Win plies) = Loss (plies + 1)
seen_from_before (Loss plies) = Win (plies + 1)
seen_from_before Draw = Draw

-- the first value is better: a win before a draw before a loss, a sooner win, a later loss
abbrev pub IsBetter : Value → Value → Type 0
IsBetter (Win plies) (Win others) = plies < others
IsBetter (Win plies) Draw = Unit {0}
IsBetter (Win plies) (Loss others) = Unit {0}
IsBetter Draw (Win others) = ⊥
IsBetter Draw Draw = ⊥
IsBetter Draw (Loss others) = Unit {0}
IsBetter (Loss plies) (Win others) = ⊥
IsBetter (Loss plies) Draw = ⊥
IsBetter (Loss plies) (Loss others) = others < plies

-- the first stands before the second: it is better, or as good and earlier in the move order
abbrev pub ComesBefore : ValuedMove → ValuedMove → Type 0
ComesBefore a b = IsBetter a.value b.value ⊎ ((a.value ≡ b.value) × (place a.played < place b.played))

-- the first catch of the lion wins at once
pub record IsWinningCatch (p : Setup) (valued : ValuedMove) : Type 0 where
  pub catch : IsFirstCatch p valued.played
  pub wins : valued.value ≡ Win 1

-- the move of an open position has the value of the position that it leads to, seen from before it
pub record HasMoveValue (profile : Profile) (Has : Setup → Value → Type 0) (p : Setup) (valued : ValuedMove) : Type 0 where
  pub goes_on : HasStatus profile p Open
  pub outcome : Setup
  pub goes : Goes profile p valued.played outcome
  pub value : Value
  pub has : Has outcome value
  pub seen : valued.value ≡ seen_from_before value

-- The moves of a position with their values: of an open one each move, once, best first and equal ones in the move order;
-- where the lion can be caught its first catch alone; else none.
pub record AreValuedMoves (profile : Profile) (Has : Setup → Value → Type 0) (p : Setup) (list : List ValuedMove) : Type 0 where
  pub sound : (valued : ValuedMove) → Contains list valued → IsWinningCatch p valued ⊎ HasMoveValue profile Has p valued
  pub caught : CanCatch p → length list ≡ 1
  pub whole : (valued : ValuedMove) → HasMoveValue profile Has p valued → Contains list valued
  pub ordered : AllPairs ComesBefore list

-- The moves of a position with values, where one may have more values than one: of an open position each move, once, with a value that the position has which
-- it leads to, best first and equal ones in the move order; where the lion can be caught its first catch alone; else none.
pub record AreSaidMoves (profile : Profile) (Has : Setup → Value → Type 0) (p : Setup) (list : List ValuedMove) : Type 0 where
  pub sound : (valued : ValuedMove) → Contains list valued → IsWinningCatch p valued ⊎ HasMoveValue profile Has p valued
  pub caught : CanCatch p → length list ≡ 1
  pub whole : (move : Move) → HasStatus profile p Open → CanGo profile p move → (valued : ValuedMove) × Contains list valued × (valued.played ≡ move)
  pub once : (a b : ValuedMove) → Contains list a → Contains list b → a.played ≡ b.played → a ≡ b
  pub ordered : AllPairs ComesBefore list
