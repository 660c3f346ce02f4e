-- The line of a position by given values: what is played from it where the winner takes the shortest way and the loser
-- the longest.
use Rattle.std.specs.Prelude.{◌≡◌, ◌⊎◌, ℕ, zero, suc, ◌-◌, ◌<◌, List, [], ◌∷◌, Option, Some, None}
use Rattle.dob_pieces.specs.declared.profile.Profile.{Profile}
use Rattle.dob_pieces.specs.declared.setup.Setup.{Setup}
use Rattle.dob_moves.specs.declared.game_move.Move.{Move}
use Rattle.dob_moves.specs.declared.position_status.Status.TheVariants.{Open}
use Rattle.dob_moves.specs.Moves.{Goes, place}
use Rattle.dob_moves.specs.Statuses.{CanCatch, HasStatus, IsFirstCatch}
use Rattle.dob_rank.specs.Families.{IsInClass}
use Rattle.dob_distance.specs.declared.value.Value.{Value}
use Rattle.dob_distance.specs.declared.value.Value.TheVariants.{Win, Loss, Draw}
use Rattle.dob_value.specs.Follows.{ClassTable, HasInTable}

-- the table gives the position's class that value
abbrev pub GivenBy : ClassTable → Setup → Value → Type 0
GivenBy table p v = HasInTable table.family table.values p v

-- The value to which the next move leads from a position with that value: from a win to a loss of the other side, from a
-- loss to a win of the other side, each in one ply less. At a position lost already and at a draw the line ends.
abbrev pub value_wanted : Value → Option Value
value_wanted (Win plies) = Some (Loss (plies - 1))
value_wanted (Loss zero) = None
value_wanted (Loss (suc plies)) = Some (Win plies)
value_wanted Draw = None

-- the move of an open position leads to one with that value, where Has says which value a position has
pub record LeadsTo (profile : Profile) (Has : Setup → Value → Type 0) (p : Setup) (wanted : Value) (move : Move) (q : Setup) : Type 0 where
  pub goes_on : HasStatus profile p Open
  pub goes : Goes profile p move q
  pub has : Has q wanted

-- the first such move: each other one stands later in the move order
pub record IsFirstTo (profile : Profile) (Has : Setup → Value → Type 0) (p : Setup) (wanted : Value) (move : Move) (q : Setup) : Type 0 where
  pub leads : LeadsTo profile Has p wanted move q
  pub first : (other : Move) (r : Setup) → LeadsTo profile Has p wanted other r → (move ≡ other) ⊎ (place move < place other)

-- the line ends at p, without a catch: p is lost already or a draw
pub record EndsAt (Has : Setup → Value → Type 0) (p : Setup) : Type 0 where
  pub no_catch : ¬ CanCatch p
  pub value : Value
  pub has : Has p value
  pub over : value_wanted value ≡ None

-- the line goes on at p, by a move to a position with the value that is wanted
pub record GoesOnTo (Has : Setup → Value → Type 0) (p : Setup) (wanted : Value) : Type 0 where
  pub no_catch : ¬ CanCatch p
  pub value : Value
  pub has : Has p value
  pub next : value_wanted value ≡ Some wanted

-- the line's move at p, which leads to q
abbrev pub Continues : Profile → (Setup → Value → Type 0) → Setup → Move → Setup → Type 0
Continues profile Has p move q = (wanted : Value) × GoesOnTo Has p wanted × IsFirstTo profile Has p wanted move q

-- The moves are the line of p: the first catch of the lion, where there is one, and nothing more; nothing at a position
-- lost already and at a draw; else the first move to the value that is wanted, and then the line of its outcome.
abbrev pub IsLine : Profile → (Setup → Value → Type 0) → Setup → List Move → Type 0
IsLine profile Has p [] = EndsAt Has p
IsLine profile Has p (move ∷ moves) =
    (IsFirstCatch p move × (moves ≡ [])) ⊎ ((q : Setup) × Continues profile Has p move q × IsLine profile Has q moves)

-- the moves are a beginning of the line of p, which leads to q
abbrev pub Begins : Profile → (Setup → Value → Type 0) → Setup → List Move → Setup → Type 0
Begins profile Has p [] q = p ≡ q
Begins profile Has p (move ∷ moves) q = (next : Setup) × Continues profile Has p move next × Begins profile Has next moves q

-- the line goes on at q, but no move leads to the value that is wanted
abbrev pub LacksMove : Profile → (Setup → Value → Type 0) → Setup → Type 0
LacksMove profile Has q = (wanted : Value) × GoesOnTo Has q wanted × ((move : Move) (r : Setup) → ¬ LeadsTo profile Has q wanted move r)

-- some beginning of the line of p leads to a position of that class, where the line goes on but its move is missing
abbrev pub BreaksAt : ClassTable → Setup → ℕ → Type 0
BreaksAt table p class = (moves : List Move) × (q : Setup)
    × Begins table.family.profile (GivenBy table) p moves q × IsInClass table.family q class × LacksMove table.family.profile (GivenBy table) q
