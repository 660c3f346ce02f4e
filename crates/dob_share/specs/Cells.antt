-- What a class's cell says of its moves, and how an item changes it.
use Rattle.std.specs.Prelude.{◌≡◌, ℕ, ◌+◌, ◌-◌, ◌<◌, ◌≤◌, ◌⊎◌, ◌==◌, if◌then◌else◌, List, ◌++◌, ◌∷◌, count_by, Option, None, Some}
use Rattle.dob_distance.specs.declared.value.Value.{Value}
use Rattle.dob_distance.specs.declared.value.Value.TheVariants.{Win, Loss, Draw}
use Rattle.dob_distance.specs.Entries.{is_draw}
use Rattle.dob_distance.specs.Distances.{IsLeastLoss, lesser_of}
use Rattle.dob_share.specs.Values.{is_win_in}

-- The moves of a class by what is known of the positions that they lead to: how many lead to one of which nothing is
-- known, how many to a win of the enemy in each distance, and the least loss of the enemy that some move leads to.
pub record Cell : Type 0 where
  pub left : ℕ
  pub wins : ℕ → ℕ
  pub least : Option ℕ

-- one more counted at the distance
abbrev pub more_at : ℕ → (ℕ → ℕ) → ℕ → ℕ
more_at plies wins other = if other == plies then wins other + 1 else wins other

-- one less counted at the distance
abbrev pub less_at : ℕ → (ℕ → ℕ) → ℕ → ℕ
less_at plies wins other = if other == plies then wins other - 1 else wins other

-- the cell after one of its moves, which led to a position with value `was`, leads to one with value `now`
abbrev pub changed : Value → Value → Cell → Cell
changed Draw (Win now) cell =
    record { left = cell.left - 1; wins = more_at now cell.wins; least = cell.least }
changed (Win was) (Win now) cell =
    record { left = cell.left; wins = more_at now (less_at was cell.wins); least = cell.least }
changed Draw (Loss now) cell =
    record { left = cell.left - 1; wins = cell.wins; least = Some (lesser_of cell.least now) }
changed (Loss _) (Loss now) cell =
    record { left = cell.left; wins = cell.wins; least = Some (lesser_of cell.least now) }
changed _ _ cell = cell

-- some loss of at most that distance is known
abbrev pub KnowsLossWithin : ℕ → Option ℕ → Type 0
KnowsLossWithin plies None = ⊥
KnowsLossWithin plies (Some least) = least ≤ plies

-- a change that fits the cell
abbrev pub CellCanTake : Value → Value → Cell → Type 0
CellCanTake Draw (Win _) cell = 0 < cell.left
CellCanTake Draw (Loss _) cell = 0 < cell.left
CellCanTake (Win was) (Win now) cell = (now < was) × (0 < cell.wins was)
CellCanTake (Loss was) (Loss now) cell = (now < was) × KnowsLossWithin was cell.least
CellCanTake _ _ _ = ⊥

-- the greatest distance that is counted
abbrev pub IsGreatest : (ℕ → ℕ) → ℕ → Type 0
IsGreatest wins plies = (0 < wins plies) × ((other : ℕ) → 0 < wins other → other ≤ plies)

-- the greatest distance that is counted, where one is
abbrev pub IsGreatestIn : (ℕ → ℕ) → Option ℕ → Type 0
IsGreatestIn wins None = (plies : ℕ) → wins plies ≡ 0
IsGreatestIn wins (Some plies) = IsGreatest wins plies

-- The cell's value: a win in one ply more than the least known loss of the enemy; where there is none and no move is
-- left, a loss in one ply more than the greatest counted win of the enemy; else a draw.
abbrev pub CellValue : Cell → Value → Type 0
CellValue cell (Win plies) = (least : ℕ) × (cell.least ≡ Some least) × (plies ≡ least + 1)
CellValue cell (Loss plies) = (cell.least ≡ None) × (cell.left ≡ 0)
    × (greatest : ℕ) × IsGreatest cell.wins greatest × (plies ≡ greatest + 1)
CellValue cell Draw = (cell.least ≡ None) × ((0 < cell.left) ⊎ ((plies : ℕ) → cell.wins plies ≡ 0))

-- the two say the same
pub record SameCell (a b : Cell) : Type 0 where
  pub left : a.left ≡ b.left
  pub wins : (plies : ℕ) → a.wins plies ≡ b.wins plies
  pub least : a.least ≡ b.least

-- The cell sums up what is known of its moves, a value for each.
pub record SumsUp (known : List Value) (cell : Cell) : Type 0 where
  pub left : cell.left ≡ count_by is_draw known
  pub wins : (plies : ℕ) → cell.wins plies ≡ count_by (λ value. is_win_in plies value) known
  pub least : IsLeastLoss known cell.least

-- one of the values, at some place, was the one and is now the other
pub record Changes (known after : List Value) (was now : Value) : Type 0 where
  pub before : List Value
  pub behind : List Value
  pub known_is : known ≡ before ++ was ∷ behind
  pub after_is : after ≡ before ++ now ∷ behind

-- the cell of a class with that many moves, of which nothing is known
abbrev pub fresh : ℕ → Cell
fresh moves = record { left = moves; wins = λ _. 0; least = None }
