-- Puzzles of a table: classes that are won in so many plies, by one move alone.
use Rattle.std.specs.Prelude.{◌≡◌, ◌⊎◌, ℕ, ◌-◌, ◌<◌, ◌≤◌, Bool, List, [], ◌∷◌, ◌++◌, length, is_some, true, Contains, AllPairs, Option}
use Rattle.dob_pieces.specs.declared.profile.Profile.{Profile}
use Rattle.dob_pieces.specs.declared.setup.Setup.{Setup}
use Rattle.dob_moves.specs.declared.game_move.Move.{Move}
use Rattle.dob_distance.specs.declared.value.Value.{Value}
use Rattle.dob_distance.specs.declared.value.Value.TheVariants.{Win, Loss}
use Rattle.dob_value.specs.Follows.{ClassTable}
use Rattle.dob_probe.specs.declared.puzzles.Puzzle.{Puzzle}
use Rattle.dob_probe.specs.Checks.{HasEntry}
use Rattle.dob_probe.specs.Lines.{GivenBy, LeadsTo}
use Rattle.dob_probe.specs.Outlines.{AreLike}
use Rattle.dob_probe.specs.declared.walks.ClassOrder.{ClassOrder}
use Rattle.dob_probe.specs.Walks.{IsAfter, IsOrder, place_in}
use Rattle.dob_shuffle.specs.declared.shuffle.Shuffle.{Shuffle}

-- the move leads to a position with that value, and it is the only one that does
pub record IsOnlyTo (profile : Profile) (Has : Setup → Value → Type 0) (p : Setup) (wanted : Value) (move : Move) : Type 0 where
  pub outcome : Setup
  pub leads : LeadsTo profile Has p wanted move outcome
  pub only : (other : Move) (r : Setup) → LeadsTo profile Has p wanted other r → move ≡ other

-- The table says that the class is won in so many plies, and of the moves of its representative just this one leads to a position that
-- is lost in one ply less.
pub record IsPuzzle (table : ClassTable) (plies : ℕ) (puzzle : Puzzle) : Type 0 where
  pub representative : Setup
  pub won : HasEntry table puzzle.class representative (Win plies)
  pub solved : IsOnlyTo table.family.profile (GivenBy table) representative (Loss (plies - 1)) puzzle.played

-- the walk goes over the class
abbrev pub IsWalked : ClassTable → ClassOrder → Option Shuffle → ℕ → Type 0
IsWalked table walk order class = IsAfter walk.after order (length table.values) class

-- a walk in the order of a seed lists no two puzzles that are alike
abbrev pub IsSpread : ClassOrder → Type 0
IsSpread walk = is_some walk.seed ≡ true

-- by such a walk the puzzle is passed, since one that is alike is listed, and stands before it
abbrev pub IsPassed : ClassTable → ClassOrder → Option Shuffle → List Puzzle → Puzzle → Type 0
IsPassed table walk order list puzzle = IsSpread walk
    × ((listed : Puzzle) × Contains list listed × AreLike table listed puzzle × (place_in order listed.class < place_in order puzzle.class))

abbrev pub puzzle_of : ℕ → Move → Puzzle
puzzle_of class played = record { class = class; played = played }

-- the puzzle comes behind those that are listed, where none of them has to be unlike it and isn't; else the list stays
abbrev pub IsListedNext : ClassTable → Bool → Puzzle → List Puzzle → List Puzzle → Type 0
IsListedNext table is_spread puzzle old new =
    ((new ≡ old ++ puzzle ∷ []) × (is_spread ≡ true → (listed : Puzzle) → Contains old listed → ¬ AreLike table listed puzzle))
    ⊎ ((new ≡ old) × (is_spread ≡ true) × ((listed : Puzzle) × Contains old listed × AreLike table listed puzzle))

-- The first puzzles of a walk in its order, at most so many, each once, and no two alike where a seed makes the order: each one that isn't listed
-- is passed, or stands behind as many as were asked for.
pub record ArePuzzles (table : ClassTable) (walk : ClassOrder) (plies count : ℕ) (list : List Puzzle) : Type 0 where
  pub order : Option Shuffle
  pub is : IsOrder walk.seed (length table.values) order
  pub sound : (puzzle : Puzzle) → Contains list puzzle → IsPuzzle table plies puzzle × IsWalked table walk order puzzle.class
  pub ordered : AllPairs (λ a b. place_in order a.class < place_in order b.class) list
  pub unlike : IsSpread walk → AllPairs (λ a b. ¬ AreLike table a b) list
  pub few : length list ≤ count
  pub whole : (puzzle : Puzzle) → IsPuzzle table plies puzzle → IsWalked table walk order puzzle.class
      → Contains list puzzle ⊎ IsPassed table walk order list puzzle
      ⊎ ((length list ≡ count) × ((listed : Puzzle) → Contains list listed → place_in order listed.class < place_in order puzzle.class))
