-- Rows of things: vectors in a list.
use Rattle.std.specs.Prelude.{◌≡◌, ℕ, ◌+◌, ◌*◌, ◌<◌, ◌≤◌, List, [], ◌∷◌, ◌++◌, Some, length, slice_get}
use Rattle.std.specs.declared.vec.Vec.{Vec}

-- x stands in row i at place j
abbrev pub StandsAt : {X Z : Type 0} → List (Vec X Z) → ℕ → ℕ → X → Type 0
StandsAt {X} {Z} rows i j x = (row : Vec X Z) × (slice_get rows i ≡ Some row) × (slice_get row.items j ≡ Some x)

-- there are m rows, of n things each
pub record AreRows {X Z : Type 0} (m n : ℕ) (rows : List (Vec X Z)) : Type 0 where
  pub count : length rows ≡ m
  pub each : (i : ℕ) (row : Vec X Z) → slice_get rows i ≡ Some row → length row.items ≡ n

-- Each of the first things stands at the end of the row of its place, and the other rows are the same.
pub record AreDealt {X Z : Type 0} (upto : ℕ) (things : List X) (old new : List (Vec X Z)) : Type 0 where
  pub rows : length new ≡ length old
  pub dealt : (j : ℕ) (row : Vec X Z) → j < upto → slice_get new j ≡ Some row → (before : Vec X Z) × (x : X)
      × (slice_get old j ≡ Some before) × (slice_get things j ≡ Some x) × (row.items ≡ before.items ++ x ∷ [])
  pub later : (j : ℕ) → upto ≤ j → slice_get new j ≡ slice_get old j

-- the things of the first rows, row by row, of which each has that width
pub record AreInOrder {X Z : Type 0} (width upto : ℕ) (rows : List (Vec X Z)) (things : List X) : Type 0 where
  pub count : length things ≡ upto * width
  pub each : (i j : ℕ) (x : X) → i < upto → StandsAt rows i j x → slice_get things (i * width + j) ≡ Some x
