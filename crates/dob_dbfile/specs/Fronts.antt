-- A file of which only the first bytes and its length are known.
use Rattle.std.specs.Prelude.{◌≡◌, ◌⊎◌, ℕ, ◌≤◌, List, length, take}

-- the file has so many bytes, and begins with these: as many as the longest header has, or all
pub record IsFrontOf (front : List ℕ) (size : ℕ) (file : List ℕ) : Type 0 where
  pub long : length file ≡ size
  pub begins : front ≡ take (length front) file
  pub enough : (21 ≤ length front) ⊎ (front ≡ file)
