-- What the order of a shuffle is: each place has one number, and each number one place.
use Rattle.std.specs.Prelude.{◌≡◌, ℕ, ◌*◌, ◌<◌}
use Rattle.dob_shuffle.specs.declared.shuffle.Shuffle.{Shuffle}
use Rattle.dob_shuffle.specs.Shuffles.{number_at, place_of}

-- places and numbers below the square of the side belong to each other, one to one
pub record IsOneToOne (s : Shuffle) : Type 0 where
  pub number_below : (place : ℕ) → place < s.side * s.side → number_at s place < s.side * s.side
  pub place_below : (n : ℕ) → n < s.side * s.side → place_of s n < s.side * s.side
  pub place_again : (place : ℕ) → place < s.side * s.side → place_of s (number_at s place) ≡ place
  pub number_again : (n : ℕ) → n < s.side * s.side → number_at s (place_of s n) ≡ n
