-- A piece that came to a square, as the other side sees it.
use Rattle.std.specs.Prelude.{◌≡◌, ◌≢◌, ℕ, ◌<◌, Bool, true, false, None, Some}
use Rattle.dob_pieces.specs.declared.kind.HandKind.{HandKind}
use Rattle.dob_pieces.specs.declared.kind.Kind.{Kind}
use Rattle.dob_pieces.specs.declared.kind.Side.TheVariants.{Enemy}
use Rattle.dob_pieces.specs.declared.setup.Setup.{Setup}
use Rattle.dob_pieces.specs.Setups.{at, piece_of}
use Rattle.dob_moves.specs.Moves.{CanTake}

-- an enemy piece of that kind stands on the square, and the other squares are as they were
pub record HasArrived (before after : Setup) (square : ℕ) (kind : Kind) : Type 0 where
  pub here : at after square ≡ Some (piece_of Enemy kind)
  pub there : (s : ℕ) → s < 12 → s ≢ square → at after s ≡ at before s

-- what stands where a step ends, by whether it catches
abbrev pub Met : Setup → ℕ → Bool → Type 0
Met p to false = at p to ≡ None
Met p to true = (taken : HandKind) × CanTake p to taken
