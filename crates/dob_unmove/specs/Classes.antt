-- Turned setups, and the representatives of classes as dob_classes defines them.
use Rattle.std.specs.Prelude.{◌≡◌}
use Rattle.dob_pieces.specs.declared.setup.Setup.{Setup}
use Rattle.dob_pieces.specs.Setups.{turned}
pub use Rattle.dob_rank.specs.Families.{RepresentsClass}

-- it is such a setup, seen from the other side
abbrev pub IsSeenTurned : (Setup → Type 0) → Setup → Type 0
IsSeenTurned Is after = (q : Setup) × Is q × (after ≡ turned q)
