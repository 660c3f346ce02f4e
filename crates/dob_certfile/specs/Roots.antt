-- The position of which a certificate claims something.
use Rattle.std.specs.Prelude.{ℕ}
use Rattle.dob_pieces.specs.declared.profile.Family.{Family}
use Rattle.dob_pieces.specs.declared.setup.Setup.{Setup}
use Rattle.dob_rank.specs.Families.{HasClass, IsRepresentative}

-- the representative of the class of that number, of which there is one
pub record IsRoot (family : Family) (class : ℕ) (p : Setup) : Type 0 where
  pub representative : IsRepresentative family p
  pub number : HasClass family p class
