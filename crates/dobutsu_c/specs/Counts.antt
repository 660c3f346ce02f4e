-- Families by numbers, and which fault numbers that name none are.
use Rattle.std.specs.Prelude.{◌≡◌, ℕ, ◌&&◌, nat_le, if◌then◌else◌}
use Rattle.dob_pieces.specs.declared.profile.Family.{Family}
use Rattle.dob_foreign.specs.Profiles.{profile_number}

-- the family of so many pieces by the profile of that number
pub record IsFamily (chicks elephants giraffes profile : ℕ) (family : Family) : Type 0 where
  pub chicks_are : family.set.chicks ≡ chicks
  pub elephants_are : family.set.elephants ≡ elephants
  pub giraffes_are : family.set.giraffes ≡ giraffes
  pub profile_is : profile_number family.profile ≡ profile

-- 0 where there is one, else the fault's number: of the pieces, and then of the profile
abbrev pub count_fault : ℕ → ℕ → ℕ → ℕ → ℕ
count_fault chicks elephants giraffes profile =
    if nat_le chicks 2 && nat_le elephants 2 && nat_le giraffes 2 then (if nat_le profile 1 then 0 else 27) else 25
