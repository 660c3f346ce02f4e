-- the squares below row 4
use Rattle.dob_unmove.proofs.Common.{◌==◌, refl, true, ℕ, is_mask, row}
use Rattle.dob_unmove.proofs.WayMasks.{off_far_row}
use Rattle.dob_unmove.proofs.ways.homes.Goals as goal

pub returns : goal.returns
returns c = off_far_row _ (c.but_not.ensures (λ (s : ℕ). true) (λ (s : ℕ). row s == 3) (is_mask (λ s. true) 4095 refl) (is_mask (λ s. row s == 3) 3584 refl))
