-- no lion stands beside column b
use Rattle.dob_unmove.proofs.Common.{◌==◌, refl, ℕ, column, is_mask}
use Rattle.dob_unmove.proofs.OwnImages.{lions_on_b}
use Rattle.dob_unmove.proofs.ways.has_lions_on_b.Goals as goal

pub returns : goal.returns
returns c = λ setup lions are own.
    c.is_empty.ensures.1 (lions_on_b setup lions own c.but_not.result
    (c.but_not.ensures _ (λ (s : ℕ). column s == 1) (c.or-lions.ensures _ _ are.own_lion_is are.enemy_lion_is)
    (is_mask (λ s. column s == 1) 1170 refl)))
