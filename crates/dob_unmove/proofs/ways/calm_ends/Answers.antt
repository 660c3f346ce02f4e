-- all squares, the attacker's, none
use Rattle.dob_unmove.proofs.Common.{◌==◌, not, refl, subst, sym, ℕ, everywhere, IsMask, IsMask-same, elsewhere, Attackers, Nobody, One, Several}
use Rattle.dob_unmove.proofs.WayMasks.{nowhere, alone}
use Rattle.dob_unmove.proofs.ways.calm_ends.Goals as goal

pub returns-in-Nobody : goal.returns-in-Nobody
returns-in-Nobody c =
    subst (λ (a : Attackers). IsMask (λ s. not (elsewhere a s)) 4095) (sym c.in-Nobody.is) (everywhere (λ (s : ℕ). not (elsewhere Nobody s)) (λ s. refl))

pub returns-in-Several : goal.returns-in-Several
returns-in-Several c =
    subst (λ (a : Attackers). IsMask (λ s. not (elsewhere a s)) 0) (sym c.in-Several.is) (nowhere (λ (s : ℕ). not (elsewhere Several s)) (λ s. refl))

pub returns-in-One : goal.returns-in-One
returns-in-One c =
    let a = c.in-One.attacker in
    subst (λ (x : Attackers). IsMask (λ s. not (elsewhere x s)) c.of.result) (sym c.in-One.is)
    (IsMask-same (λ s. s == a) (λ s. not (elsewhere (One a) s)) c.of.result (λ s lt. alone a s) c.of.ensures)
