-- No step is made yet.
use Rattle.dob_distance.proofs.Parity.{IfOk-both}
use Rattle.dob_reference.proofs.AloneOpens.{made_none}
use Rattle.dob_reference.proofs.one_owner.begin.Goals as goal

pub returns-clause-made : goal.returns-clause-made
returns-clause-made c = IfOk-both c.open.result _ _ _
    (λ node opened sound. made_none c.args.family c.in_ok-openings.openings node (rw c.requires at c.in_ok-openings.ensures) opened sound)
    (rw c.one.ensures at c.open.ensures.opened) c.open.ensures.sound
