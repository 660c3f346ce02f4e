-- It stops at a fault, or it has something left, or nothing.
use Rattle.std.proofs.Common.{sym, ◌∙◌}
use Rattle.dob_reference.proofs.AloneSteps.{done_idle, fault_deep, fault_fits, idle_done, under_way}
use Rattle.dob_reference.proofs.one_owner.finish.Goals as goal

pub returns-clause-done : goal.returns-clause-done
returns-clause-done c =
    let made = c.in-Ok.ensures.made in
    (made.0, made.1, made.2, idle_done c.make_steps.new.node (c.is_idle.ensures.0 c.if-not-is_idle.false))

pub returns-then-not-is_idle-clause-left : goal.returns-then-not-is_idle-clause-left
returns-then-not-is_idle-clause-left c = λ is.
    let made = c.in-Ok.ensures.made in
    under_way c.make_steps.new.node c.args.node.family c.args.limit made.0 c.in-Ok.ensures.family made.2 made.3
    (λ done. let both = sym (c.is_idle.ensures.1 (done_idle c.make_steps.new.node made.0 made.2 done)) ∙ c.if-not-is_idle.true in cc)

pub returns-in-Err-clause-too_deep : goal.returns-in-Err-clause-too_deep
returns-in-Err-clause-too_deep c = λ same.
    fault_deep c.in-Err.why c.fault_of.result c.args.node.family c.args.limit c.fault_of.ensures c.in-Err.ensures.stopped (cc)

pub returns-in-Err-clause-fits : goal.returns-in-Err-clause-fits
returns-in-Err-clause-fits c = λ class same.
    fault_fits c.in-Err.why c.fault_of.result c.args.node.family c.args.limit class c.fault_of.ensures c.in-Err.ensures.stopped (cc)
