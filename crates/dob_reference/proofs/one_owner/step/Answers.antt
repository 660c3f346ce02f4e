-- One step more is made.
use Rattle.std.proofs.Common.{Ok, ap, ℕ, ◌<◌, ◌≡◌}
use Rattle.dob_history.proofs.TakenLists.{carried}
use Rattle.dob_reference.proofs.AloneSteps.{made_applied, made_expanded, stopped_alone}
use Rattle.dob_reference.specs.Alone.{HasMade, HasStoppedAlone}
use Rattle.dob_reference.proofs.one_owner.step.Goals as goal

pub returns-in_err-apply_own-clause-stopped : goal.returns-in_err-apply_own-clause-stopped
returns-in_err-apply_own-clause-stopped c =
    let node = c.args.node.now in
    let why = c.in_err-apply_own.field-0.0 in
    carried (λ given. (steps limit : ℕ) → HasMade steps node → steps < limit → HasStoppedAlone node.family limit given) c.from_residual.result why
    c.from_residual.ensures.1 (λ steps limit made low. stopped_alone node steps limit why made low c.in_err-apply_own.ensures.step.stopped)

pub returns-then-branch-clause-made : goal.returns-then-branch-clause-made
returns-then-branch-clause-made c = λ is steps made.
    made_applied c.args.node.now c.apply_own.new.self c.in_ok-apply_own.ensures.keeps.sound
    (c.in_ok-apply_own.ensures.step.applied (ap Ok c.if-branch.true)) steps made

pub returns-clause-made : goal.returns-clause-made
returns-clause-made c = λ is steps made.
    let same : c.apply_own.new.self ≡ c.args.node.now = c.in_ok-apply_own.ensures.step.nothing (ap Ok c.if-branch.false) in
    made_expanded c.apply_own.new.self c.expand.new.self c.expand.ensures.keeps.sound
    (rw same (c.in_ok-apply_own.ensures.step.done.0 (ap Ok c.if-branch.false))) (c.expand.ensures.step.expanded is) steps (rw same made)
