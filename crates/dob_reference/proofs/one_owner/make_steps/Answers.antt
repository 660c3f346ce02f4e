-- A step that stops is one of fewer than all.
use Rattle.std.proofs.Common.{subst}
use Rattle.dob_pieces.specs.declared.profile.Family.{Family}
use Rattle.dob_history.proofs.TakenLists.{carried}
use Rattle.dob_reference.specs.Alone.{HasStoppedAlone}
use Rattle.dob_reference.proofs.one_owner.make_steps.Goals as goal

pub returns-in_err-step-clause-stopped : goal.returns-in_err-step-clause-stopped
returns-in_err-step-clause-stopped c =
    let why = c.in_err-step.field-0.0 in
    carried (λ given. HasStoppedAlone c.args.node.now.family c.args.limit given) c.from_residual.result why c.from_residual.ensures.1
    (subst (λ (st : Family). HasStoppedAlone st c.args.limit why) c.loop-step.invariant.same
    (c.in_err-step.ensures.stopped c.loop-step._step c.args.limit c.loop-step.invariant.made c.loop-step-test.true))
