-- Where there is no memory for an item, those for the predecessors before it are appended.
use Rattle.dob_update.proofs.Common.{◌∙◌, arith, sym, common_steps, append-nil, on_err}
use Rattle.dob_update.proofs.items.push_items.Goals as goal

pub returns-in_err-push-clause-first : goal.returns-in_err-push-clause-first
returns-in_err-push-clause-first c =
    on_err c.from_residual.result (c.loop-class.class-index, c.in_err-push.ensures.items ∙ c.loop-class.invariant)

pub loop-class-init : goal.loop-class-init
loop-class-init c = sym (append-nil c.args.items.now.items)

pub loop-class-preserved : goal.loop-class-preserved
loop-class-preserved c = grind (arith, common_steps)
