-- The squares to which the piece steps.
use Rattle.dob_moves.proofs.Common.{◌∙◌, ap, length, rules, sym, counted_items, Elsewhere}
use Rattle.dob_moves.proofs.Listed.{may_step, steps_to, steps_counting}
use Rattle.dob_moves.proofs.Tables.{steps_by-squares}
use Rattle.dob_moves.proofs.count.count_steps_by.Goals as goal

pub returns-clause-number : goal.returns-clause-number
returns-clause-number c = λ setup ends.
    c.count.ensures.number
    ∙ counted_items (may_step setup c.args.kind c.args.from) (steps_to setup c.args.kind c.args.from) _ (steps_counting setup c.args.kind c.args.from)
    (c.and.ensures _ _ c.targets.ensures ends)
    ∙ sym (ap length (steps_by-squares Elsewhere setup c.args.kind c.args.from (search rules)))
