-- the next step's move is appended
use Rattle.std.proofs.Common.{ap, option_to_list, rules, ◌++◌, ◌∙◌}
use Rattle.dob_moves.specs.Walks.{step_by}
use Rattle.dob_moves.specs.declared.first_moves.Aim.TheVariants.{Elsewhere}
use Rattle.dob_reference.proofs.Appending.{taken_more}
use Rattle.dob_reference.proofs.rules.push_steps_by.Goals as goal

pub loop-step-preserved : goal.loop-step-preserved
loop-step-preserved c =
    let items = c.loop-step.moves.items in
    taken_more (step_by Elsewhere c.args.setup.now c.args.kind c.args.from) c.steps-step-items.result.now (0, 0)
    c.loop-step.step-index c.args.moves.now.items items c.push_found.new.moves.items (search rules) c.loop-step.invariant
    (c.in_ok-push_found.ensures ∙ ap (λ found. items ++ option_to_list found) c.step_by-found.ensures)
