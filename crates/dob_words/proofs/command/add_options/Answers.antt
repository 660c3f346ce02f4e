-- One more joins the command.
use Rattle.dob_words.specs.Shapes.{choice_rule, choice_said}
use Rattle.dob_words.proofs.Rules.{rule_joins, rules_all, rules_none}
use Rattle.dob_words.proofs.command.add_options.Goals as goal

pub loop-choice-init : goal.loop-choice-init
loop-choice-init c = λ app. rules_none app c.args.command

pub loop-choice-preserved : goal.loop-choice-preserved
loop-choice-preserved c = λ app shape.
    rule_joins (choice_rule c.args.profiles.names) choice_said c.args.options.now c.loop-choice.choice-index _ app c.loop-choice.command c.in_ok-command.command c.choice_argument.result c.loop-choice-test.true
    (c.loop-choice.invariant app shape) c.choice_argument.ensures c.in_ok-command.ensures

pub returns : goal.returns
returns c = λ app shape.
    rules_all (choice_rule c.args.profiles.names) choice_said c.args.options.now c.loop-choice.choice-index app c.loop-choice.command c.loop-choice-test.false (c.loop-choice.invariant app shape)
