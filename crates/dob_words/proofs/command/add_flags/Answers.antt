-- One more joins the command.
use Rattle.dob_words.specs.Shapes.{flag_rule, flag_said}
use Rattle.dob_words.proofs.Rules.{rule_joins, rules_all, rules_none}
use Rattle.dob_words.proofs.command.add_flags.Goals as goal

pub loop-flag-init : goal.loop-flag-init
loop-flag-init c = λ app. rules_none app c.args.command

pub loop-flag-preserved : goal.loop-flag-preserved
loop-flag-preserved c = λ app shape.
    rule_joins flag_rule flag_said c.args.flags.now c.loop-flag.flag-index _ app c.loop-flag.command c.in_ok-command.command c.flag_argument.result c.loop-flag-test.true
    (c.loop-flag.invariant app shape) c.flag_argument.ensures c.in_ok-command.ensures

pub returns : goal.returns
returns c = λ app shape.
    rules_all flag_rule flag_said c.args.flags.now c.loop-flag.flag-index app c.loop-flag.command c.loop-flag-test.false (c.loop-flag.invariant app shape)
