-- One more joins the command.
use Rattle.dob_words.specs.Shapes.{place_rule, place_said}
use Rattle.dob_words.proofs.Rules.{rule_joins, rules_all, rules_none}
use Rattle.dob_words.proofs.command.add_places.Goals as goal

pub loop-place-init : goal.loop-place-init
loop-place-init c = λ app. rules_none app c.args.command

pub loop-place-preserved : goal.loop-place-preserved
loop-place-preserved c = λ app shape.
    rule_joins (place_rule c.args.profiles.names) place_said c.args.places.now c.loop-place.place-index _ app c.loop-place.command c.in_ok-command.command c.place_argument.result c.loop-place-test.true
    (c.loop-place.invariant app shape) c.place_argument.ensures c.in_ok-command.ensures

pub returns : goal.returns
returns c = λ app shape.
    rules_all (place_rule c.args.profiles.names) place_said c.args.places.now c.loop-place.place-index app c.loop-place.command c.loop-place-test.false (c.loop-place.invariant app shape)
