-- The options so far have joined the command.
use Rattle.dob_words.proofs.Common.{map, take, App, HasCommandShape, choice_rule, choice_said, with_rules}
use Rattle.dob_words.proofs.command.add_options.Given as goal

abbrev pub invariant-loop-choice : goal.invariant-loop-choice
invariant-loop-choice l = (app : App) → HasCommandShape app l.initial.command
    → HasCommandShape (with_rules app (map (choice_rule l.fn.profiles.names) (map choice_said (take l.choice-index l.options)))) l.command
