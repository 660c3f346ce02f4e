-- The flags so far have joined the command.
use Rattle.dob_words.proofs.Common.{map, take, App, HasCommandShape, flag_rule, flag_said, with_rules}
use Rattle.dob_words.proofs.command.add_flags.Given as goal

abbrev pub invariant-loop-flag : goal.invariant-loop-flag
invariant-loop-flag l = (app : App) → HasCommandShape app l.initial.command
    → HasCommandShape (with_rules app (map flag_rule (map flag_said (take l.flag-index l.flags)))) l.command
