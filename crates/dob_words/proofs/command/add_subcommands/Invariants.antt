-- The subcommands so far have joined the command.
use Rattle.dob_words.proofs.Common.{map, take, App, HasCommandShape, row_said, with_rows}
use Rattle.dob_words.proofs.command.add_subcommands.Given as goal

abbrev pub invariant-loop-row : goal.invariant-loop-row
invariant-loop-row l = (app : App) → HasCommandShape app l.initial.command
    → HasCommandShape (with_rows l.fn.profiles.names app (map row_said (take l.row-index l.rows))) l.command
