-- The first rows join the program.
use Rattle.dob_words.proofs.Common.{map, IfOk-weaker, App, bare_app, row_said, with_rows}
use Rattle.dob_words.proofs.FourLists.{first_of}
use Rattle.dob_words.proofs.command.first_command.Goals as goal

pub returns : goal.returns
returns c =
    let first : App = with_rows c.args.profiles.names bare_app (map row_said c.first_rows.result.now) in
    IfOk-weaker c.add_subcommands-2.result _ _
    (λ r shape. first_of c.args.profiles.names _ _ r c.first_rows.ensures c.middle_rows.ensures shape)
    (c.add_subcommands-2.ensures first (c.in_ok-command-2.ensures bare_app c.in_ok-command.ensures))
