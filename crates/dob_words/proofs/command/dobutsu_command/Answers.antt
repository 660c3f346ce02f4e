-- The rows join the program, and are those of the forms.
use Rattle.dob_words.proofs.Common.{map, IfOk-weaker, App, ProfileNames, row_said, with_rows}
use Rattle.dob_words.specs.Shapes.{first_app}
use Rattle.dob_words.proofs.FourLists.{program_of}
use Rattle.dob_words.proofs.command.dobutsu_command.Goals as goal

pub returns : goal.returns
returns c =
    let p : ProfileNames = c.profile_names.result in
    let first : App = first_app p in
    let later : App = with_rows p first (map row_said c.later_rows.result.now) in
    IfOk-weaker c.add_subcommands-2.result _ _
    (λ r shape. (p, c.profile_names.ensures, program_of p _ _ r c.later_rows.ensures c.last_rows.ensures shape))
    (c.add_subcommands-2.ensures later (c.in_ok-command-2.ensures first c.in_ok-command.ensures))
