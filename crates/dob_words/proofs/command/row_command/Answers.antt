-- The options, the flags and the places join the command, one kind after the other.
use Rattle.dob_words.proofs.Common.{map, App, choice_rule, choice_said, flag_rule, flag_said, with_rules}
use Rattle.clap.specs.Words.{new_app}
use Rattle.dob_words.proofs.command.row_command.Goals as goal

pub returns : goal.returns
returns c =
    let row = c.args.row.now in
    let bare : App = new_app row.0.now in
    let with_options : App = with_rules bare (map (choice_rule c.args.profiles.names) (map choice_said row.3.now)) in
    let with_flags : App = with_rules with_options (map flag_rule (map flag_said row.4.now)) in
    c.add_places.ensures with_flags (c.in_ok-command-2.ensures with_options (c.in_ok-command.ensures bare c.named_command-command.ensures))
