-- What `clap` answers is what the words ask for.
use Rattle.dob_words.proofs.Common.{◌∙◌, map, sym, IfOk-weaker, subcommand_rows_of, IsReadingOf}
use Rattle.std.specs.Prelude.{IfOk}
use Rattle.dob_words.proofs.Outcomes.{IsAsked, asked_by_matches, error_of_words, order_is_meant}
use Rattle.dob_words.proofs.command.read_meant.Goals as goal
use Rattle.dob_words.proofs.command.read_meant.Goals.{In-Ok}

-- something was asked for where there are matches
asked : (c : In-Ok) → IsAsked (map (λ w. w.now) c.args.words.now) (subcommand_rows_of c.in-Ok.matches)
asked c =
    asked_by_matches c.in_ok-dobutsu_command.field-0 c.in_ok-dobutsu_command.ensures (map (λ w. w.now) c.args.words.now) c.in-Ok.matches
    c.in-Ok.ensures.kinds c.in-Ok.ensures.matches

pub read_matches-requires : goal.read_matches-requires
read_matches-requires c = let is = asked (goal.at.read_matches-requires c).In-Ok in (is.name, is.texts, is.found)

pub returns-in-Ok : goal.returns-in-Ok
returns-in-Ok c =
    order_is_meant (λ meant. IfOk c.read_matches.result (IsReadingOf meant)) _ _ (asked (goal.at.returns-in-Ok c).In-Ok)
    (sym c.asks_version.ensures ∙ c.if-asks_version.false) c.read_matches.ensures

pub returns-then-asks_topic : goal.returns-then-asks_topic
returns-then-asks_topic c = rw (sym c.asks_version.ensures ∙ c.if-asks_version.false, sym c.asks_topic.ensures ∙ c.if-asks_topic.true) c.read_topic.ensures

pub returns : goal.returns
returns c =
    IfOk-weaker c.read_error.result _ _
    (error_of_words c.in_ok-dobutsu_command.field-0 c.in_ok-dobutsu_command.ensures (map (λ w. w.now) c.args.words.now) c.in-Err.error
    (sym c.asks_version.ensures ∙ c.if-asks_version.false) (sym c.asks_topic.ensures ∙ c.if-asks_topic.false) c.in-Err.ensures.kinds) c.read_error.ensures
