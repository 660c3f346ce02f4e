-- One more joins the program.
use Rattle.dob_words.specs.Shapes.{row_said}
use Rattle.dob_words.proofs.Rules.{row_joins, rows_all}
use Rattle.dob_words.proofs.command.add_subcommands.Goals as goal

pub loop-row-preserved : goal.loop-row-preserved
loop-row-preserved c = λ app shape.
    row_joins c.args.profiles.names row_said c.args.rows.now c.loop-row.row-index _ app c.loop-row.command c.in_ok-command.command c.in_ok-row_command.field-0
    c.loop-row-test.true (c.loop-row.invariant app shape) c.in_ok-row_command.ensures c.in_ok-command.ensures

pub returns : goal.returns
returns c = λ app shape.
    rows_all c.args.profiles.names row_said c.args.rows.now c.loop-row.row-index app c.loop-row.command c.loop-row-test.false (c.loop-row.invariant app shape)
