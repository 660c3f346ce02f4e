-- The four lines, one after the other.
use Rattle.std.proofs.Common.{◌∙◌}
use Rattle.dob_lines.proofs.CountLines.{lines_told}
use Rattle.dob_lines.proofs.tally.lines_of.Goals as goal

pub returns : goal.returns
returns g c =
    c.in_ok-format.ensures.ok
    ∙ lines_told c.args.table.now.values c.tally_of-tally.result c.class_count-classes.result c.class_count-classes.ensures.length c.tally_of-tally.ensures
