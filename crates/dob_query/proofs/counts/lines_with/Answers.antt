-- The two lines, one after the other.
use Rattle.dob_query.proofs.Common.{◌∙◌, codes, decimal, count_line}
use Rattle.dob_lines.proofs.CountLines.{two_lines}
use Rattle.dob_query.proofs.counts.lines_with.Goals as goal

pub returns : goal.returns
returns c = c.in_ok-format.ensures.ok ∙ two_lines (codes "positions ") (decimal c.args.counts.positions) (count_line (codes "classes ") c.args.counts.classes)
