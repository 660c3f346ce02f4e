-- The three lines, one after the other.
use Rattle.dob_survey.proofs.Common.{◌∙◌, codes, decimal, count_line}
use Rattle.dob_lines.proofs.CountLines.{three_lines}
use Rattle.dob_survey.proofs.reaches.value_text.Goals as goal

pub returns : goal.returns
returns c =
    let counts = c.args.counts in
    c.in_ok-format.ensures.ok
    ∙ three_lines (codes "win ") (decimal counts.win) (codes "loss ") (decimal counts.loss) (count_line (codes "draw ") counts.draw)
