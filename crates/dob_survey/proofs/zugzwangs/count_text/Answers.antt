-- The two lines, one after the other.
use Rattle.dob_survey.proofs.Common.{◌∙◌, codes, decimal, count_line}
use Rattle.dob_lines.proofs.CountLines.{two_lines}
use Rattle.dob_survey.proofs.zugzwangs.count_text.Goals as goal

pub returns : goal.returns
returns c =
    let counts = c.args.counts in
    c.in_ok-format.ensures.ok ∙ two_lines (codes "lost by both ") (decimal counts.lost_by_both) (count_line (codes "loss and draw ") counts.loss_and_draw)
