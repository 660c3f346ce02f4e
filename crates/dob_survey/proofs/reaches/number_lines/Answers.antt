-- The three lines, one after the other.
use Rattle.dob_survey.proofs.Common.{◌-◌, ◌∙◌, ◌≡◌, arith, codes, length, decimal, count_line}
use Rattle.dob_lines.proofs.CountLines.{three_lines}
use Rattle.dob_survey.proofs.reaches.number_lines.Goals as goal

pub returns : goal.returns
returns c =
    let reached = c.args.reached.now in
    let depth : c.depth-depth.result ≡ length reached.levels.items - 1 = omega (arith, c.depth-depth.ensures) in
    c.in_ok-format.ensures.ok
    ∙ rw depth (three_lines (codes "classes ") (decimal reached.classes) (codes "open ") (decimal reached.opens)
    (count_line (codes "depth ") (length reached.levels.items - 1)))
