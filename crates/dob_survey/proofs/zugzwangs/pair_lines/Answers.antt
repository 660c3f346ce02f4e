-- Each line is its pair's.
use Rattle.dob_survey.proofs.Common.{rules, pair_line}
use Rattle.dob_survey.proofs.zugzwangs.pair_lines.Goals as goal

pub returns : goal.returns
returns c = c.joined.ensures (pair_line c.args.table.now.family) (λ pair there given post. search rules)
