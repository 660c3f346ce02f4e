-- Each line is its group's.
use Rattle.dob_survey.proofs.Common.{rules, group_text}
use Rattle.dob_survey.proofs.stats.group_lines.Goals as goal

pub returns : goal.returns
returns c = c.joined.ensures (group_text c.args.form) (λ group there given post. search rules)
