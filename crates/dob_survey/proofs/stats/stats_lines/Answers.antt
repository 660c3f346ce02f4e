-- The longest ones are groups, whose first classes are the table's.
use Rattle.dob_survey.proofs.Statistics.{longest_within}
use Rattle.dob_survey.proofs.stats.stats_lines.Goals as goal

pub longest_line-requires : goal.longest_line-requires
longest_line-requires g c =
    rw c.longest_of-longest.ensures (longest_within c.args.table.now.values c.args.groups.now c.requires).0

pub longest_line-requires-2 : goal.longest_line-requires-2
longest_line-requires-2 g c =
    rw c.longest_of-longest.ensures (longest_within c.args.table.now.values c.args.groups.now c.requires).1
