-- The pairs whose lines are written are of the table.
use Rattle.dob_survey.proofs.Common.{subst, sym, AreOfTable}
use Rattle.dob_survey.proofs.Puzzling.{deepest_of_table, first_of_table}
use Rattle.dob_survey.proofs.zugzwangs.pairs_told.Goals as goal

pub zugzwang_lines-requires-clause-deepest : goal.zugzwang_lines-requires-clause-deepest
zugzwang_lines-requires-clause-deepest c =
    deepest_of_table c.args.table.now c.args.pairs.now c.requires c.count_pairs-counts.result.deepest c.count_pairs-counts.ensures.deepest_is

pub zugzwang_lines-requires-clause-first : goal.zugzwang_lines-requires-clause-first
zugzwang_lines-requires-clause-first c =
    subst (AreOfTable c.args.table.now) (sym c.first_pairs.ensures) (first_of_table c.args.table.now c.args.pairs.now c.requires c.args.listed)
