-- The runs so far have their entries and tables, and the count is of the block's marks before the next one.
use Rattle.dob_classes.proofs.Common.{◌+◌, ◌≡◌, AreRuns, classes_to_block, classes_to_run}
use Rattle.dob_classes.proofs.block_classes.BlockClasses.open.Given as goal

abbrev pub invariant-loop-lions : goal.invariant-loop-lions
invariant-loop-lions l = record {
  runs_are : AreRuns l.family l.number l.lions l.runs.items l.mixed.items;
  count_is : classes_to_block l.family l.number + l.hand ≡ classes_to_run l.family l.number l.lions;
}
