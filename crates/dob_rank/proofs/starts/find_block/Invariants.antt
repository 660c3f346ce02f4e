-- The rank is at or behind the start of the block reached.
use Rattle.dob_rank.proofs.Common.{◌≡◌, ◌≤◌, is_present, marks_below, start_of}
use Rattle.dob_rank.proofs.starts.find_block.Given as goal

abbrev pub invariant-loop-block : goal.invariant-loop-block
invariant-loop-block l = record {
  start_is : l.start ≡ marks_below (is_present l.family) (start_of l.family.set l.block);
  upto : l.start ≤ l.rank;
}
