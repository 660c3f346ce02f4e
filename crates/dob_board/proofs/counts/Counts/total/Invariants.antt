-- The total is the sum of the counts so far, each of which is at most 2^40.
use Rattle.std.proofs.Common.{◌≡◌, ◌*◌, ◌^◌, ◌≤◌, take}
use Rattle.dob_board.proofs.Names.{sum}
use Rattle.dob_board.proofs.counts.Counts.total.Given as goal

abbrev pub invariant-loop-count : goal.invariant-loop-count
invariant-loop-count l = record {
  so_far : l.total ≡ sum (take l.count-index l.count-items);
  few : l.total ≤ l.count-index * 2 ^ 40;
}
