-- The seats that are left and the rest stand for all nodes together; there are fewer seats each time, and node 0's is the last.
use Rattle.std.proofs.Common.{◌≡◌, map}
use Rattle.dob_board.proofs.Names.{stand_of}
use Rattle.dob_board.proofs.Ends.{AreLeft, IsFirstWitnessed}
use Rattle.dob_board.proofs.closing.join_all.Given as goal

abbrev pub invariant-loop-seat : goal.invariant-loop-seat
invariant-loop-seat l = record {
  of_board : l.rest.table_id ≡ l.fn.rest.table_id;
  left : AreLeft l.fn.rest.table_id l.nodes (map stand_of l.fn.seats.items) l.seats.items l.rest.me;
  first : IsFirstWitnessed l.fn.seats.items l.seats.items l.rest.me;
}

abbrev pub decreases-loop-seat : goal.decreases-loop-seat
decreases-loop-seat l = goal.left-loop-seat l
