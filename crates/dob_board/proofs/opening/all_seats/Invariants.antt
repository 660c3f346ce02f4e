-- The nodes so far have their seats, fresh and in order, and the rest stands for the nodes behind them.
use Rattle.std.proofs.Common.{◌≡◌, []}
use Rattle.dob_board.proofs.Names.{unseated}
use Rattle.dob_board.proofs.Starts.{AreFirst}
use Rattle.dob_board.proofs.opening.all_seats.Given as goal

abbrev pub invariant-loop-node : goal.invariant-loop-node
invariant-loop-node l = record {
  of_board : l.rest.table_id ≡ l.fn.rest.table_id;
  rest_is : l.rest.me ≡ (unseated l.nodes l.node, []);
  first : AreFirst l.fn.rest.table_id l.nodes l.node l.seats.items;
}
