-- The seat of the node just before the rest may be joined into it.
use Rattle.std.proofs.Common.{rules, arith}
use Rattle.dob_board.proofs.Ends.{joins_call}
use Rattle.dob_board.proofs.closing.join_last.Goals as goal

pub join_seat-requires : goal.join_seat-requires
join_seat-requires c =
    let seat = c.args.seat in (
      search rules,
      search rules,
      search rules,
      rw (c.deref.ensures, c.requires.board) (omega arith),
      joins_call _ seat.nodes seat.node _ _ c.args.rest.now.me.0 seat.seat.me seat.stand seat.seat.me.0.witnessed (search rules) c.requires.before seat.view_is,
    )
