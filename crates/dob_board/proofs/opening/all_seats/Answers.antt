-- One node more has its seat, fresh and at its place, and the rest stands for the nodes behind it.
use Rattle.std.proofs.Common.{◌≡◌, ℕ, suc, ◌+◌, [], arith, ap, subst, ◌∙◌}
use Rattle.dob_board.proofs.Names.{TableId, unseated, IsSeatOf}
use Rattle.dob_board.proofs.Starts.{AreFirst, push_first}
use Rattle.dob_board.proofs.opening.all_seats.Goals as goal

pub loop-node-preserved : goal.loop-node-preserved
loop-node-preserved c =
    let inv = c.loop-node.invariant in
    let made = c.in_ok-seat.ensures in
    let next : suc c.loop-node.node ≡ c.loop-node.node + 1 = omega arith in
    let board : TableId = c.args.rest.now.table_id in
    record {
      of_board = made.of_board ∙ inv.of_board;
      rest_is = made.rest ∙ ap (λ (k : ℕ). (unseated c.args.nodes k, [])) next;
      first = subst (λ (k : ℕ). AreFirst board c.args.nodes k c.push.new.self.items) next
          (push_first board c.args.nodes c.loop-node.node c.loop-node.seats.items c.push.new.self.items c.in_ok-seat.seat inv.first
          (subst (λ (z : TableId). IsSeatOf z c.args.nodes c.loop-node.node c.in_ok-seat.seat) inv.of_board made.seat) made.fresh c.in_ok-push.ensures.items);
    }

pub returns-clause-seats : goal.returns-clause-seats
returns-clause-seats c = record { count = omega (arith, c.loop-node.invariant.first.count); seats_are = c.loop-node.invariant.first.seats_are }
