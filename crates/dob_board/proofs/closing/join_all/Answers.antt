-- One seat less is left: the last one's stand comes before those of the rest, on the same board.
use Rattle.std.proofs.Common.{◌≡◌, ◌++◌, [], List, map, append-nil, rules, refl, sym, ap, ◌∙◌}
use Rattle.dob_board.proofs.Names.{NodeSeat, slice_get, stand_of}
use Rattle.dob_board.proofs.Allowed.{Seated}
use Rattle.dob_board.proofs.Ends.{all_left, last_seat, one_less, first_less}
use Rattle.dob_board.proofs.closing.join_all.Goals as goal

pub loop-seat-init : goal.loop-seat-init
loop-seat-init c = record {
  of_board = refl;
  left = all_left c.args.rest.now.table_id c.args.nodes c.args.seats.items c.args.rest.now.me c.requires.seats c.requires.rest;
  first = ([], sym (append-nil c.args.seats.items), λ seat e. absurd (cc));
}

pub loop-seat-preserved : goal.loop-seat-preserved
loop-seat-preserved c =
    let inv = c.loop-seat.invariant in
    record {
      of_board = c.join_last.ensures.of_board ∙ inv.of_board;
      left =
          one_less c.args.rest.now.table_id c.args.nodes (map stand_of c.args.seats.items) c.loop-seat.seats.items c.pop.new.self.items c.in-Some.seat
          c.loop-seat.rest.me c.join_last.new.rest.me
          inv.left c.in-Some.ensures.items c.join_last.ensures.rest;
      first = first_less c.args.seats.items c.loop-seat.seats.items c.pop.new.self.items c.in-Some.seat c.loop-seat.rest.me c.join_last.new.rest.me
          inv.first c.in-Some.ensures.items (ap (λ (me : Seated). me.0.witnessed) c.join_last.ensures.rest);
    }

pub join_last-requires : goal.join_last-requires
join_last-requires c =
    let last = last_seat c.args.rest.now.table_id c.args.nodes (map stand_of c.args.seats.items) c.loop-seat.seats.items c.pop.new.self.items c.in-Some.seat
    c.loop-seat.rest.me c.loop-seat.invariant.left c.in-Some.ensures.items in
    record {
      board = search rules;
      key = search rules;
      of_board = search rules;
      seat_of_board = search rules;
      nodes = last.0.nodes;
      before = last.1;
      no_slot = search rules;
    }

pub returns-clause-witnessed : goal.returns-clause-witnessed
returns-clause-witnessed c seat e =
    let first = c.loop-seat.invariant.first in
    let none : c.loop-seat.seats.items ≡ [] = search rules in
    first.2 seat (ap (λ (xs : List NodeSeat). slice_get (xs ++ first.0) 0) (sym none) ∙ ap (λ (xs : List NodeSeat). slice_get xs 0) (sym first.1) ∙ e)
