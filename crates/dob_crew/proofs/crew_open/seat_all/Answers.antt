-- While a seat is left so are a row and an inlet, of its size and with its counts, and they become its endpoint.
use Rattle.dob_crew.proofs.Common.{◌∙◌, ◌≡◌, Global, ap, arith, length, refl, rules, subst, ℕ, ⊎_elim, Vec, Outlet, AreSeated}
use Rattle.dob_endpoint.proofs.Places.{each_more, gone_all, next_at, one_gone, one_longer}
use Rattle.dob_crew.proofs.crew_open.seat_all.Goals as goal

pub new-requires : goal.new-requires
new-requires c =
    let on = c.loop-seat.invariant in
    let steps = c.in-Some.ensures.steps in
    let can = c.requires.each _ _ _ _ (next_at on.seats_are steps.0.0.0) (next_at on.rows_are steps.0.1.0) (next_at on.inlets_are steps.1.0) in
    record { outlets = omega (arith, can.row); senders = can.senders; own = can.own; posted = can.posted; taken = can.taken }

pub loop-seat-preserved : goal.loop-seat-preserved
loop-seat-preserved c =
    let on = c.loop-seat.invariant in
    let steps = c.in-Some.ensures.steps in
    let made = c.new.ensures in
    let more = c.in_ok-push.ensures.items in record {
      seats_are = one_gone on.seats_are steps.0.0.0 (one_longer _ _ more);
      rows_are = one_gone on.rows_are steps.0.1.0 (one_longer _ _ more);
      inlets_are = one_gone on.inlets_are steps.1.0 (one_longer _ _ more);
      so_far = record {
        count = refl;
        each = each_more _ _ _ _ _ refl more on.so_far.each (
          c.in-Some.seat,
          c.in-Some.outlets,
          c.in-Some.inlet,
          next_at on.seats_are steps.0.0.0,
          next_at on.rows_are steps.0.1.0,
          next_at on.inlets_are steps.1.0,
          record { seat_is = made.seat; outlets = ap (λ (v : Vec Outlet Global). v.items) made.outlets; inlet_is = made.inlet },
        );
      };
    }

pub returns : goal.returns
returns c =
    let on = c.loop-seat.invariant in
    let all : length c.loop-seat.endpoints.items ≡ length c.args.seats.items = ⊎_elim
    (λ pair. ⊎_elim (λ seat. gone_all on.seats_are (search (rules, seat.1.0))) (λ row. gone_all on.rows_are (search (rules, row.1.0)) ∙ c.requires.rows_len)
    pair.1)
    (λ inlet. gone_all on.inlets_are (search (rules, inlet.1.0)) ∙ c.requires.inlets_len) c.in-None.ensures.steps in
    subst (λ (k : ℕ). AreSeated k c.args.seats.items c.args.rows.items c.args.inlets.items c.loop-seat.endpoints.items) (all ∙ search rules) on.so_far
