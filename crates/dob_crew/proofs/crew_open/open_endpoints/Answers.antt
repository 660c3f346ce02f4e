-- The seats and the inboxes that were laid make a crew of n new endpoints, whose outlets send to the inlets.
use Rattle.dob_crew.proofs.Common.{◌≡◌, arith, map, subst, vec_len, ℕ, replicate, fresh, AreSeats, stand_of, AreSeated}
use Rattle.dob_crew.proofs.Seated.{can_seat, new_crew, new_endpoints}
use Rattle.dob_crew.proofs.crew_open.open_endpoints.Goals as goal
use Rattle.dob_crew.proofs.crew_open.open_endpoints.Goals.{In_ok-rows, In_ok-endpoints}

-- the seats are those of that many nodes, fresh
are_seats : (c : In_ok-rows) → AreSeats c.in_ok-board.board.rest.table_id c.args.nodes c.in_ok-board.seats.items
are_seats c = c.in_ok-board.ensures.seats

are_fresh : (c : In_ok-rows) → map stand_of c.in_ok-board.seats.items ≡ replicate c.args.nodes (fresh c.args.nodes)
are_fresh c = c.in_ok-board.ensures.fresh

pub seat_all-requires : goal.seat_all-requires
seat_all-requires c =
    let here = (goal.at.seat_all-requires c).In_ok-rows in
    can_seat c.args.capacity c.args.nodes c.in_ok-rows.rows.items c.in_ok-rows.inlets.items c.in_ok-board.board c.in_ok-board.seats.items c.in_ok-rows.ensures (are_seats here) (are_fresh here)

-- the endpoints are those of all n seats
all : (c : In_ok-endpoints) → AreSeated c.args.nodes c.in_ok-board.seats.items c.in_ok-rows.rows.items c.in_ok-rows.inlets.items c.in_ok-endpoints.endpoints.items
all c =
    let count = c.in_ok-board.ensures.seats.count in
    let many : vec_len c.in_ok-board.seats ≡ c.args.nodes = omega (arith, count) in
    subst (λ (k : ℕ). AreSeated k c.in_ok-board.seats.items c.in_ok-rows.rows.items c.in_ok-rows.inlets.items c.in_ok-endpoints.endpoints.items) many c.in_ok-endpoints.ensures

pub returns-clause-crew : goal.returns-clause-crew
returns-clause-crew c =
    let laid = (goal.at.returns-clause-crew c).In_ok-rows in
    let here = (goal.at.returns-clause-crew c).In_ok-endpoints in
    new_crew c.args.capacity c.args.nodes c.in_ok-rows.rows.items c.in_ok-rows.inlets.items c.in_ok-board.board c.in_ok-board.seats.items c.in_ok-rows.ensures
    (are_seats laid) (are_fresh laid) c.in_ok-endpoints.endpoints.items (all here) c.in_ok-board.ensures.nodes

pub returns-clause-new : goal.returns-clause-new
returns-clause-new c =
    let laid = (goal.at.returns-clause-new c).In_ok-rows in
    let here = (goal.at.returns-clause-new c).In_ok-endpoints in
    new_endpoints c.args.capacity c.args.nodes c.in_ok-rows.rows.items c.in_ok-rows.inlets.items c.in_ok-board.board c.in_ok-board.seats.items c.in_ok-rows.ensures (are_seats laid) (are_fresh laid) c.in_ok-endpoints.endpoints.items (all here)
