-- Seats with the rows of outlets and the inlets that become their endpoints.
use Rattle.std.specs.Prelude.{◌≡◌, ℕ, List, Some, length, slice_get}
use Rattle.std.specs.declared.vec.Vec.{Vec}
use Rattle.dob_board.specs.declared.seat.NodeSeat.{NodeSeat}
use Rattle.dob_chan.specs.Ends.{senders_of}
use Rattle.dob_endpoint.specs.declared.slots.Outlet.{Outlet}
use Rattle.dob_endpoint.specs.declared.slots.Inlet.{Inlet}
use Rattle.dob_endpoint.specs.declared.endpoint.Endpoint.{Endpoint}
use Rattle.dob_endpoint.specs.Links.{offered}
use Rattle.dob_endpoint.specs.Endpoints.{AreCounts, AreBatchesTaken, AreOwn}

-- the row and the inlet are of the seat's size, the row is for its node, and it has counted their batches
pub record CanSeat (seat : NodeSeat) (outlets : List Outlet) (inlet : Inlet) : Type 0 where
  pub row : length outlets ≡ seat.nodes
  pub senders : senders_of inlet.end ≡ seat.nodes
  pub own : AreOwn seat.node outlets
  pub posted : AreCounts offered seat.stand.posted outlets
  pub taken : AreBatchesTaken seat.nodes seat.stand.taken inlet

-- each seat has a row and an inlet
pub record CanSeatAll {Z : Type 0} (seats : List NodeSeat) (rows : List (Vec Outlet Z)) (inlets : List Inlet) : Type 0 where
  pub rows_len : length rows ≡ length seats
  pub inlets_len : length inlets ≡ length seats
  pub each : (k : ℕ) (seat : NodeSeat) (row : Vec Outlet Z) (inlet : Inlet) → slice_get seats k ≡ Some seat → slice_get rows k ≡ Some row →
      slice_get inlets k ≡ Some inlet → CanSeat seat row.items inlet

-- the endpoint has that seat, that row and that inlet
pub record IsSeated {Z : Type 0} (seat : NodeSeat) (row : Vec Outlet Z) (inlet : Inlet) (endpoint : Endpoint) : Type 0 where
  pub seat_is : endpoint.seat ≡ seat
  pub outlets : endpoint.outlets.items ≡ row.items
  pub inlet_is : endpoint.inlet ≡ inlet

-- the endpoints of the first seats, with their rows and inlets
pub record AreSeated {Z : Type 0} (upto : ℕ) (seats : List NodeSeat) (rows : List (Vec Outlet Z)) (inlets : List Inlet) (endpoints : List Endpoint) : Type 0 where
  pub count : length endpoints ≡ upto
  pub each : (k : ℕ) (endpoint : Endpoint) → slice_get endpoints k ≡ Some endpoint → (seat : NodeSeat) × (row : Vec Outlet Z) × (inlet : Inlet)
      × (slice_get seats k ≡ Some seat) × (slice_get rows k ≡ Some row) × (slice_get inlets k ≡ Some inlet) × IsSeated seat row inlet endpoint
