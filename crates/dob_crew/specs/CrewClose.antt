-- A crew's endpoints, and what they leave when they are closed.
use Rattle.std.specs.Prelude.{◌≡◌, ℕ, ◌+◌, ◌*◌, List, [], ◌∷◌, ◌++◌, Option, Some, length, map, slice_get}
use Rattle.std.specs.declared.vec.Vec.{Vec}
use Rattle.dob_update.specs.Batches.{BatchView}
use Rattle.dob_board.specs.declared.board.Blackboard.{Blackboard}
use Rattle.dob_board.specs.declared.seat.NodeSeat.{NodeSeat}
use Rattle.dob_board.specs.Seats.{AreSeats, AreWords}
use Rattle.dob_chan.specs.declared.ends.SendEnd.{SendEnd}
use Rattle.dob_chan.specs.declared.ends.TakeEnd.{TakeEnd}
use Rattle.dob_chan.specs.declared.ends.Rejoined.{Rejoined}
use Rattle.dob_chan.specs.Ends.{taken_by, IsEndOf, IsRejoined}
use Rattle.dob_endpoint.specs.declared.slots.Outlet.{Outlet}
use Rattle.dob_endpoint.specs.declared.slots.Inlet.{Inlet}
use Rattle.dob_endpoint.specs.declared.endpoint.Endpoint.{Endpoint}
use Rattle.dob_crew.specs.declared.crew_close.ClosedCrew.{ClosedCrew}
use Rattle.dob_crew.specs.declared.crew_close.Parts.{Parts}
use Rattle.dob_inboxes.specs.Rows.{StandsAt, AreRows, AreDealt}
use Rattle.dob_endpoint.specs.Slots.{slot_row}
use Rattle.dob_inboxes.specs.InboxClose.{outlet_end, outlet_slot}

-- the outlet of i for j and the inlet of j
pub record AreLinked (endpoints : List Endpoint) (i j : ℕ) (outlet : Outlet) (inlet : Inlet) : Type 0 where
  pub sender : Endpoint
  pub taker : Endpoint
  pub sends : slice_get endpoints i ≡ Some sender
  pub takes : slice_get endpoints j ≡ Some taker
  pub out : slice_get sender.outlets.items j ≡ Some outlet
  pub into : taker.inlet ≡ inlet

abbrev pub seat_in : Endpoint → NodeSeat
seat_in endpoint = endpoint.seat

-- The endpoints are those of the nodes of the board, in order, and the outlet of each for each one sends to the inbox from which
-- the other one takes, at the place of its own node.
pub record IsCrew (board : Blackboard) (endpoints : List Endpoint) : Type 0 where
  pub seats : AreSeats board.rest.table_id board.nodes (map seat_in endpoints)
  pub paired : (i j : ℕ) (outlet : Outlet) (inlet : Inlet) → AreLinked endpoints i j outlet inlet → IsEndOf inlet.end i outlet.end

abbrev pub row_of : {X Z : Type 0} → Vec X Z → List X
row_of row = row.items

abbrev pub ends_out : Endpoint → List SendEnd
ends_out endpoint = map outlet_end endpoint.outlets.items

abbrev pub end_in : Endpoint → TakeEnd
end_in endpoint = endpoint.inlet.end

abbrev pub slots_out : Endpoint → List (Option BatchView)
slots_out endpoint = map outlet_slot endpoint.outlets.items

abbrev pub slots_in : Endpoint → List (Option BatchView)
slots_in endpoint = slot_row endpoint.seat.nodes endpoint.inlet.slot

-- a row with those things is the last one more
abbrev pub HasRowMore : {X Z : Type 0} → List (Vec X Z) → List X → List (Vec X Z) → Type 0
HasRowMore {X} {Z} old things new = (row : Vec X Z) × (new ≡ old ++ row ∷ []) × (row.items ≡ things)

-- the endpoint was taken apart behind the others
pub record HasAdded (old : Parts) (endpoint : Endpoint) (new : Parts) : Type 0 where
  pub seats : new.seats.items ≡ old.seats.items ++ endpoint.seat ∷ []
  pub sends : AreDealt (length endpoint.outlets.items) (ends_out endpoint) old.sends.items new.sends.items
  pub takes : new.takes.items ≡ old.takes.items ++ end_in endpoint ∷ []
  pub sending : HasRowMore old.sending.items (slots_out endpoint) new.sending.items
  pub taking : HasRowMore old.taking.items (slots_in endpoint) new.taking.items

-- These are the parts of the endpoints of so many nodes. Each sending end stands in the row of the node to which it sends, at the
-- place of its own node.
pub record ArePartsOf (n : ℕ) (endpoints : List Endpoint) (parts : Parts) : Type 0 where
  pub seats : parts.seats.items ≡ map seat_in endpoints
  pub sends_rows : AreRows n (length endpoints) parts.sends.items
  pub sends : (j i : ℕ) (end : SendEnd) → StandsAt parts.sends.items j i end →
      (endpoint : Endpoint) × (slice_get endpoints i ≡ Some endpoint) × (slice_get (ends_out endpoint) j ≡ Some end)
  pub takes : parts.takes.items ≡ map end_in endpoints
  pub sending : map row_of parts.sending.items ≡ map slots_out endpoints
  pub taking : map row_of parts.taking.items ≡ map slots_in endpoints

-- The endpoints of n nodes are closed: the words are what their seats counted; what went over each link stands in the row
-- of its sender at the place of its taker; and what lay in their slots is there.
pub record AreClosed (n : ℕ) (endpoints : List Endpoint) (ended : ClosedCrew) : Type 0 where
  pub words : AreWords n (map seat_in endpoints) ended.closed.words.items
  pub count : length ended.links.items ≡ n * n
  pub links : (i j : ℕ) (outlet : Outlet) (inlet : Inlet) → AreLinked endpoints i j outlet inlet →
      (link : Rejoined) × (slice_get ended.links.items (i * n + j) ≡ Some link) × IsRejoined outlet.end (taken_by inlet.end) link
  pub sending : map row_of ended.sending.items ≡ map slots_out endpoints
  pub taking : map row_of ended.taking.items ≡ map slots_in endpoints
