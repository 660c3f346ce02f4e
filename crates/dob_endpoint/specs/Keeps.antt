-- What the endpoint of a runner keeps, whatever it does: its seat and its inboxes.
use Rattle.std.specs.Prelude.{◌≡◌, None}
use Rattle.dob_board.specs.Seats.{IsSameSeat}
use Rattle.dob_endpoint.specs.declared.endpoint.Endpoint.{Endpoint}
use Rattle.dob_endpoint.specs.Links.{KeepsOutlet, KeepsInlet}
use Rattle.dob_endpoint.specs.Endpoints.{AreOut, KeepsEach}

-- The endpoint is of the same seat, and each of its ends of the same inbox; nothing is taken back.
pub record KeepsEndpoint (old new : Endpoint) : Type 0 where
  pub seat : IsSameSeat old.seat new.seat
  pub outlets : KeepsEach KeepsOutlet old.outlets.items new.outlets.items
  pub inlet : KeepsInlet old.inlet new.inlet

-- its links are the same ones
pub record HasSameLinks (old new : Endpoint) : Type 0 where
  pub seat : IsSameSeat old.seat new.seat
  pub outlets : new.outlets ≡ old.outlets
  pub inlet : new.inlet ≡ old.inlet

-- and its node is of the same colour
pub record HasSameLinksAndColour (old new : Endpoint) : Type 0 where
  pub links : HasSameLinks old new
  pub colour : new.seat.stand.black ≡ old.seat.stand.black

-- no batch lies in a slot of it
abbrev pub HasEmptySlots : Endpoint → Type 0
HasEmptySlots endpoint = AreOut endpoint.outlets.items × (endpoint.inlet.slot ≡ None)
