-- The endpoints of a crew before their first step.
use Rattle.std.specs.Prelude.{◌≡◌, ℕ, List, [], Some, None, true, slice_get}
use Rattle.dob_board.specs.declared.halt.Halt.TheVariants.{Running}
use Rattle.dob_chan.specs.Ends.{capacity_of}
use Rattle.dob_endpoint.specs.declared.slots.Outlet.{Outlet}
use Rattle.dob_endpoint.specs.declared.endpoint.Endpoint.{Endpoint}
use Rattle.dob_endpoint.specs.Links.{offered, worked}

-- Nothing has gone over the links of the endpoint, which sends to inboxes of that capacity; its seat is black and knows of no halt.
pub record IsNewEndpoint (capacity : ℕ) (endpoint : Endpoint) : Type 0 where
  pub black : endpoint.seat.stand.black ≡ true
  pub running : endpoint.seat.stand.halt ≡ Running
  pub unsent : (to : ℕ) (outlet : Outlet) → slice_get endpoint.outlets.items to ≡ Some outlet → (offered outlet ≡ []) × (outlet.slot ≡ None) × (capacity_of outlet.end ≡ capacity)
  pub untaken : (worked endpoint.inlet ≡ []) × (endpoint.inlet.slot ≡ None)

abbrev pub AreNewEndpoints : ℕ → List Endpoint → Type 0
AreNewEndpoints capacity endpoints = (k : ℕ) (endpoint : Endpoint) → slice_get endpoints k ≡ Some endpoint → IsNewEndpoint capacity endpoint
