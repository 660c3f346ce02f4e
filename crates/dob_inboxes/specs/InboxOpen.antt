-- The inboxes of a crew: row i of the outlets and inlet i are those of node i.
use Rattle.std.specs.Prelude.{◌≡◌, ℕ, List, [], None, Some, length, slice_get}
use Rattle.std.specs.declared.vec.Vec.{Vec}
use Rattle.dob_chan.specs.declared.ends.SendEnd.{SendEnd}
use Rattle.dob_chan.specs.Ends.{sent_by, taken_by, senders_of, capacity_of, IsEndOf}
use Rattle.dob_endpoint.specs.declared.slots.Outlet.{Outlet}
use Rattle.dob_endpoint.specs.declared.slots.Inlet.{Inlet}
use Rattle.dob_inboxes.specs.Rows.{StandsAt, AreRows}

-- an outlet with each of the ends, whose slot is empty
pub record AreOutlets (sends : List SendEnd) (outlets : List Outlet) : Type 0 where
  pub count : length outlets ≡ length sends
  pub each : (k : ℕ) (outlet : Outlet) → slice_get outlets k ≡ Some outlet → (slice_get sends k ≡ Some outlet.end) × (outlet.slot ≡ None)

-- The outlet sends to the inbox of the inlet as that sender; the inbox has that capacity, nothing was sent, and the slot is empty.
pub record IsLaid (capacity from : ℕ) (outlet : Outlet) (inlet : Inlet) : Type 0 where
  pub paired : IsEndOf inlet.end from outlet.end
  pub room : capacity_of outlet.end ≡ capacity
  pub nothing : sent_by outlet.end ≡ []
  pub empty : outlet.slot ≡ None

-- The inbox of the inlet is for n senders, nothing was taken, and the slot is empty.
pub record IsUntaken (n : ℕ) (inlet : Inlet) : Type 0 where
  pub senders : senders_of inlet.end ≡ n
  pub nothing : taken_by inlet.end ≡ []
  pub empty : inlet.slot ≡ None

-- the outlets of n nodes to one inbox, and its inlet
pub record IsOneLaid (capacity n : ℕ) (outlets : List Outlet) (inlet : Inlet) : Type 0 where
  pub count : length outlets ≡ n
  pub laid : (i : ℕ) (outlet : Outlet) → slice_get outlets i ≡ Some outlet → IsLaid capacity i outlet inlet
  pub untaken : IsUntaken n inlet

-- The inboxes of the nodes below a number are laid: each of n nodes has its outlet to each of them.
pub record AreLaidUpto {Z : Type 0} (capacity n upto : ℕ) (outlets : List (Vec Outlet Z)) (inlets : List Inlet) : Type 0 where
  pub rows : AreRows n upto outlets
  pub count : length inlets ≡ upto
  pub laid : (i j : ℕ) (outlet : Outlet) (inlet : Inlet) → StandsAt outlets i j outlet → slice_get inlets j ≡ Some inlet → IsLaid capacity i outlet inlet
  pub untaken : (j : ℕ) (inlet : Inlet) → slice_get inlets j ≡ Some inlet → IsUntaken n inlet

-- an inbox for each of n nodes, with an outlet of each to it
abbrev pub AreLaid : {Z : Type 0} → ℕ → ℕ → List (Vec Outlet Z) → List Inlet → Type 0
AreLaid capacity n outlets inlets = AreLaidUpto capacity n n outlets inlets
