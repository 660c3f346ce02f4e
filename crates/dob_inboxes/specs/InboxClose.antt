-- The inboxes of a crew when it ends: what was sent over each link is what came out of the inbox, and then what is left.
use Rattle.std.specs.Prelude.{◌≡◌, ℕ, ◌+◌, ◌*◌, List, Option, Some, length, slice_get}
use Rattle.std.specs.declared.vec.Vec.{Vec}
use Rattle.dob_update.specs.Batches.{BatchView}
use Rattle.dob_chan.specs.declared.ends.SendEnd.{SendEnd}
use Rattle.dob_chan.specs.declared.ends.TakeEnd.{TakeEnd}
use Rattle.dob_chan.specs.declared.ends.Rejoined.{Rejoined}
use Rattle.dob_chan.specs.Ends.{taken_by, AreEndsOf, IsRejoined}
use Rattle.dob_endpoint.specs.declared.slots.Outlet.{Outlet}
use Rattle.dob_inboxes.specs.Rows.{StandsAt, AreRows}

abbrev pub outlet_end : Outlet → SendEnd
outlet_end outlet = outlet.end

abbrev pub outlet_slot : Outlet → Option BatchView
outlet_slot outlet = outlet.slot

-- n rows of n sending ends and n taking ends, and those of each row are all those of the inbox of the taking end at its place
pub record AreEnds {Z : Type 0} (n : ℕ) (sends : List (Vec SendEnd Z)) (takes : List TakeEnd) : Type 0 where
  pub senders : AreRows n n sends
  pub takers : length takes ≡ n
  pub inboxes : (j : ℕ) (row : Vec SendEnd Z) (take : TakeEnd) → slice_get sends j ≡ Some row → slice_get takes j ≡ Some take → AreEndsOf take row.items

-- the links of the ends of all n nodes, by sender and then by receiver
pub record AreJoined {Z : Type 0} (n : ℕ) (sends : List (Vec SendEnd Z)) (takes : List TakeEnd) (links : List Rejoined) : Type 0 where
  pub count : length links ≡ n * n
  pub joined : (i j : ℕ) (send : SendEnd) (take : TakeEnd) → StandsAt sends j i send → slice_get takes j ≡ Some take →
      (link : Rejoined) × (slice_get links (i * n + j) ≡ Some link) × IsRejoined send (taken_by take) link
