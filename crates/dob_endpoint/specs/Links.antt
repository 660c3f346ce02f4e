-- The batches of a runner's links, what a link keeps, and what was received by one.
use Rattle.std.specs.Prelude.{◌≡◌, ◌≢◌, ◌⊎◌, ℕ, ◌+◌, ◌≤◌, List, ◌++◌, None, length}
use Rattle.dob_pieces.specs.Lists.{IsBeginning}
use Rattle.dob_update.specs.Batches.{BatchView}
use Rattle.dob_chan.specs.Inboxes.{batches_of}
use Rattle.dob_chan.specs.Ends.{sent_by, taken_by, place_of, senders_beside, capacity_of, send_told, take_told, WasEmpty, WasFull, SendsToSame, TakesFromSame}
use Rattle.dob_endpoint.specs.declared.slots.Outlet.{Outlet}
use Rattle.dob_endpoint.specs.declared.slots.Inlet.{Inlet}
use Rattle.dob_endpoint.specs.Slots.{in_slot, worked_of}

-- the batches that the inbox took, and then the one in the slot
abbrev pub offered : Outlet → List BatchView
offered outlet = sent_by outlet.end ++ in_slot outlet.slot

-- the batches that came out of the inbox, without the one in the slot, and those of one sender
abbrev pub worked : Inlet → List BatchView
worked inlet = worked_of inlet.end inlet.slot

abbrev pub worked_from : Inlet → ℕ → List BatchView
worked_from inlet from = batches_of from (worked inlet)

-- the outlet's inbox was full at some moment after the end was told of it
abbrev pub IsFull : Outlet → Type 0
IsFull outlet = WasFull (capacity_of outlet.end) (senders_beside outlet.end) (place_of outlet.end) (sent_by outlet.end) (send_told outlet.end)

-- the outlet sends to the same inbox, which took the same batches and maybe more
abbrev pub KeepsOutlet : Outlet → Outlet → Type 0
KeepsOutlet old new = SendsToSame old.end new.end × IsBeginning (sent_by old.end) (sent_by new.end)

-- the inlet takes from the same inbox, of which it got the same batches and maybe more
abbrev pub KeepsInlet : Inlet → Inlet → Type 0
KeepsInlet old new = TakesFromSame old.end new.end × IsBeginning (taken_by old.end) (taken_by new.end)

-- What lies in the slot was offered to the inbox: it lies there still, which is only where the inbox was full, or the inbox took it.
pub record IsOffered (old new : Outlet) : Type 0 where
  pub keeps : KeepsOutlet old new
  pub same : offered new ≡ offered old
  pub slot : (new.slot ≡ old.slot) ⊎ (new.slot ≡ None)
  pub full : new.slot ≢ None → IsFull new

-- The inbox gave at most one batch, and the slot is empty only where the inbox was.
pub record IsReceived (before after : Inlet) : Type 0 where
  pub few : length (taken_by after.end) ≤ length (taken_by before.end) + 1
  pub empty : after.slot ≡ None → WasEmpty (taken_by after.end) (take_told after.end)
