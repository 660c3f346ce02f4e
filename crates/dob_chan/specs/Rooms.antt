-- Rooms for the batches that are left of each sender, while they are filled.
use Rattle.std.specs.Prelude.{◌≡◌, ℕ, ◌≤◌, ◌+◌, List, [], ◌∷◌, ◌++◌, length, slice_get, slice_index, Some, vec_capacity}
use Rattle.dob_update.specs.Batches.{BatchView}
use Rattle.dob_chan.specs.declared.ends.SendEnd.{SendEnd}
use Rattle.dob_chan.specs.declared.ends.Rejoined.{Rejoined}
use Rattle.dob_chan.specs.Inboxes.{IsLawfulInbox, batches_of, sent_by_ended}

-- an empty room for what is left where so many batches were sent and so many received
abbrev pub HasRoom : ℕ → ℕ → Rejoined → Type 0
HasRoom sent received room = (room.sent ≡ sent) × (room.received ≡ received) × (room.waiting.items ≡ []) × (sent ≤ received + vec_capacity room.waiting)

-- a room for each of the first senders
abbrev pub AreRooms : List SendEnd → List ℕ → List Rejoined → Type 0
AreRooms sends taken rooms = (k : ℕ) (send : SendEnd) (room : Rejoined) → slice_get sends k ≡ Some send → slice_get rooms k ≡ Some room
    → HasRoom send.sent (slice_index taken k) room

-- an empty room for what was sent beyond what was taken, of each sender
abbrev pub AreRoomy : List (List BatchView) → List BatchView → List Rejoined → Type 0
AreRoomy ended taken rooms = (k : ℕ) (room : Rejoined) → slice_get rooms k ≡ Some room
    → (room.waiting.items ≡ []) × (length (sent_by_ended ended k) ≤ length (batches_of k taken) + vec_capacity room.waiting)

-- the room has what is left of its sender
abbrev pub AreFilled : List (List BatchView) → List BatchView → List Rejoined → List Rejoined → Type 0
AreFilled ended taken olds news = (length news ≡ length olds)
    × ((k : ℕ) (old new : Rejoined) → slice_get olds k ≡ Some old → slice_get news k ≡ Some new
    → (new.sent ≡ old.sent) × (new.received ≡ old.received) × IsLawfulInbox (sent_by_ended ended k) (batches_of k taken) new.waiting.items)

-- one batch more waits
abbrev pub HasOneMoreWaiting : Rejoined → BatchView → Rejoined → Type 0
HasOneMoreWaiting old batch new = (new.sent ≡ old.sent) × (new.received ≡ old.received)
    × (new.waiting.items ≡ old.waiting.items ++ batch ∷ []) × (vec_capacity old.waiting ≤ vec_capacity new.waiting)
