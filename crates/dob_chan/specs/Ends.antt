-- The ends of an inbox: what each has sent or taken.
use Rattle.std.specs.Prelude.{◌≡◌, ℕ, List, [], length, slice_get, Some}
use Rattle.std.specs.Arc.{arc_value}
use Rattle.crossbeam_queue.specs.Passes.{Pass, view, ruled_capacity}
use Rattle.dob_update.specs.Batches.{BatchView}
use Rattle.dob_chan.specs.declared.rule.Note.{Note}
use Rattle.dob_chan.specs.declared.rule.Told.{Told}
use Rattle.dob_chan.specs.declared.ends.SendEnd.{SendEnd}
use Rattle.dob_chan.specs.declared.ends.TakeEnd.{TakeEnd}
use Rattle.dob_chan.specs.declared.ends.Rejoined.{Rejoined}
use Rattle.dob_chan.specs.Inboxes.{IsLawfulInbox, AreHeldSince, AreNext, batches_of}

-- the batches that the end has sent, in order
abbrev pub sent_by : SendEnd → List BatchView
sent_by end = (view end.pass).sent

-- the place of the end among all senders of its inbox, and how many there are
abbrev pub place_of : SendEnd → ℕ
place_of end = (view end.pass).from

abbrev pub senders_beside : SendEnd → ℕ
senders_beside end = (view end.pass).senders

-- the batches that the end has taken, in order, and those of one sender
abbrev pub taken_by : TakeEnd → List BatchView
taken_by end = (view end.pass).taken

abbrev pub taken_of : TakeEnd → ℕ → List BatchView
taken_of end from = batches_of from (taken_by end)

-- what the end learned of its inbox, by its last batch
abbrev pub send_told : SendEnd → Told
send_told end = (view end.pass).told

abbrev pub take_told : TakeEnd → Told
take_told end = (view end.pass).told

-- how many senders the inbox is for
abbrev pub senders_of : TakeEnd → ℕ
senders_of end = (view end.pass).senders

-- how many batches the end's inbox holds at the most
abbrev pub capacity_of : SendEnd → ℕ
capacity_of end = ruled_capacity (arc_value end.inbox)

-- the end of the sender of this place among so many, which has sent nothing; the taking pass is of the same inbox
abbrev pub IsEndOpened : Pass BatchView Note → ℕ → ℕ → ℕ → SendEnd → Type 0
IsEndOpened pass capacity senders from send = (send.pass.table_id ≡ pass.table_id) × (place_of send ≡ from)
    × (capacity_of send ≡ capacity) × (senders_beside send ≡ senders) × (sent_by send ≡ [])

-- these are the ends of the first senders, in order
abbrev pub AreOpened : Pass BatchView Note → ℕ → ℕ → List SendEnd → Type 0
AreOpened pass capacity senders sends = (from : ℕ) (send : SendEnd) → slice_get sends from ≡ Some send → IsEndOpened pass capacity senders from send

-- the sending end is that of the inbox's sender of this place
abbrev pub IsEndOf : TakeEnd → ℕ → SendEnd → Type 0
IsEndOf take from send = (send.pass.table_id ≡ take.pass.table_id) × (place_of send ≡ from)

-- these are the ends of all senders of the inbox, in order
abbrev pub AreEndsOf : TakeEnd → List SendEnd → Type 0
AreEndsOf take sends = (length sends ≡ senders_of take)
    × ((from : ℕ) (send : SendEnd) → slice_get sends from ≡ Some send → IsEndOf take from send)

-- the end is still of the inbox of which it was, at the same place
abbrev pub SendsToSame : SendEnd → SendEnd → Type 0
SendsToSame old new = (new.pass.table_id ≡ old.pass.table_id) × (place_of new ≡ place_of old)
    × (senders_beside new ≡ senders_beside old) × (capacity_of new ≡ capacity_of old)

abbrev pub TakesFromSame : TakeEnd → TakeEnd → Type 0
TakesFromSame old new = (new.pass.table_id ≡ old.pass.table_id) × (senders_of new ≡ senders_of old)

-- the sending ends are still of the inboxes of which they were, in the same order
abbrev pub AreStill : List SendEnd → List SendEnd → Type 0
AreStill olds news = (length news ≡ length olds)
    × ((k : ℕ) (old new : SendEnd) → slice_get olds k ≡ Some old → slice_get news k ≡ Some new → SendsToSame old new)

-- At some moment after what was learned the inbox was full of batches of its senders, and that sender had sent just its own.
abbrev pub WasFull : ℕ → ℕ → ℕ → List BatchView → Told → Type 0
WasFull capacity senders from own told = (held : List BatchView) × (length held ≡ capacity) × AreHeldSince senders from own told held

-- At some moment after what was learned the inbox was empty: what had been sent was what was taken.
abbrev pub WasEmpty : List BatchView → Told → Type 0
WasEmpty taken told = (held : List BatchView) × (length held ≡ 0) × AreNext taken told held

-- what went through an inbox from one sender: what it sent is what was taken of it and then what is left
abbrev pub IsRejoined : SendEnd → List BatchView → Rejoined → Type 0
IsRejoined send taken joined = (joined.sent ≡ length (sent_by send)) × (joined.received ≡ length (batches_of (place_of send) taken))
    × IsLawfulInbox (sent_by send) (batches_of (place_of send) taken) joined.waiting.items

-- one for each sender
abbrev pub AreRejoined : List SendEnd → List BatchView → List Rejoined → Type 0
AreRejoined sends taken all = (length all ≡ length sends)
    × ((from : ℕ) (send : SendEnd) (joined : Rejoined) → slice_get sends from ≡ Some send → slice_get all from ≡ Some joined → IsRejoined send taken joined)

-- the two ends are those of an inbox of one sender
abbrev pub ArePaired : SendEnd → TakeEnd → Type 0
ArePaired send take = (senders_of take ≡ 1) × IsEndOf take 0 send
