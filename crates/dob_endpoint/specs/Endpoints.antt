-- What the steps of a runner keep of its seat and its links.
use Rattle.std.specs.Prelude.{◌≡◌, ℕ, ◌<◌, List, None, Some, length, slice_get, slice_index, slice_set}
use Rattle.dob_update.specs.Batches.{BatchView}
use Rattle.dob_endpoint.specs.declared.slots.Outlet.{Outlet}
use Rattle.dob_endpoint.specs.declared.slots.Inlet.{Inlet}
use Rattle.dob_chan.specs.Ends.{place_of}
use Rattle.dob_endpoint.specs.Links.{worked_from}

-- for each place, the count is the number of batches of the link that stands there
abbrev pub AreCounts : {L : Type 0} → (L → List BatchView) → List ℕ → List L → Type 0
AreCounts {L} batches counts links = (j : ℕ) (link : L) → slice_get links j ≡ Some link → slice_index counts j ≡ length (batches link)

-- for each of n senders, the count is the number of its batches that were worked in
abbrev pub AreBatchesTaken : ℕ → List ℕ → Inlet → Type 0
AreBatchesTaken n counts inlet = (from : ℕ) → from < n → slice_index counts from ≡ length (worked_from inlet from)

-- each is for the batches of that node
abbrev pub AreOwn : ℕ → List Outlet → Type 0
AreOwn node outlets = (to : ℕ) (outlet : Outlet) → slice_get outlets to ≡ Some outlet → place_of outlet.end ≡ node

-- the link at place k changed in that way, and the others stayed
abbrev pub HasChangedOne : {L : Type 0} → (L → L → Type 0) → ℕ → List L → List L → Type 0
HasChangedOne {L} Changed k old new =
    (before : L) × (after : L) × (slice_get old k ≡ Some before) × Changed before after × (new ≡ slice_set old k after)

-- what stands at a place of the second list keeps what stands there in the first
abbrev pub KeepsEach : {L : Type 0} → (L → L → Type 0) → List L → List L → Type 0
KeepsEach {L} Keeps old new = (j : ℕ) (before after : L) → slice_get old j ≡ Some before → slice_get new j ≡ Some after → Keeps before after

-- each sending slot is empty
abbrev pub AreOut : List Outlet → Type 0
AreOut outlets = (to : ℕ) (outlet : Outlet) → slice_get outlets to ≡ Some outlet → outlet.slot ≡ None
