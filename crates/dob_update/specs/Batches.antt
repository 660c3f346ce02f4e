-- What a batch and an outbox are, and what is cut from an outbox.
use Rattle.std.specs.Prelude.{◌≡◌, ℕ, ◌+◌, ◌<◌, ◌≤◌, List, [], ◌∷◌, ◌++◌, length, take, drop}
use Rattle.std.specs.List.{flat_map}
use Rattle.dob_pieces.specs.declared.profile.Family.{Family}
use Rattle.dob_unmove.specs.Edges.{predecessors}
use Rattle.dob_share.specs.declared.news.Settlement.{Settlement}
use Rattle.dob_share.specs.declared.news.Item.{Item}
use Rattle.dob_share.specs.Items.{items_from}

-- a batch of a family among n nodes, from one node to another, by its number on this link
pub record BatchView : Type 0 where
  pub family : Family
  pub n : ℕ
  pub from : ℕ
  pub to : ℕ
  pub number : ℕ
  pub settlements : List Settlement
  pub skip : ℕ
  pub items : List Item

-- the items of batches, in order
abbrev pub items_of_batches : List BatchView → List Item
items_of_batches batches = flat_map (λ (b : BatchView). b.items) batches

-- as many items as a batch may have, and as many batches as may wait on their way
abbrev pub most_items : ℕ
most_items = 4096

abbrev pub most_batches : ℕ
most_batches = 1024

-- nodes may cut batches of at most so many items
abbrev pub IsBatchSize : ℕ → Type 0
IsBatchSize items = (0 < items) × (items ≤ most_items)

-- at most so many batches may wait on their way
abbrev pub IsCapacity : ℕ → Type 0
IsCapacity batches = (0 < batches) × (batches ≤ most_batches)

-- both may be so
abbrev pub AreSizes : ℕ → ℕ → Type 0
AreSizes batch_size capacity = IsBatchSize batch_size × IsCapacity capacity

-- what a node has still to send to another, and the number of the next batch
pub record OutboxView : Type 0 where
  pub family : Family
  pub n : ℕ
  pub from : ℕ
  pub to : ℕ
  pub settlements : List Settlement
  pub skip : ℕ
  pub items : List Item
  pub next : ℕ

-- the items of settlements for the node `to`
abbrev pub items_for : Family → ℕ → ℕ → List Settlement → List Item
items_for family n to settlements = items_from (predecessors family) n to settlements

-- Of the items of settlements, those that begin after `skip` and are so many have one of the settlement s, which stands
-- after others: some place in the list is a place of both.
pub record HasItemIn (family : Family) (n to : ℕ) (before : List Settlement) (s : Settlement) (skip many : ℕ) : Type 0 where
  pub place : ℕ
  pub of_settlement : (length (items_for family n to before) ≤ place) × (place < length (items_for family n to (before ++ s ∷ [])))
  pub of_run : (skip ≤ place) × (place < skip + many)

-- each of the settlements has an item there
abbrev pub EachHasItemIn : Family → ℕ → ℕ → List Settlement → ℕ → ℕ → Type 0
EachHasItemIn family n to settlements skip many = (before : List Settlement) (s : Settlement) (behind : List Settlement) →
    settlements ≡ before ++ s ∷ behind → HasItemIn family n to before s skip many

-- The items are a run of those of the settlements, which begins after `skip` of them; there are some, and each
-- settlement has one among them.
pub record IsBatch (batch : BatchView) : Type 0 where
  pub some : 0 < length batch.items
  pub run : batch.items ≡ take (length batch.items) (drop batch.skip (items_for batch.family batch.n batch.to batch.settlements))
  pub needed : EachHasItemIn batch.family batch.n batch.to batch.settlements batch.skip (length batch.items)

-- The items are those of the settlements after the first `skip` of them, and each settlement has one among them.
pub record IsOutbox (outbox : OutboxView) : Type 0 where
  pub rest : outbox.items ≡ drop outbox.skip (items_for outbox.family outbox.n outbox.to outbox.settlements)
  pub needed : EachHasItemIn outbox.family outbox.n outbox.to outbox.settlements outbox.skip (length outbox.items)

-- an outbox with nothing to send
abbrev pub empty_outbox : Family → ℕ → ℕ → ℕ → OutboxView
empty_outbox family n from to = record { family = family; n = n; from = from; to = to; settlements = []; skip = 0; items = []; next = 0 }

-- the settlement alone, where it has items
abbrev pub with_items : Settlement → List Item → List Settlement
with_items s [] = []
with_items s (item ∷ items) = s ∷ []

-- the outbox with a settlement more, where it has items for the receiver
abbrev pub added : OutboxView → Settlement → List Item → OutboxView
added outbox s items = record outbox { settlements = outbox.settlements ++ with_items s items; items = outbox.items ++ items }

-- what an outbox has to send, and for how many items of one more settlement it has room
pub record OutboxState : Type 0 where
  pub sends : OutboxView
  pub room : ℕ

-- What is cut is the first `size` items, or all where there are fewer, and what is left are the others. The batch has
-- the outbox's next number, and lists the first of its settlements; the outbox keeps the last of them.
pub record IsCut (old : OutboxView) (size : ℕ) (batch : BatchView) (new : OutboxView) : Type 0 where
  pub items : batch.items ≡ take size old.items
  pub left : new.items ≡ drop size old.items
  pub skip : batch.skip ≡ old.skip
  pub number : batch.number ≡ old.next
  pub next : new.next ≡ old.next + 1
  pub listed : (behind : List Settlement) × (old.settlements ≡ batch.settlements ++ behind)
  pub kept : (gone : List Settlement) × (old.settlements ≡ gone ++ new.settlements)
      × (length (items_for old.family old.n old.to gone) + new.skip ≡ old.skip + length batch.items)
  pub of_link : (batch.family ≡ old.family) × (batch.n ≡ old.n) × (batch.from ≡ old.from) × (batch.to ≡ old.to)
  pub same_link : (new.family ≡ old.family) × (new.n ≡ old.n) × (new.from ≡ old.from) × (new.to ≡ old.to)

-- The first k items of a batch, with the settlements that these need.
pub record IsFront (old : BatchView) (k : ℕ) (new : BatchView) : Type 0 where
  pub items : new.items ≡ take k old.items
  pub listed : (behind : List Settlement) × (old.settlements ≡ new.settlements ++ behind)
  pub same : new ≡ record old { settlements = new.settlements; items = new.items }
