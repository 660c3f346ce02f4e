-- What the parts of a runner's turn do, and when each has something to do.
use Rattle.std.specs.Prelude.{◌≡◌, ◌≢◌, ◌↔◌, ◌⊎◌, ℕ, ◌+◌, ◌<◌, ◌≤◌, List, [], ◌∷◌, ◌++◌, Bool, IsTrue, ◌||◌, true, false, Option, None, Some, MatchOption, length, slice_get}
use Rattle.dob_update.specs.Batches.{BatchView}
use Rattle.dob_board.specs.Seats.{TakesNone}
use Rattle.dob_chan.specs.Ends.{sent_by, taken_by, take_told, WasEmpty}
use Rattle.dob_share.specs.declared.news.Settlement.{Settlement}
use Rattle.dob_node.specs.NodeViews.{NodeView}
use Rattle.dob_history.specs.Levels.{level_of}
use Rattle.dob_node.specs.Levels.{HasLevel}
use Rattle.dob_node.specs.Nodes.{outbox_to, IsExpanded, IsUnchanged}
use Rattle.dob_endpoint.specs.declared.slots.Outlet.{Outlet}
use Rattle.dob_endpoint.specs.declared.slots.Inlet.{Inlet}
use Rattle.dob_endpoint.specs.declared.endpoint.Endpoint.{Endpoint}
use Rattle.dob_runner.specs.declared.runner.Runner.{Runner}
use Rattle.dob_endpoint.specs.Links.{offered, worked, IsFull}
use Rattle.dob_runner.specs.Batches.{HoldsFor}
use Rattle.dob_endpoint.specs.Endpoints.{HasChangedOne}
use Rattle.dob_runner.specs.Runners.{GoesOn}
use Rattle.dob_runner.specs.Paces.{IsLimitFor}

-- a batch for that node couldn't be sent, and another whole one is left for it
pub record HoldsUp (runner : Runner) (to : ℕ) : Type 0 where
  pub outlet : Outlet
  pub at : slice_get runner.endpoint.outlets.items to ≡ Some outlet
  pub unsent : outlet.slot ≢ None
  pub whole : runner.batch_size ≤ length (outbox_to runner.node to).items

-- so it is for some node
abbrev pub IsHeldUp : Runner → Type 0
IsHeldUp runner = (to : ℕ) × HoldsUp runner to

-- It has expanded the next settlement, just where there is one.
pub record ExpandsOne (old new : Runner) (did : Bool) : Type 0 where
  pub goes : GoesOn old new
  pub endpoint : new.endpoint ≡ old.endpoint
  pub done : (did ≡ false) ↔ (old.node.expanded ≡ length old.node.history.settlements)
  pub expanded : did ≡ true → IsExpanded old.node new.node
  pub nothing : did ≡ false → new.node ≡ old.node

-- on which level the next settlement of the node is, where it has one
abbrev pub IsLevel : NodeView → Option ℕ → Type 0
IsLevel node level = MatchOption level (node.expanded ≡ length node.history.settlements) (λ some. HasLevel node some)

-- the next settlement of the node is above that level
abbrev pub IsAbove : ℕ → NodeView → Type 0
IsAbove limit node = (level : ℕ) × HasLevel node level × (limit < level)

-- those that the node has expanded in between aren't
abbrev pub ExpandsUpTo : ℕ → NodeView → NodeView → Type 0
ExpandsUpTo limit old new = (number : ℕ) (s : Settlement) → old.expanded ≤ number → number < new.expanded →
    slice_get new.history.settlements number ≡ Some s → level_of s ≤ limit

-- It has said on which level it is, and learned which is the highest that it may expand, as it was told of the others.
pub record HearsLimit (old new : Runner) (limit : ℕ) : Type 0 where
  pub goes : GoesOn old new
  pub node : new.node ≡ old.node
  pub endpoint : new.endpoint ≡ old.endpoint
  pub limit_is : IsLimitFor new.pace limit

-- It has expanded settlements, none above that level, just where it isn't held up and the next one isn't above it.
pub record ExpandsSome (limit : ℕ) (old new : Runner) (did : Bool) : Type 0 where
  pub goes : GoesOn old new
  pub endpoint : new.endpoint ≡ old.endpoint
  pub done : (did ≡ false) ↔ (IsHeldUp old ⊎ IsAbove limit old.node ⊎ (old.node.expanded ≡ length old.node.history.settlements))
  pub expanded : did ≡ true → old.node.expanded < new.node.expanded
  pub within : ExpandsUpTo limit old.node new.node
  pub nothing : did ≡ false → new.node ≡ old.node

-- It has applied all its own items, and none is left; whether there was any.
pub record AppliesAllOwn (old new : Runner) (did : Bool) : Type 0 where
  pub goes : GoesOn old new
  pub endpoint : new.endpoint ≡ old.endpoint
  pub done : (did ≡ false) ↔ (old.node.own ≡ [])
  pub none : new.node.own ≡ []

-- ---- taking

-- The inbox gave at most one batch. One more was worked in; or none was, and the slot is empty only where the inbox was.
pub record IsWorkedIn (did : Bool) (before after : Inlet) : Type 0 where
  pub few : length (taken_by after.end) ≤ length (taken_by before.end) + 1
  pub one : did ≡ true → (batch : BatchView) × (worked after ≡ worked before ++ batch ∷ [])
  pub none : did ≡ false → worked after ≡ worked before
  pub empty : did ≡ false → after.slot ≡ None → WasEmpty (taken_by after.end) (take_told after.end)

-- Why a batch wasn't worked in: what lies in the slot, if anything, is none that another node cut for this one; or it is one, and
-- the board doesn't say that it was posted.
abbrev pub IsUnwanted : Runner → Runner → Type 0
IsUnwanted old new = let seat = old.endpoint.seat in
    ((from : ℕ) → ¬ HoldsFor old.family seat.nodes from seat.node new.endpoint.inlet)
    ⊎ ((from : ℕ) × (seen : ℕ) × HoldsFor old.family seat.nodes from seat.node new.endpoint.inlet × TakesNone seat new.endpoint.seat from seen)

-- It has taken from its inbox, and nothing has changed of what it sends; where nothing was worked in its node is as it was, and
-- there is a reason.
pub record RunnerTakesBatch (old new : Runner) (did : Bool) : Type 0 where
  pub goes : GoesOn old new
  pub taken : IsWorkedIn did old.endpoint.inlet new.endpoint.inlet
  pub outlets : new.endpoint.outlets.items ≡ old.endpoint.outlets.items
  pub nothing : did ≡ false → IsUnchanged old.node new.node
  pub unwanted : did ≡ false → IsUnwanted old new

-- No memory was found for a batch that is for the node: it lies in the taking slot, nothing was worked in, nothing has changed of
-- what it sends, and its node is as it was.
pub record LeavesBatch (old new : Runner) : Type 0 where
  pub from : ℕ
  pub holds : HoldsFor old.family old.endpoint.seat.nodes from old.endpoint.seat.node new.endpoint.inlet
  pub uncounted : worked new.endpoint.inlet ≡ worked old.endpoint.inlet
  pub outlets : new.endpoint.outlets.items ≡ old.endpoint.outlets.items
  pub node : IsUnchanged old.node new.node

-- ---- sending

-- there is a whole batch to send to the node, or anything where small ones are asked for
abbrev pub HasToSend : Runner → ℕ → Bool → Type 0
HasToSend runner to small =
    ((outbox_to runner.node to).items ≢ []) × ((runner.batch_size ≤ length (outbox_to runner.node to).items) ⊎ (small ≡ true))

-- and nothing lies in the slot for it
abbrev pub IsToFill : Runner → ℕ → Bool → Type 0
IsToFill runner to small = HasToSend runner to small × ((outlet : Outlet) → slice_get runner.endpoint.outlets.items to ≡ Some outlet → outlet.slot ≡ None)

-- the batch was offered behind the others, and lies in the slot
abbrev pub IsMoreOut : BatchView → Outlet → Outlet → Type 0
IsMoreOut batch before after = (after.end ≡ before.end) × (offered after ≡ offered before ++ batch ∷ [])

-- It has cut a batch for that node, or changed nothing.
pub record CutsFor (to : ℕ) (old new : Runner) (did : Bool) : Type 0 where
  pub goes : GoesOn old new
  pub one : did ≡ true → (batch : BatchView) × HasChangedOne (IsMoreOut batch) to old.endpoint.outlets.items new.endpoint.outlets.items
  pub nothing : did ≡ false → (new.node ≡ old.node) × (new.endpoint ≡ old.endpoint)
  pub own : new.node.own ≡ old.node.own
  pub others : (j : ℕ) → j ≢ to → outbox_to new.node j ≡ outbox_to old.node j
  pub inlet : new.endpoint.inlet ≡ old.endpoint.inlet

-- it has, just where something was left to send to it
abbrev pub CutsLeft : ℕ → Runner → Runner → Bool → Type 0
CutsLeft to old new did = CutsFor to old new did × ((did ≡ false) ↔ ((outbox_to old.node to).items ≡ []))

-- it has, just where the slot was to be filled
abbrev pub FillsFor : ℕ → Bool → Runner → Runner → Bool → Type 0
FillsFor to small old new did = CutsFor to old new did × ((did ≡ true) ↔ IsToFill old to small)

-- At most one batch more was offered to the outlet's inbox, which took one, and then the slot is empty, or none; and then the
-- slot is empty only where the runner has nothing to send to the node, and else the inbox was full.
pub record IsSent (small : Bool) (to : ℕ) (runner : Runner) (did : Bool) (before after : Outlet) : Type 0 where
  pub few : length (offered after) ≤ length (offered before) + 1
  pub one : did ≡ true → (batch : BatchView) × (sent_by after.end ≡ sent_by before.end ++ batch ∷ []) × (after.slot ≡ None)
  pub none : did ≡ false → sent_by after.end ≡ sent_by before.end
  pub spent : did ≡ false → after.slot ≡ None → ¬ HasToSend runner to small
  pub full : did ≡ false → after.slot ≢ None → IsFull after

-- one batch more went into the inbox of that node
abbrev pub HasSentOne : ℕ → List Outlet → List Outlet → Type 0
HasSentOne to old new = (before : Outlet) × (after : Outlet) × (slice_get old to ≡ Some before) × (slice_get new to ≡ Some after) ×
    (length (sent_by after.end) ≡ length (sent_by before.end) + 1)

-- It has sent to that node, if that is another one, and nothing has changed of the other links.
pub record SendsTo (to : ℕ) (small : Bool) (old new : Runner) (did : Bool) : Type 0 where
  pub goes : GoesOn old new
  pub itself : to ≡ old.endpoint.seat.node → (did ≡ false) × (new.endpoint.outlets.items ≡ old.endpoint.outlets.items)
  pub sent : to ≢ old.endpoint.seat.node → (before after : Outlet) → slice_get old.endpoint.outlets.items to ≡ Some before →
      slice_get new.endpoint.outlets.items to ≡ Some after → IsSent small to new did before after
  pub some : did ≡ true → HasSentOne to old.endpoint.outlets.items new.endpoint.outlets.items
  pub own : new.node.own ≡ old.node.own
  pub outboxes : (j : ℕ) → j ≢ to → outbox_to new.node j ≡ outbox_to old.node j
  pub others : (j : ℕ) → j ≢ to → slice_get new.endpoint.outlets.items j ≡ slice_get old.endpoint.outlets.items j
  pub inlet : new.endpoint.inlet ≡ old.endpoint.inlet

-- It has sent to each of the other nodes below a number, just where one more went to one of them, and nothing has changed of the
-- other links.
pub record SendsBelow (upto : ℕ) (small : Bool) (old new : Runner) (did : Bool) : Type 0 where
  pub goes : GoesOn old new
  pub sent : (to : ℕ) → to < upto → to ≢ old.endpoint.seat.node → (before after : Outlet) → slice_get old.endpoint.outlets.items to ≡ Some before →
      slice_get new.endpoint.outlets.items to ≡ Some after → (one : Bool) × IsSent small to new one before after × (one ≡ true → did ≡ true)
  pub some : did ≡ true → (to : ℕ) × (to < upto) × HasSentOne to old.endpoint.outlets.items new.endpoint.outlets.items
  pub itself : slice_get new.endpoint.outlets.items old.endpoint.seat.node ≡ slice_get old.endpoint.outlets.items old.endpoint.seat.node
  pub own : new.node.own ≡ old.node.own
  pub later : (j : ℕ) → upto ≤ j → slice_get new.endpoint.outlets.items j ≡ slice_get old.endpoint.outlets.items j
  pub inlet : new.endpoint.inlet ≡ old.endpoint.inlet

-- so it has to each of them
abbrev pub SendsAll : Bool → Runner → Runner → Bool → Type 0
SendsAll small old new did = SendsBelow old.endpoint.seat.nodes small old new did

-- ---- all of it

-- to each node at most so many batches more were offered, and so many came out of the inbox
pub record AddsFew (count : ℕ) (old new : Endpoint) : Type 0 where
  pub out : (j : ℕ) (before after : Outlet) → slice_get old.outlets.items j ≡ Some before → slice_get new.outlets.items j ≡ Some after →
      length (offered after) ≤ length (offered before) + count
  pub into : length (taken_by new.inlet.end) ≤ length (taken_by old.inlet.end) + count

-- Batches that aren't whole are due too: the node took nothing and has nothing left to expand; or what it has is above the level up to
-- which it expands, or above that of the node before.
abbrev pub SendsSmall : Bool → ℕ → NodeView → NodeView → Type 0
SendsSmall took limit before node =
    ((took ≡ false) × (node.expanded ≡ length node.history.settlements)) ⊎ IsAbove limit node
    ⊎ ((level : ℕ) × HasLevel before level × IsAbove level node)

-- It has done a turn's work: it took from its inbox, expanded settlements up to the level that its pace allows, applied all its own items and sent, and
-- also batches that aren't whole just where these are due; and it did something just where one of these did.
-- So none of its own items is left, and over each link at most one batch more went.
pub record Works (old new : Runner) (did : Bool) : Type 0 where
  pub goes : GoesOn old new
  pub none : new.node.own ≡ []
  pub few : AddsFew 1 old.endpoint new.endpoint
  pub took : Bool
  pub expanded : Bool
  pub applied : Bool
  pub sent : Bool
  pub small : Bool
  pub limit : ℕ
  pub taker : Runner
  pub hearer : Runner
  pub expander : Runner
  pub sender : Runner
  pub takes : RunnerTakesBatch old taker took
  pub hears : HearsLimit taker hearer limit
  pub expands : ExpandsSome limit hearer expander expanded
  pub applies : AppliesAllOwn expander sender applied
  pub sends : SendsAll small sender new sent
  pub is_small : IsTrue small ↔ SendsSmall took limit taker.node sender.node
  pub is_done : did ≡ (took || expanded || applied || sent)
