-- Runners, and what their steps make of them.
use Rattle.std.specs.Prelude.{◌≡◌, ◌≢◌, ◌↔◌, ◌⊎◌, ⊤, ℕ, ◌^◌, ◌≤◌, ◌++◌, List, [], Bool, Option, Some, None, Err, Result, MatchResult, true, false, slice_get}
use Rattle.dob_pieces.specs.declared.profile.Family.{Family}
use Rattle.dob_share.specs.declared.opening.Opening.{Opening}
use Rattle.dob_board.specs.declared.halt.Halt.TheVariants.{Running, Ended}
use Rattle.dob_board.specs.Seats.{MovesNothing}
use Rattle.dob_share.specs.declared.cause.Cause.{Cause}
use Rattle.dob_share.specs.declared.cause.Cause.TheVariants.{TooDeep, Contradiction, Memory, Held, Counts}
use Rattle.dob_node.specs.declared.node.Node.{Node}
use Rattle.dob_history.specs.Openings.{AreOpenings}
use Rattle.dob_node.specs.Nodes.{outbox_to, HasItemFault, HasTakenBefore, IsIdle, IsSound, IsOpened}
use Rattle.dob_update.specs.Batches.{BatchView}
use Rattle.dob_endpoint.specs.declared.slots.Outlet.{Outlet}
use Rattle.dob_endpoint.specs.declared.endpoint.Endpoint.{Endpoint}
use Rattle.dob_runner.specs.Batches.{IsBatchFor}
use Rattle.dob_endpoint.specs.Links.{offered, worked}
use Rattle.dob_runner.specs.LawfulRunners.{items_worked}
use Rattle.dob_runner.specs.declared.runner.Runner.{Runner}
use Rattle.dob_endpoint.specs.Endpoints.{AreOut}
use Rattle.dob_runner.specs.Paces.{kept_member}
use Rattle.dob_endpoint.specs.Keeps.{KeepsEndpoint, HasSameLinksAndColour}

-- The runner keeps its place in its crew and in the crew's pace, and nothing that went over its links is taken back.
pub record KeepsRunner (old new : Runner) : Type 0 where
  pub endpoint : KeepsEndpoint old.endpoint new.endpoint
  pub family : new.family ≡ old.family
  pub batch_size : new.batch_size ≡ old.batch_size
  pub pace : kept_member new.pace ≡ kept_member old.pace

-- it has done something and goes on, and didn't move the token or announce the end
pub record GoesOn (old new : Runner) : Type 0 where
  pub keeps : KeepsRunner old new
  pub unfailed : new.failed ≡ None
  pub halt : new.endpoint.seat.stand.halt ≡ old.endpoint.seat.stand.halt
  pub still : MovesNothing old.endpoint.seat new.endpoint.seat

-- it goes on, or its seat has found that the run doesn't
pub record GoesRound (old new : Runner) : Type 0 where
  pub keeps : KeepsRunner old new
  pub unfailed : new.failed ≡ None

-- It is noted why the endpoint's node failed, and its seat has said so: the seat moved no token, and found that the run goes on no more, or, if
-- the node was white, maybe its end.
pub record FailsFor (old new : Endpoint) (failed : Option Cause) (why : Cause) : Type 0 where
  pub cause : failed ≡ Some why
  pub still : MovesNothing old.seat new.seat
  pub keeps : HasSameLinksAndColour old new
  pub stopped : new.seat.stand.halt ≢ Running
  pub black : old.seat.stand.black ≡ true → new.seat.stand.halt ≢ Ended

-- it has failed for that cause, and its seat has said so
pub record HasFailed (old new : Runner) (why : Cause) : Type 0 where
  pub keeps : KeepsRunner old new
  pub cause : new.failed ≡ Some why
  pub stopped : new.endpoint.seat.stand.halt ≢ Running

-- An item of the last batch that came from another node can't be applied, for that cause; just those before it were.
pub record HasRefused (runner : Runner) (why : Cause) : Type 0 where
  pub was : Runner
  pub going : was.failed ≡ None
  pub kept : KeepsRunner was runner
  pub batch : BatchView
  pub other : batch.from ≢ was.endpoint.seat.node
  pub fits : IsBatchFor was.family was.endpoint.seat.nodes was.endpoint.seat.node batch
  pub came : items_worked runner.endpoint.inlet batch.from ≡ items_worked was.endpoint.inlet batch.from ++ batch.items
  pub before : HasTakenBefore batch.items was.node runner.node why

-- the node has something to send to another one, for which it has cut 2^40 batches
pub record HasCutAll (runner : Runner) : Type 0 where
  pub to : ℕ
  pub other : to ≢ runner.endpoint.seat.node
  pub left : (outbox_to runner.node to).items ≢ []
  pub many : 2 ^ 40 ≤ (outbox_to runner.node to).next

-- Why a runner has failed, with a gate that may say no to some nodes: an item can't be applied, the first of its own or one
-- that came; it has cut too many batches; or the gate said no. Of lack of memory nothing is said.
abbrev pub IsReasonFor : (ℕ → Type 0) → Runner → Cause → Type 0
IsReasonFor No runner TooDeep = HasItemFault runner.node TooDeep ⊎ HasRefused runner TooDeep
IsReasonFor No runner (Contradiction class) = HasItemFault runner.node (Contradiction class) ⊎ HasRefused runner (Contradiction class)
IsReasonFor No runner Memory = ⊤
IsReasonFor No runner Held = No runner.endpoint.seat.node
IsReasonFor No runner Counts = HasCutAll runner

-- one that has failed has a reason
abbrev pub IsReasoned : (ℕ → Type 0) → Runner → Type 0
IsReasoned No runner = (why : Cause) → runner.failed ≡ Some why → IsReasonFor No runner why

-- no gate says no
abbrev pub no_gate : ℕ → Type 0
no_gate node = ⊥

-- a gate that may answer so said no
abbrev pub says_no : (ℕ → Bool → Type 0) → ℕ → Type 0
says_no Says node = Says node false

-- The gate was asked of the node, and the answer is that it was held back just where the gate said no.
abbrev pub GateIsAsked : {A : Type 0} → (ℕ → Bool → Type 0) → ℕ → Result A Cause → Type 0
GateIsAsked {A} Says node result = (yes : Bool) × Says node yes × ((yes ≡ false) ↔ (result ≡ Err Held))

-- its node has failed for that cause, with a reason of its own; and it didn't move the token or announce the end
pub record HasBroken (old new : Runner) (why : Cause) : Type 0 where
  pub failed : HasFailed old new why
  pub still : MovesNothing old.endpoint.seat new.endpoint.seat
  pub reason : IsReasonFor no_gate new why

-- it was held back: its node, its links and its colour are as they were
pub record IsHeldBack (old new : Runner) : Type 0 where
  pub node : new.node ≡ old.node
  pub endpoint : HasSameLinksAndColour old.endpoint new.endpoint

-- the gate said no: the runner gave up for that, and moved no token
pub record IsTurnedAway (old new : Runner) : Type 0 where
  pub failed : HasFailed old new Held
  pub still : MovesNothing old.endpoint.seat new.endpoint.seat
  pub same : IsHeldBack old new

-- a step of a runner: it has done that and answers so, or its node has failed
abbrev pub StepsBy : {A : Type 0} → (Runner → Runner → A → Type 0) → Runner → Runner → Result A Cause → Type 0
StepsBy {A} Did old new result = MatchResult result (λ answer. Did old new answer) (λ why. HasBroken old new why)

-- The runner has nothing to expand, to apply or to send, and no batch in a slot.
pub record IsAtRest (runner : Runner) : Type 0 where
  pub idle : IsIdle runner.node
  pub sent : AreOut runner.endpoint.outlets.items
  pub worked : runner.endpoint.inlet.slot ≡ None

-- The node was opened for the family and has made no step, and nothing has gone over the endpoint of its seat.
pub record IsNew (family : Family) (node : Node) (endpoint : Endpoint) : Type 0 where
  pub openings : List Opening
  pub are_openings : AreOpenings family openings
  pub opened : IsOpened openings family endpoint.seat.node endpoint.seat.nodes node
  pub sound : IsSound node
  pub black : endpoint.seat.stand.black ≡ true
  pub running : endpoint.seat.stand.halt ≡ Running
  pub unsent : (to : ℕ) (outlet : Outlet) → slice_get endpoint.outlets.items to ≡ Some outlet → offered outlet ≡ []
  pub untaken : worked endpoint.inlet ≡ []
