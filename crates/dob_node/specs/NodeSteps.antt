-- What each step of a node answers and makes of it, and what every step keeps.
use Rattle.std.specs.Prelude.{◌≡◌, ◌≢◌, ℕ, ◌^◌, ◌<◌, ◌≤◌, ◌↔◌, ◌⊎◌, List, [], length, Bool, true, false}
use Rattle.std.specs.Prelude.{Option, None, Some, Result, Ok, Err, IfOk, IfErr, IfSome, OnOk, OnErr}
use Rattle.dob_share.specs.declared.news.Item.{Item}
use Rattle.dob_update.specs.Batches.{BatchView}
use Rattle.dob_share.specs.declared.cause.Cause.{Cause}
use Rattle.dob_share.specs.declared.cause.Cause.TheVariants.{Memory, Counts}
use Rattle.dob_node.specs.NodeViews.{NodeView}
use Rattle.dob_history.specs.TakenItems.{StopsAt}
use Rattle.dob_node.specs.Nodes.{outbox_to, IsSound, IsExpanded, HasApplied, HasAppliedItems, HasItemFault, HasTaken, HasTakenBefore, HasCut, IsUnchanged}

-- The node is sound after a step, and has failed for the cause that the step answers, and for none where it answers Ok.
pub record Keeps {T : Type 0} (result : Result T Cause) (new : NodeView) : Type 0 where
  pub sound : IsSound new
  pub going : OnOk result (new.failed ≡ None)
  pub failed : IfErr result (λ why. new.failed ≡ Some why)

-- The first settlement that isn't expanded is, where there is one. Only memory can lack for it.
pub record Expands (result : Result Bool Cause) (old new : NodeView) : Type 0 where
  pub done : (result ≡ Ok false) ↔ (old.expanded ≡ length old.history.settlements)
  pub nothing : result ≡ Ok false → new ≡ old
  pub expanded : result ≡ Ok true → IsExpanded old new
  pub memory : IfErr result (λ why. why ≡ Memory)
  pub unchanged : OnErr result (IsUnchanged old new)

-- The first of the own items is applied, where there is one.
pub record AppliesOwn (result : Result Bool Cause) (old new : NodeView) : Type 0 where
  pub done : (result ≡ Ok false) ↔ (old.own ≡ [])
  pub nothing : result ≡ Ok false → new ≡ old
  pub applied : result ≡ Ok true → HasApplied old new
  pub stopped : IfErr result (λ why. HasItemFault old why)
  pub unchanged : OnErr result (IsUnchanged old new)

-- The own items are applied in order, all of them, or those before one that can't be, which then is the first.
pub record AppliesEveryOwn (result : Result (Unit {0}) Cause) (old new : NodeView) : Type 0 where
  pub items : List Item
  pub applied : HasAppliedItems items old new
  pub all : OnOk result (new.own ≡ [])
  pub stopped : IfErr result (λ why. HasItemFault new why)

-- The items are applied in order, or those before one that can't be; memory never lacks where there is room for so many.
pub record AppliesAll (items : List Item) (result : Result (Unit {0}) Cause) (old new : NodeView) : Type 0 where
  pub taken : OnOk result (HasTaken items old new)
  pub all : OnOk result (new.taken ≡ length items)
  pub stopped : IfErr result (λ why. StopsAt items old.share old.history why)
  pub before : IfErr result (λ why. HasTakenBefore items old new why)
  pub memory : result ≡ Err Memory → IsUnchanged old new × (old.history.room < length items)

-- The history has room for so many settlements, if memory doesn't lack. Nothing else has changed.
pub record MakesRoom (items : ℕ) (result : Result (Unit {0}) Cause) (old new : NodeView) : Type 0 where
  pub room : OnOk result (items ≤ new.history.room)
  pub memory : IfErr result (λ why. why ≡ Memory)
  pub unchanged : IsUnchanged old new

-- A batch for that node is cut, where something is left to send to it; where 2 to the power of 40 batches were cut before, none is.
pub record Cuts (to size : ℕ) (result : Result (Option BatchView) Cause) (old new : NodeView) : Type 0 where
  pub none : (result ≡ Ok None) ↔ ((outbox_to old to).items ≡ [])
  pub nothing : result ≡ Ok None → new ≡ old
  pub cut : IfOk result (λ given. IfSome given (λ batch. HasCut to size batch old new))
  pub counts : (result ≡ Err Counts) ↔ (((outbox_to old to).items ≢ []) × (2 ^ 40 ≤ (outbox_to old to).next))
  pub why : IfErr result (λ why. (why ≡ Counts) ⊎ (why ≡ Memory))
  pub unchanged : OnErr result (IsUnchanged old new)
