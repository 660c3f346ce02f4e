-- That a runner is lawful has one proof at most.
use Rattle.std.specs.Prelude.{ℕ, suc, ◌<◌, List, Option}
use Rattle.std.specs.List.{All}
use Rattle.std.specs.Coded.{Coded-set, coded_ℕ, coded_list, coded_option, ×_prop, Π_prop, Unit-prop, le_prop}
use Rattle.dob_moves.specs.contracts.position_status.Status as status_row
use Rattle.dob_distance.specs.contracts.value.Value as value_row
use Rattle.dob_pieces.specs.contracts.profile.Family as family_row
use Rattle.dob_share.specs.contracts.news.Item as item_row
use Rattle.dob_update.specs.contracts.batch.Batch as batch_row
use Rattle.dob_pieces.specs.declared.profile.Family.{Family}
use Rattle.dob_distance.specs.declared.value.Value.{Value}
use Rattle.dob_distance.specs.declared.value.Value.TheVariants.{Win, Loss, Draw}
use Rattle.dob_distance.specs.Codes.{IsEntry}
use Rattle.dob_share.specs.declared.news.Item.{Item}
use Rattle.dob_rank.specs.Families.{classes_of}
use Rattle.dob_moves.specs.declared.position_status.Status.{Status}
use Rattle.dob_share.specs.declared.news.Settlement.{Settlement}
use Rattle.dob_share.specs.declared.share.Share.{Share}
use Rattle.dob_share.specs.Cells.{Cell, SameCell}
use Rattle.dob_share.specs.Values.{Better}
use Rattle.dob_share.specs.Shares.{IsOwn, cell_at}
use Rattle.dob_update.specs.Batches.{BatchView, OutboxView}
use Rattle.dob_history.specs.Histories.{IsNext, IsChained}
use Rattle.dob_node.specs.declared.node.Node.{Node}
use Rattle.dob_history.specs.Stores.{HistoryView}
use Rattle.dob_history.specs.TakenItems.{HasParities, AreKept}
use Rattle.dob_node.specs.Outboxes.{IsOutboxTo}
use Rattle.dob_node.specs.Nodes.{outbox_to, IsSound, IsIdle}
use Rattle.dob_board.specs.Props.{ℕ-set}
use Rattle.dob_endpoint.specs.declared.slots.Outlet.{Outlet}
use Rattle.dob_endpoint.specs.declared.endpoint.Endpoint.{Endpoint}
use Rattle.dob_endpoint.specs.Links.{offered}
use Rattle.dob_endpoint.specs.Endpoints.{AreOut}
use Rattle.dob_runner.specs.Knows.{AreCellsSummed, KnowsRight}
use Rattle.dob_runner.specs.LawfulRunners.{SendsRight, IsLawfulRunner, applied_from}

items_set : IsSet (List Item)
items_set = Coded-set (coded_list item_row.the_row.coded)

slot_set : IsSet (Option BatchView)
slot_set = Coded-set (coded_option batch_row.the_row.coded)

family_set : IsSet Family
family_set = Coded-set family_row.the_row.coded

All-prop : {X : Type 0} (P : X → Type 0) → ((x : X) → IsProp (P x)) → (xs : List X) → IsProp (All P xs)
All-prop P each xs = Π_prop (λ k. Π_prop (λ d. Π_prop (λ _. each _)))

IsEntry-prop : (v : Value) → IsProp (IsEntry v)
IsEntry-prop (Win plies) = ×_prop (ℕ-set _ _) le_prop
IsEntry-prop (Loss plies) = ×_prop (ℕ-set _ _) le_prop
IsEntry-prop Draw = Unit-prop

IsOwn-prop : (share : Share) (class : ℕ) → IsProp (IsOwn share class)
unfolding IsOwn
IsOwn-prop share class = ×_prop (ℕ-set _ _) le_prop

HasParities-prop : (cell : Cell) → IsProp (HasParities cell)
HasParities-prop cell a b = λ i. record {
  wins = Π_prop (λ plies. Π_prop (λ _. ℕ-set _ _)) a.wins b.wins i;
  least = Π_prop (λ plies. Π_prop (λ _. ℕ-set _ _)) a.least b.least i;
}

AreKept-prop : (family : Family) (n id : ℕ) (share : Share) (history : HistoryView) → IsProp (AreKept family n id share history)
AreKept-prop family n id share history a b = λ i. record {
  share_is = ×_prop (ℕ-set _ _) (ℕ-set _ _) a.share_is b.share_is i;
  history_is = ×_prop (ℕ-set _ _) (ℕ-set _ _) a.history_is b.history_is i;
  one_of_n = le_prop a.one_of_n b.one_of_n i;
  few = le_prop a.few b.few i;
  owned = Π_prop (λ class. ×_prop (Π_prop (λ _. ×_prop (ℕ-set _ _) le_prop)) (Π_prop (λ _. IsOwn-prop share class))) a.owned b.owned i;
  counted = ℕ-set _ _ a.counted b.counted i;
  classes = All-prop (λ (s : Settlement). s.class < classes_of family) (λ s. le_prop {n = suc s.class} {m = classes_of family}) history.settlements a.classes b.classes i;
  parities = Π_prop (λ class. Π_prop (λ _. HasParities-prop (cell_at share class))) a.parities b.parities i;
}

IsOutboxTo-prop : (family : Family) (n from to : ℕ) (outbox : OutboxView) → IsProp (IsOutboxTo family n from to outbox)
IsOutboxTo-prop family n from to outbox a b = λ i. record {
  of = (family_set _ _ a.of.0 b.of.0 i, ℕ-set _ _ a.of.1 b.of.1 i, ℕ-set _ _ a.of.2 b.of.2 i, ℕ-set _ _ a.of.3 b.of.3 i);
}

pub IsSound-prop : (node : Node) → IsProp (IsSound node)
IsSound-prop node a b = λ i. record {
  kept = AreKept-prop node.family node.n node.id node.share node.history a.kept b.kept i;
  emitted = le_prop a.emitted b.emitted i;
  receivers = ℕ-set _ _ a.receivers b.receivers i;
  addressed = Π_prop (λ to. IsOutboxTo-prop node.family node.n node.id to (outbox_to node to)) a.addressed b.addressed i;
  nothing_to_self = items_set _ _ a.nothing_to_self b.nothing_to_self i;
}

IsIdle-prop : (node : Node) → IsProp (IsIdle node)
IsIdle-prop node a b = λ i. record {
  expanded = ℕ-set _ _ a.expanded b.expanded i;
  applied = items_set _ _ a.applied b.applied i;
  sent = Π_prop (λ to. items_set _ _) a.sent b.sent i;
}

SendsRight-prop : (node : Node) (size to : ℕ) (batches : List BatchView) → IsProp (SendsRight node size to batches)
SendsRight-prop node size to batches a b = λ i. record {
  items = items_set _ _ a.items b.items i;
  cut = ℕ-set _ _ a.cut b.cut i;
  small = Π_prop (λ k. Π_prop (λ batch. Π_prop (λ _. le_prop))) a.small b.small i;
}

AreOut-prop : (outlets : List Outlet) → IsProp (AreOut outlets)
AreOut-prop outlets = Π_prop (λ to. Π_prop (λ outlet. Π_prop (λ _. slot_set _ _)))

status_set : IsSet Status
status_set = Coded-set status_row.the_row.coded

value_set : IsSet Value
value_set = Coded-set value_row.the_row.coded

least_set : IsSet (Option ℕ)
least_set = Coded-set (coded_option coded_ℕ)

batches_set : IsSet (List BatchView)
batches_set = Coded-set (coded_list batch_row.the_row.coded)

Better-prop : (was now : Value) → IsProp (Better was now)
Better-prop Draw (Win now) = Unit-prop
Better-prop Draw (Loss now) = Unit-prop
Better-prop (Win was) (Win now) = le_prop
Better-prop (Loss was) (Loss now) = le_prop
Better-prop Draw Draw = λ a b. absurd a
Better-prop (Win was) (Loss now) = λ a b. absurd a
Better-prop (Win was) Draw = λ a b. absurd a
Better-prop (Loss was) (Win now) = λ a b. absurd a
Better-prop (Loss was) Draw = λ a b. absurd a

IsNext-prop : (classes n id : ℕ) (history : List Settlement) (s : Settlement) → IsProp (IsNext classes n id history s)
IsNext-prop classes n id history s a b = λ i. record {
  number = ℕ-set _ _ a.number b.number i;
  below = le_prop a.below b.below i;
  own = ℕ-set _ _ a.own b.own i;
  was = value_set _ _ a.was b.was i;
  better = Better-prop s.was s.now a.better b.better i;
}

IsChained-prop : (classes n id : ℕ) (history : List Settlement) → IsProp (IsChained classes n id history)
IsChained-prop classes n id history = Π_prop (λ before. Π_prop (λ s. Π_prop (λ behind. Π_prop (λ _. IsNext-prop classes n id before s))))

SameCell-prop : (x y : Cell) → IsProp (SameCell x y)
SameCell-prop x y a b = λ i. record {
  left = ℕ-set _ _ a.left b.left i;
  wins = Π_prop (λ plies. ℕ-set _ _) a.wins b.wins i;
  least = least_set _ _ a.least b.least i;
}

AreSummed-prop : (family : Family) (n id : ℕ) (share : Share) (applied : ℕ → List Item) → IsProp (AreCellsSummed family n id share applied)
AreSummed-prop family n id share applied =
    Π_prop (λ histories. Π_prop (λ _. Π_prop (λ class. Π_prop (λ _. Π_prop (λ _. Π_prop (λ _. SameCell-prop _ _))))))

KnowsRight-prop : (family : Family) (n id : ℕ) (share : Share) (history : List Settlement) (applied : ℕ → List Item) →
    IsProp (KnowsRight family n id share history applied)
KnowsRight-prop family n id share history applied a b = λ i. record {
  chained = IsChained-prop (classes_of family) n id history a.chained b.chained i;
  entries = All-prop (λ (s : Settlement). IsEntry s.now) (λ (s : Settlement). IsEntry-prop s.now) history a.entries b.entries i;
  statuses = Π_prop (λ class. Π_prop (λ status. Π_prop (λ _. Π_prop (λ _. Π_prop (λ _. status_set _ _))))) a.statuses b.statuses i;
  values = Π_prop (λ class. Π_prop (λ value. Π_prop (λ _. Π_prop (λ _. Π_prop (λ _. value_set _ _))))) a.values b.values i;
  sums = AreSummed-prop family n id share applied a.sums b.sums i;
}

pub IsLawfulRunner-prop : (family : Family) (size : ℕ) (node : Node) (endpoint : Endpoint) → IsProp (IsLawfulRunner family size node endpoint)
IsLawfulRunner-prop family size node endpoint a b = λ i. record {
  of = (family_set _ _ a.of.0 b.of.0 i, ℕ-set _ _ a.of.1 b.of.1 i, ℕ-set _ _ a.of.2 b.of.2 i);
  sound = IsSound-prop node a.sound b.sound i;
  sends = Π_prop (λ to. Π_prop (λ outlet. Π_prop (λ _. Π_prop (λ _. SendsRight-prop node size to (offered outlet))))) a.sends b.sends i;
  unused = Π_prop (λ outlet. Π_prop (λ _. batches_set _ _)) a.unused b.unused i;
  own = items_set _ _ a.own b.own i;
  knows = KnowsRight-prop node.family node.n node.id node.share node.history.settlements (applied_from node endpoint.inlet) a.knows b.knows i;
  white = Π_prop (λ _. ×_prop (IsIdle-prop node) (AreOut-prop endpoint.outlets.items)) a.white b.white i;
}
