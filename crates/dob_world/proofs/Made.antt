-- Own items applied, and batches taken and posted, where a world stands: the event was possible, it happened, and the world stands on;
-- or why its node stops.
use Rattle.dob_world.proofs.Common.{◌++◌, ◌<◌, ◌∙◌, ◌∷◌, ◌≡◌, ◌≢◌, ◌⊎◌, List, None, [], ap, append_assoc, cond, drop, inl, inr, length, nat_lt, refl, set}
use Rattle.dob_world.proofs.Common.{subst, sym, take, ℕ, append-nil, All-append, All-cons, All-nil, All-tail, All, one_status, HasStatus, Status}
use Rattle.dob_world.proofs.Common.{Open, class_setup, classes_of, predecessors, Moved, Ring, Cell, CellCanTake, fresh, owner_of, cell_at, status_at}
use Rattle.dob_world.proofs.Common.{Item, Share, BatchView, OutboxView, items_of_batches, items_from, Cause, Stopped, kept_sound, outbox_same, CanApply}
use Rattle.dob_world.proofs.Common.{HasItemFault, HasTaken, IsSound, IsUnchanged, outbox_to, HistoryView, AreKept, AreTaken, IsReason, Node}
use Rattle.dob_world.proofs.Common.{AppliesItems, AppliesOwn, LinksStay, OtherLinksStay, Posts, Stays, TakesBatch, HasListed, HasReceivedFront, HasSentBatch}
use Rattle.dob_world.proofs.Common.{HasTakenBatch, IsBatchTo, LaneStays, LinkView, link_of, ring_of, nodes_shown, world_shown, IsNodeOf, Stand}
use Rattle.dob_world.proofs.Common.{IsCauseOf, IsLeftBy, TakesFront, Setting, WorldView, Detector, Own, Post, Take, Lane}
use Rattle.dob_safra.specs.declared.event.RingEvent.TheVariants as ring
use Rattle.dob_share.specs.Shares.{Fits, GoesTooDeep}
use Rattle.dob_share.specs.declared.cause.Cause.TheVariants as cause
use Rattle.dob_world.proofs.Firsts.{some_of}
use Rattle.dob_world.proofs.InPlace.{here, was, elsewhere, stays, stays_else, kept_of, AtLane, in_place, lane_here, lane_was, lane_else, lane_stays, set_there}
use Rattle.dob_world.proofs.InPlace.{unseen_at}
use Rattle.dob_world.proofs.Kept.{next_own, next_waiting, own_item_fits, taken_item_fits}
use Rattle.dob_world.proofs.Moves.{applies_one, applies_many, own_cell}
use Rattle.dob_world.proofs.Stood.{Outcome, state_at}

-- ---- nodes that are kept
node_after : {k : Setting} {i : ℕ} {node : Node} → IsNodeOf k i node → (after : Node) → IsSound after → after.failed ≡ None →
    (after.family ≡ node.family) × (after.id ≡ node.id) × (after.n ≡ node.n) × (after.expanded ≡ node.expanded) →
    ((class : ℕ) → status_at after.share class ≡ status_at node.share class) → IsNodeOf k i after
node_after {k} {i} is after sound going same statuses =
    let of : (after.family ≡ k.family) × (after.id ≡ i) × (after.n ≡ k.n) = (same.0 ∙ is.of.0, same.1 ∙ is.of.1, same.2 ∙ is.of.2) in
    record {
      sound = sound;
      going = going;
      of = of;
      statuses = λ class own. subst (λ (s : Status). HasStatus k.family.profile (class_setup k.family class) s) (sym (statuses class))
          (is.statuses class (((kept_of is).owned class).1 (((kept_sound k.family k.n i after of sound).owned class).0 own)));
    }

pub chain_statuses : (items : List Item) (share after : Share) (history grown : HistoryView) → AreTaken items share after history grown → (class : ℕ) →
    status_at after class ≡ status_at share class
chain_statuses [] share after history grown taken class = ap (λ (s : Share). status_at s class) taken.0
chain_statuses (item ∷ items) share after history grown taken class =
    chain_statuses items taken.0 after taken.1 grown taken.3 class ∙ taken.2.classes.statuses class

-- ---- an own item

module _ {k : Setting} {nodes : List Node} {lanes : List Lane} {detector : Detector} {steps i place : ℕ} {node : Node} {lane : Lane}
    (stand : Stand k nodes lanes detector steps) (at : AtLane k nodes lanes i i i place node lane) (after : Node) (next : Lane)
    (step : HasListed node lane after next) where
  own_first : (world_shown k.family k.n nodes lanes).own i ≡ step.applied.item ∷ after.own
  unfolding world_shown
  own_first = was at.node_at [] (λ (x : Node). x.own) ∙ step.applied.first

  owns : AppliesOwn k i (world_shown k.family k.n nodes lanes) (world_shown k.family k.n (set nodes i after) (set lanes place next))
  unfolding world_shown
  owns = record {
    item = step.applied.item;
    first = own_first ∙ ap (λ xs. step.applied.item ∷ xs) (sym (here at.node_at after [] (λ (x : Node). x.own)));
    applied = applies_one at after next stand.setting.nodes.0 step.applied.item
        (after.own ++ items_from (predecessors k.family) k.n i (drop ((world_shown k.family k.n nodes lanes).expanded i)
        ((world_shown k.family k.n nodes lanes).nodes.history i)))
        (kept_of at.node_of) step.applied.taken stand.lawful
        (next_own k (world_shown k.family k.n nodes lanes) i (step.applied.item ∷ after.own) stand.linked at.low_i own_first) step.listed;
    others = elsewhere at.node_at after [] (λ (x : Node). x.own);
    same = (
      stays at.node_at after 0 (λ (x : Node). x.expanded) step.applied.same.3,
      λ m l. stays at.node_at after [] (λ (x : Node). (outbox_to x l).items) (ap (λ (o : OutboxView). o.items)
          (outbox_same node after l step.applied.same.0 step.applied.same.1 step.applied.same.2 step.applied.outboxes)) m,
    );
    links = (
      lane_stays at after next [] (λ (x : Lane). x.link.waiting) (ap (λ (l : LinkView). l.waiting) step.same.0),
      lane_stays at after next [] (λ (x : Lane). x.sent.items) step.same.1,
    );
  }

  pub owned : IsSound after → after.failed ≡ None →
      Outcome k (state_at k nodes lanes detector) (Own i) (set nodes i after) (set lanes place next) (ring_of detector)
  owned sound going = record {
    can = (at.low_i, some_of owns.first);
    happens = (owns, refl);
    places = in_place at after next
        (node_after at.node_of after sound going step.applied.same step.applied.taken.classes.statuses)
        (record {
          capacity = ap (λ (l : LinkView). l.capacity) step.same.0 ∙ at.lane_of.capacity;
          batches = subst (λ (l : LinkView). All (IsBatchTo k.family k.n i) l.waiting) (sym step.same.0) at.lane_of.batches;
        });
  }

-- ---- a batch taken, in whole or up to an item

-- Of the first batch that waited on the lane the node has applied those items, which are its first, and the lane lists them.
pub record ReceivesFront (items : List Item) (node : Node) (lane : Lane) (after : Node) (next : Lane) : Type 0 where
  pub batch : BatchView
  pub behind : List Item
  pub items_are : batch.items ≡ items ++ behind
  pub first : lane.link ≡ link_of (batch ∷ next.link.waiting) next.link.capacity
  pub taken : HasTaken items node after
  pub listed : next.applied.items ≡ lane.applied.items ++ items
  pub same : next.sent.items ≡ lane.sent.items

abbrev pub whole_received : (node after : Node) (lane next : Lane) (step : HasTakenBatch node lane after next) → ReceivesFront step.batch.items node lane after next
whole_received node after lane next step = record {
  batch = step.batch;
  behind = [];
  items_are = sym (append-nil step.batch.items);
  first = step.first;
  taken = step.taken;
  listed = step.listed;
  same = step.same;
}

abbrev pub front_received : (node after : Node) (lane next : Lane) (why : Cause) (step : HasReceivedFront node lane after next why) →
    ReceivesFront step.taken.front node lane after next
front_received node after lane next why step = record {
  batch = step.batch;
  behind = step.taken.item ∷ step.taken.behind;
  items_are = step.taken.items_are;
  first = step.first;
  taken = step.taken.taken;
  listed = step.listed;
  same = step.same;
}

module _ {k : Setting} {nodes : List Node} {lanes : List Lane} {detector : Detector} {steps i j place : ℕ} {node : Node} {lane : Lane}
    (stand : Stand k nodes lanes detector steps) (at : AtLane k nodes lanes i j j place node lane) (differs : i ≢ j) (after : Node) (next : Lane) where
  abbrev before : WorldView
  before = world_shown k.family k.n nodes lanes

  abbrev later : WorldView
  later = world_shown k.family k.n (set nodes j after) (set lanes place next)

  module _ {items : List Item} (step : ReceivesFront items node lane after next) where
    waits_are : lane.link.waiting ≡ step.batch ∷ next.link.waiting
    waits_are = ap (λ (l : LinkView). l.waiting) step.first

    batches_are : All (IsBatchTo k.family k.n j) (step.batch ∷ next.link.waiting)
    batches_are = subst (λ bs. All (IsBatchTo k.family k.n j) bs) waits_are at.lane_of.batches

    pub waits_first : (world_shown k.family k.n nodes lanes).waiting i j ≡ step.batch ∷ next.link.waiting
    unfolding world_shown
    waits_first = lane_was at [] (λ (x : Lane). x.link.waiting) ∙ waits_are

    waits_left : later.waiting i j ≡ next.link.waiting
    unfolding world_shown
    waits_left = lane_here at after next [] (λ (x : Lane). x.link.waiting)

    others_wait : OtherLinksStay i j before.waiting later.waiting
    unfolding world_shown
    others_wait = lane_else at after next [] (λ (x : Lane). x.link.waiting)

    all_stay : Stays before.expanded later.expanded × Stays before.own later.own × LinksStay before.outbox later.outbox × LinksStay before.sent later.sent
    unfolding world_shown
    all_stay = (
      stays at.node_at after 0 (λ (x : Node). x.expanded) step.taken.same.3,
      stays at.node_at after [] (λ (x : Node). x.own) step.taken.own,
      λ m l. stays at.node_at after [] (λ (x : Node). (outbox_to x l).items) (ap (λ (o : OutboxView). o.items)
          (outbox_same node after l step.taken.same.0 step.taken.same.1 step.taken.same.2 step.taken.outboxes)) m,
      lane_stays at after next [] (λ (x : Lane). x.sent.items) step.same,
    )

    pub items_received : AppliesItems k i j items (world_shown k.family k.n nodes lanes).nodes
        (world_shown k.family k.n (set nodes j after) (set lanes place next)).nodes
    unfolding world_shown
    items_received =
        let others = items_of_batches next.link.waiting ++ (before.outbox i j
        ++ items_from (predecessors k.family) k.n j (drop (before.expanded i) (before.nodes.history i))) in
        applies_many at after next stand.setting.nodes.0 items (step.behind ++ others) differs (kept_of at.node_of) step.taken.taken stand.lawful
        (next_waiting k before i j step.batch next.link.waiting stand.linked at.low_i at.low_j differs waits_first
        ∙ ap (λ xs. before.nodes.applied i j ++ (xs ++ others)) step.items_are
        ∙ ap (λ xs. before.nodes.applied i j ++ xs) (append_assoc items step.behind others)) step.listed

  pub received : HasTakenBatch node lane after next → IsSound after → after.failed ≡ None → (new : Ring) → Moved k.n (ring_of detector) (ring.Take i j) new →
      Outcome k (state_at k nodes lanes detector) (Take i j) (set nodes j after) (set lanes place next) new
  received given sound going new moved =
      let step = whole_received node after lane next given in
      let takes : TakesBatch k i j before later = record {
        batch = step.batch;
        first = waits_first step ∙ ap (λ bs. step.batch ∷ bs) (sym (waits_left step));
        applied = items_received step;
        others = others_wait step;
        same = all_stay step;
      } in record {
        can = (at.low_i, at.low_j, differs, some_of takes.first);
        happens = (takes, moved);
        places = in_place at after next
            (node_after at.node_of after sound going step.taken.same
            (chain_statuses step.batch.items node.share after.share node.history after.history step.taken.taken))
            (record {
              capacity = sym (ap (λ (l : LinkView). l.capacity) step.first) ∙ at.lane_of.capacity;
              batches = All-tail (IsBatchTo k.family k.n j) step.batch next.link.waiting (batches_are step);
            });
      }

  pub receives_front : (why : Cause) (given : HasReceivedFront node lane after next why) →
      GoesTooDeep given.taken.item ((world_shown k.family k.n (set nodes j after) (set lanes place next)).nodes.cell given.taken.item.to) →
      TakesFront k i j (world_shown k.family k.n nodes lanes) (world_shown k.family k.n (set nodes j after) (set lanes place next))
  receives_front why given deep =
      let step = front_received node after lane next why given in record {
        deep = record {
          batch = step.batch;
          batches = next.link.waiting;
          first = waits_first step;
          front = given.taken.front;
          item = given.taken.item;
          behind = given.taken.behind;
          items_are = step.items_are;
          between = later.nodes;
          applied = items_received step;
          deep = deep;
        };
        applied = refl;
        left = waits_left step;
        others = others_wait step;
        same = all_stay step;
      }

-- ---- a batch posted

module _ {k : Setting} {nodes : List Node} {lanes : List Lane} {detector : Detector} {steps i j place : ℕ} {node : Node} {lane : Lane}
    (stand : Stand k nodes lanes detector steps) (at : AtLane k nodes lanes i j i place node lane) (after : Node) (next : Lane)
    (step : HasSentBatch j k.batch node lane after next) where
  posts : Posts k i j (world_shown k.family k.n nodes lanes) (world_shown k.family k.n (set nodes i after) (set lanes place next))
  unfolding world_shown nodes_shown
  posts = record {
    batch = step.batch;
    items = step.cut.cut.items ∙ ap (λ xs. take k.batch xs) (sym (was at.node_at [] (λ (x : Node). (outbox_to x j).items)));
    left = here at.node_at after [] (λ (x : Node). (outbox_to x j).items) ∙ step.cut.cut.left
        ∙ ap (λ xs. drop k.batch xs) (sym (was at.node_at [] (λ (x : Node). (outbox_to x j).items)));
    waits = lane_here at after next [] (λ (x : Lane). x.link.waiting)
        ∙ ap (λ (l : LinkView). l.waiting) step.link
        ∙ ap (λ bs. bs ++ step.batch ∷ []) (sym (lane_was at [] (λ (x : Lane). x.link.waiting)));
    sent = lane_here at after next [] (λ (x : Lane). x.sent.items)
        ∙ step.sent
        ∙ ap (λ xs. xs ++ step.batch.items) (sym (lane_was at [] (λ (x : Lane). x.sent.items)));
    others = (
      stays_else at.node_at after [] (λ (l : ℕ) (x : Node). (outbox_to x l).items) j (λ l other. ap (λ (o : OutboxView). o.items) (step.cut.others l other)),
      lane_else at after next [] (λ (x : Lane). x.link.waiting),
      lane_else at after next [] (λ (x : Lane). x.sent.items),
    );
    same = (
      stays at.node_at after 0 (λ (x : Node). x.expanded) step.cut.same.3,
      stays at.node_at after [] (λ (x : Node). x.own) step.cut.kept.2,
    );
    nodes = record {
      history = stays at.node_at after [] (λ (x : Node). x.history.settlements) (ap (λ (h : HistoryView). h.settlements) step.cut.kept.1);
      applied = lane_stays at after next [] (λ (x : Lane). x.applied.items) step.same;
      cell = λ class. ap (λ c. cond (nat_lt class (classes_of k.family)) c (fresh 0)) (stays at.node_at after (fresh 0)
          (λ (x : Node). cell_at x.share class) (ap (λ (s : Share). cell_at s class) step.cut.kept.0) (owner_of k.n class));
    };
  }

  batch_for : IsBatchTo k.family k.n j step.batch
  batch_for = record {
    of = (
      step.cut.cut.of_link.0 ∙ (at.node_of.sound.addressed j).of.0 ∙ at.node_of.of.0,
      step.cut.cut.of_link.1 ∙ (at.node_of.sound.addressed j).of.1 ∙ at.node_of.of.2,
      step.cut.cut.of_link.3 ∙ (at.node_of.sound.addressed j).of.3,
    );
  }

  pub posted : i ≢ j → (0 < length ((world_shown k.family k.n nodes lanes).outbox i j))
      × (length ((world_shown k.family k.n nodes lanes).waiting i j) < k.capacity) → IsSound after → after.failed ≡ None → (new : Ring) →
      Moved k.n (ring_of detector) (ring.Post i j) new → Outcome k (state_at k nodes lanes detector) (Post i j) (set nodes i after) (set lanes place next) new
  posted differs some sound going new moved = record {
    can = (at.low_i, at.low_j, differs, some.0, some.1);
    happens = (posts, moved);
    places = in_place at after next
        (node_after at.node_of after sound going step.cut.same (λ class. ap (λ (s : Share). status_at s class) step.cut.kept.0))
        (record {
          capacity = ap (λ (l : LinkView). l.capacity) step.link ∙ at.lane_of.capacity;
          batches = subst (λ (l : LinkView). All (IsBatchTo k.family k.n j) l.waiting) (sym step.link)
              (All-append (IsBatchTo k.family k.n j) lane.link.waiting (step.batch ∷ []) at.lane_of.batches
              (All-cons (IsBatchTo k.family k.n j) step.batch [] batch_for (All-nil (IsBatchTo k.family k.n j))));
        });
  }

-- ---- why a node stops
pub fits_by : (k : Setting) (i : ℕ) (node : Node) (share : Share) (history : HistoryView) (cell : ℕ → Cell) (item : Item) → IsNodeOf k i node →
    AreKept k.family k.n i share history → ((class : ℕ) → status_at share class ≡ status_at node.share class) → CanApply k.family k.n i cell item →
    cell item.to ≡ cell_at share item.to → Fits share item
unfolding Fits
fits_by k i node share history cell item is kept statuses can same = (
  (kept.owned item.to).1 (can.own, can.below),
  statuses item.to ∙ one_status k.family.profile (class_setup k.family item.to) (status_at node.share item.to) Open
      (is.statuses item.to (((kept_of is).owned item.to).1 (can.own, can.below))) can.is_open,
  subst (λ c. CellCanTake item.was item.now c) same can.takes,
)

-- An item that fits stops its node for lack of memory, or since it goes too deep.
reason_stop : (item : Item) (share : Share) (why : Cause) → Fits share item → IsReason item share why →
    (why ≡ cause.Memory) ⊎ ((why ≡ cause.TooDeep) × GoesTooDeep item (cell_at share item.to))
reason_stop item share cause.TooDeep fits is = inr (refl, is.1)
reason_stop item share (cause.Contradiction class) fits is = absurd (is.1 fits)
reason_stop item share cause.Memory fits is = inl refl
reason_stop item share _ fits is = absurd is

-- whether a cause is lack of memory
memory_or : (why : Cause) → (why ≡ cause.Memory) ⊎ (why ≢ cause.Memory)
memory_or cause.Memory = inl refl
memory_or _ = inr (λ e. cc)

module _ {k : Setting} {nodes : List Node} {lanes : List Lane} {detector : Detector} {steps : ℕ} (stand : Stand k nodes lanes detector steps) where
  -- An own item stops its node for lack of memory, or since it goes too deep.
  pub own_stops : {i place : ℕ} {node : Node} {lane : Lane} → AtLane k nodes lanes i i i place node lane → (why : Cause) →
      (why ≡ cause.Memory) ⊎ HasItemFault node why → IsCauseOf k (world_shown k.family k.n nodes lanes) (Own i) (Stopped i why)
  unfolding world_shown
  own_stops {i} at why (inl memory) = inl (ap (λ (c : Cause). Stopped i c) memory)
  own_stops {i} {place} {node} at why (inr fault) =
      let item = fault.item in
      let cells = nodes_shown k.family k.n nodes lanes in
      let first = was at.node_at [] (λ (x : Node). x.own) ∙ fault.first in
      let can = own_item_fits k (world_shown k.family k.n nodes lanes) i item fault.behind stand.setting.nodes.0 stand.lawful stand.linked at.low_i first in
      let same = own_cell k lanes at.node_at item.to can.below can.own in
      let fits = fits_by k i node node.share node.history cells.cell item at.node_of (kept_of at.node_of) (λ class. refl) can same in
      elim (reason_stop item node.share why fits fault.reason) [
        | inl memory ↦ inl (ap (λ (c : Cause). Stopped i c) memory)
        | inr deep ↦ inr (
          ap (λ (c : Cause). Stopped i c) deep.0,
          record { item = item; behind = fault.behind; first = first; deep = subst (GoesTooDeep item) (sym same) deep.1 },
        )
      ]

  module _ {i j place : ℕ} {node : Node} {lane : Lane} (at : AtLane k nodes lanes i j j place node lane) (differs : i ≢ j) (after : Node) (next : Lane)
      (sound : IsSound after) (why : Cause) where
    refused_front : HasReceivedFront node lane after next why → why ≢ cause.Memory → (why ≡ cause.TooDeep)
        × TakesFront k i j (world_shown k.family k.n nodes lanes) (world_shown k.family k.n (set nodes j after) (set lanes place next))
    unfolding world_shown
    refused_front step other =
        let taken = step.taken in
        let item = taken.item in
        let of = at.node_of.of in
        let front = front_received node after lane next why step in
        let cells = nodes_shown k.family k.n (set nodes j after) (set lanes place next) in
        let can = taken_item_fits k (world_shown k.family k.n nodes lanes) i j step.batch next.link.waiting taken.front item taken.behind cells
        stand.setting.nodes.0 stand.lawful stand.linked at.low_i at.low_j differs (waits_first stand at differs after next front) taken.items_are
        (items_received stand at differs after next front) in
        let same = own_cell k (set lanes place next) (set_there at.node_at after) item.to can.below can.own in
        let kept = kept_sound k.family k.n j after (taken.taken.same.0 ∙ of.0, taken.taken.same.1 ∙ of.1, taken.taken.same.2 ∙ of.2) sound in
        let fits = fits_by k j node after.share after.history cells.cell item at.node_of kept
        (chain_statuses taken.front node.share after.share node.history after.history taken.taken.taken) can same in
        elim (reason_stop item after.share why fits taken.reason) [
          | inl memory ↦ absurd (other memory)
          | inr deep ↦ (deep.0, receives_front stand at differs after next why step (subst (GoesTooDeep item) (sym same) deep.1))
        ]

    -- So does one of a batch, of which those before it are applied.
    pub take_stops : (why ≡ cause.Memory → IsUnchanged node after × LaneStays lane next) → (why ≢ cause.Memory → HasReceivedFront node lane after next why) →
        IsCauseOf k (world_shown k.family k.n nodes lanes) (Take i j) (Stopped j why)
        × IsLeftBy k (world_shown k.family k.n nodes lanes) (Take i j) (Stopped j why) (world_shown k.family k.n (set nodes j after) (set lanes place next))
    take_stops unseen refused = elim (memory_or why) [
      | inl memory ↦
          let is : Stopped j why ≡ Stopped j cause.Memory = ap (λ (c : Cause). Stopped j c) memory in
          (inl is, inl (is, unseen_at at after next (unseen memory)))
      | inr other ↦
          let left = refused_front (refused other) other in
          let is : Stopped j why ≡ Stopped j cause.TooDeep = ap (λ (c : Cause). Stopped j c) left.0 in
          (inr (is, left.1.deep), inr (is, left.1))
    ]
