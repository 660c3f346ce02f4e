-- A world that stands: each batch that a node has cut is posted, and after an event that is done it stands on, as where a node expands a settlement.
use Rattle.dob_world.proofs.Common.{◌++◌, ◌+◌, ◌<◌, ◌^◌, ◌∙◌, ◌∷◌, ◌≡◌, ◌≢◌, ◌≤◌, List, None, Option, Some, [], ap, arith, cond, inl, inr, length, nat_lt, refl}
use Rattle.dob_world.proofs.Common.{set, slice_get, subst, suc, sym, true, zero, ℕ, cases_eq, cases_lt, length-set, slice_get_within, slice_index_or, Family}
use Rattle.dob_world.proofs.Common.{HasStatus, class_setup, classes_of, predecessors, CountsStay, IsLawfulRing, Moved, Ring, fresh, owner_of, IsOwn, cell_at}
use Rattle.dob_world.proofs.Common.{status_at, Opening, Share, OutboxView, empty_outbox, items_of, outbox_same, IsExpanded, IsSound, outbox_to, HistoryView}
use Rattle.dob_world.proofs.Common.{Node, IsEventDone, CanHappen, ExpandsAt, Happens, part, ring_of, setting_of, state_of, nodes_shown, world_shown}
use Rattle.dob_world.proofs.Common.{AreCutsPosted, AreInPlace, CanCount, IsCounted, IsNodeOf, IsStanding, Stand, AreOpenedNodes, IsNodeIdle, Setting, State}
use Rattle.dob_world.proofs.Common.{Detector, Event, Expand, Lane, World}
use Rattle.dob_safra.specs.Rings.{IsStart as IsStartRing, Raises, IsAnnounceable}
use Rattle.dob_world.specs.Shown.{cut_by}
use Rattle.dob_safra.specs.declared.event.RingEvent.{RingEvent}
use Rattle.dob_node.specs.Nodes.{IsIdle as IsIdleNode}
use Rattle.dob_world.proofs.InPlace.{NodeAt, here, was, elsewhere, stays, stays_else, at_link, at_node, set_cases}
use Rattle.dob_world.proofs.Firsts.{none_some}
use Rattle.dob_world.proofs.Kept.{event_keeps, busy_black}
use Rattle.dob_world.proofs.Promise.{kept_once}

-- ---- batches cut, after an event
pub next_same : (node after : Node) → (after.family ≡ node.family) × (after.id ≡ node.id) × (after.n ≡ node.n) × (after.expanded ≡ node.expanded) →
    after.outboxes ≡ node.outboxes → (j : ℕ) → (outbox_to after j).next ≡ (outbox_to node j).next
next_same node after same boxes j = ap (λ (o : OutboxView). o.next) (outbox_same node after j same.0 same.1 same.2 boxes)

module _ {k : Setting} {nodes : List Node} {lanes : List Lane} {detector : Detector} {steps i : ℕ} {node : Node}
    (stand : Stand k nodes lanes detector steps) (there : NodeAt nodes i node) (after : Node) (new : Ring) where
  -- where none is cut and none is posted
  pub cuts_stay : ((j : ℕ) → j < k.n → i ≢ j → (outbox_to after j).next ≡ (outbox_to node j).next) → CountsStay k.n (ring_of detector).posted new.posted →
      AreCutsPosted k.n (set nodes i after) new
  cuts_stay same stay m l low_m low_l differs = at_node (λ a. a ≢ l → cut_by (set nodes i after) a l ≡ cut_by nodes a l) i m
      (λ apart. stays there after 0 (λ (x : Node). (outbox_to x l).next) (same l low_l apart) i)
      (λ other _. elsewhere there after 0 (λ (x : Node). (outbox_to x l).next) m other) differs
      ∙ stand.cuts m l low_m low_l differs ∙ sym (stay m l low_m low_l)

  -- where one is cut and posted
  pub cuts_posted : (j : ℕ) → i < k.n → j < k.n → i ≢ j → (outbox_to after j).next ≡ (outbox_to node j).next + 1 →
      ((l : ℕ) → l ≢ j → outbox_to after l ≡ outbox_to node l) → Raises k.n (ring_of detector).posted new.posted i j →
      AreCutsPosted k.n (set nodes i after) new
  cuts_posted j low_i low_j differs next others raised m l low_m low_l apart = at_link (λ a b. cut_by (set nodes i after) a b ≡ new.posted a b) i j m l
      (let now = here there after 0 (λ (x : Node). (outbox_to x j).next) in
      omega (arith, now, was there 0 (λ (x : Node). (outbox_to x j).next), stand.cuts i j low_i low_j differs, raised.one_more, next))
      (λ other. stays_else there after 0 (λ (b : ℕ) (x : Node). (outbox_to x b).next) j (λ b away. ap (λ (o : OutboxView). o.next) (others b away)) m l other
      ∙ stand.cuts m l low_m low_l apart ∙ sym (raised.others m l low_m low_l other))

module _ {k : Setting} {nodes : List Node} {lanes : List Lane} {detector : Detector} {steps : ℕ} (stand : Stand k nodes lanes detector steps) where
  -- a node has never cut as many as are counted
  pub few_cut : {i : ℕ} {node : Node} → NodeAt nodes i node → (j : ℕ) → i < k.n → j < k.n → i ≢ j → steps < 2 ^ 40 → 2 ^ 40 ≤ (outbox_to node j).next → ⊥
  few_cut {i} there j low_i low_j differs room much =
      omega (arith, was there 0 (λ (x : Node). (outbox_to x j).next), stand.cuts i j low_i low_j differs, stand.few i j low_i low_j, room, much)

  -- nodes and numbers of batches that are as they were
  pub cuts_same : (new : Ring) → CountsStay k.n (ring_of detector).posted new.posted → AreCutsPosted k.n nodes new
  cuts_same new stay m l low_m low_l differs = stand.cuts m l low_m low_l differs ∙ sym (stay m l low_m low_l)

-- ---- batches cut, at the start
pub cuts_start : (openings : List Opening) (family : Family) (n : ℕ) (nodes : List Node) (ring : Ring) → AreOpenedNodes openings family n n nodes →
    IsStartRing n ring → AreCutsPosted n nodes ring
cuts_start openings family n nodes ring opened start i j low_i low_j differs = none_cut (slice_get nodes i) refl ∙ sym (start.posted i j low_i low_j)
  where
    none_cut : (given : Option Node) → slice_get nodes i ≡ given → part 0 (λ (x : Node). (outbox_to x j).next) given ≡ 0
    none_cut None is = refl
    none_cut (Some node) is = ap (λ (o : OutboxView). o.next) ((opened.each i node is).0.outboxes j)

-- ---- the world stands on
abbrev pub state_at : Setting → List Node → List Lane → Detector → State
state_at k nodes lanes detector = record { world = world_shown k.family k.n nodes lanes; ring = ring_of detector }

-- the event could happen and happened, and nodes and lanes stand in their places
pub record Outcome (k : Setting) (old : State) (event : Event) (nodes : List Node) (lanes : List Lane) (ring : Ring) : Type 0 where
  pub can : CanHappen k old event
  pub happens : Happens k old event (record { world = world_shown k.family k.n nodes lanes; ring = ring })
  pub places : AreInPlace k nodes lanes

module _ {k : Setting} {nodes : List Node} {lanes : List Lane} {detector : Detector} {steps : ℕ} (stand : Stand k nodes lanes detector steps) where
  abbrev before : State
  before = state_at k nodes lanes detector

  pub stand_after : (after : List Node) (next : List Lane) (new : Detector) (event : Event) → steps < 2 ^ 40 →
      Outcome k (state_at k nodes lanes detector) event after next (ring_of new) → IsCounted new → new.nodes ≡ detector.nodes →
      AreCutsPosted k.n after (ring_of new) → Stand k after next new (steps + 1)
  stand_after after next new event room out counted same cuts =
      let later = state_at k after next new in
      let setting = stand.setting in
      let kept = kept_once k setting before later event steps room out.can out.happens
      (record { lawful = stand.lawful; linked = stand.linked; matches = stand.matches; few = stand.few }) in
      record {
        setting = setting;
        openings = stand.openings;
        places = out.places;
        counted = counted;
        same_n = same ∙ stand.same_n;
        lawful = kept.lawful;
        falls = (event_keeps k before later event setting.nodes.0 stand.lawful stand.linked out.can out.happens).falls stand.falls;
        linked = kept.linked;
        matches = kept.matches;
        few = kept.few;
        cuts = cuts;
      }

  -- ---- what the detector may count

  pub ring_lawful : IsLawfulRing detector.nodes (ring_of detector)
  ring_lawful = subst (λ (m : ℕ). IsLawfulRing m (ring_of detector)) (sym stand.same_n) stand.matches.lawful

  pub can_count : (i j : ℕ) → i < k.n → j < k.n → CanCount detector i j
  can_count i j low_i low_j = record {
    counted = stand.counted;
    lawful = ring_lawful;
    from = omega (arith, low_i, stand.same_n);
    to = omega (arith, low_j, stand.same_n);
  }

  pub moved_here : (event : RingEvent) (new : Ring) → Moved detector.nodes (ring_of detector) event new → Moved k.n (ring_of detector) event new
  moved_here event new moved = subst (λ (m : ℕ). Moved m (ring_of detector) event new) stand.same_n moved

  pub announceable_here : IsAnnounceable detector.nodes (ring_of detector) true → IsAnnounceable k.n (ring_of detector) true
  announceable_here may = subst (λ (m : ℕ). IsAnnounceable m (ring_of detector) true) stand.same_n may

  pub announceable_there : IsAnnounceable k.n (ring_of detector) true → IsAnnounceable detector.nodes (ring_of detector) true
  announceable_there may = subst (λ (m : ℕ). IsAnnounceable m (ring_of detector) true) (sym stand.same_n) may

  pub sender_black : (i j : ℕ) → i < k.n → j < k.n → i ≢ j → 0 < length ((world_shown k.family k.n nodes lanes).outbox i j) → (ring_of detector).black i ≡ true
  sender_black i j low_i low_j differs some = busy_black k before stand.matches i low_i
      (λ idle. none_some ((world_shown k.family k.n nodes lanes).outbox i j) (idle.outboxes j low_j (λ same. differs (sym same))) some)

  pub batch_waits : (i j : ℕ) → i < k.n → j < k.n → 0 < length ((world_shown k.family k.n nodes lanes).waiting i j) →
      (ring_of detector).taken i j < (ring_of detector).posted i j
  batch_waits i j low_i low_j some = omega (arith, stand.matches.posted i j low_i low_j, some)

-- ---- idle nodes
beyond : {X : Type 0} (xs : List X) (i : ℕ) (d : X) → length xs ≤ i → slice_index_or xs i d ≡ d
beyond [] i d past = refl
beyond (x ∷ xs) zero d past = absurd (omega arith)
beyond (x ∷ xs) (suc i) d past = beyond xs i d (omega arith)

module _ {k : Setting} {nodes : List Node} {lanes : List Lane} {i : ℕ} {node : Node} (places : AreInPlace k nodes lanes) (there : NodeAt nodes i node) where
  pub idle_shown : IsIdleNode node → IsNodeIdle k (world_shown k.family k.n nodes lanes) i
  unfolding world_shown nodes_shown
  idle_shown idle = record {
    expanded = was there 0 (λ (x : Node). x.expanded) ∙ idle.expanded ∙ ap length (sym (was there [] (λ (x : Node). x.history.settlements)));
    own = was there [] (λ (x : Node). x.own) ∙ idle.applied;
    outboxes = λ j low_j differs. was there [] (λ (x : Node). (outbox_to x j).items) ∙ idle.sent j;
  }

  pub shown_idle : IsNodeIdle k (world_shown k.family k.n nodes lanes) i → IsIdleNode node
  unfolding world_shown nodes_shown
  shown_idle idle = record {
    expanded = sym (was there 0 (λ (x : Node). x.expanded)) ∙ idle.expanded ∙ ap length (was there [] (λ (x : Node). x.history.settlements));
    applied = sym (was there [] (λ (x : Node). x.own)) ∙ idle.own;
    sent = λ to. elim (cases_lt to k.n) [
      | inl within ↦ elim (cases_eq to i) [
        | inl itself ↦ ap (λ (m : ℕ). (outbox_to node m).items) (itself ∙ sym (places.node i node there.is).of.1) ∙
            (places.node i node there.is).sound.nothing_to_self
        | inr other ↦ sym (was there [] (λ (x : Node). (outbox_to x to).items)) ∙ idle.outboxes to within other
      ]
      | inr past ↦ ap (λ (o : OutboxView). o.items) (beyond node.outboxes to (empty_outbox node.family node.n node.id to)
          (let count : length node.outboxes ≡ node.n = (places.node i node there.is).sound.receivers in
          omega (arith, count, (places.node i node there.is).of.2, past)))
    ];
  }

-- ---- an event that is done

-- The event was possible, it happened, and nodes, lanes and detector keep what each has to keep.
pub event_done : (old new : World) (event : Event) → IsStanding old → old.steps < 2 ^ 40 → setting_of new ≡ setting_of old →
    Outcome (setting_of old) (state_of old) event new.nodes.items new.lanes.items (ring_of new.detector) →
    IsCounted new.detector × (new.detector.nodes ≡ old.detector.nodes) → AreCutsPosted old.node_count new.nodes.items (ring_of new.detector) →
    (new.failed ≡ old.failed) × (new.steps ≡ old.steps) → IsEventDone event old new
event_done old new event stand room setting out counted cuts same =
    let after = stand_after stand new.nodes.items new.lanes.items new.detector event room out counted.0 counted.1 cuts in
    record {
      made = record {
        setting = setting;
        can = out.can;
        happens = subst (λ (s : State). Happens (setting_of old) (state_of old) event s)
            (ap (λ (k : Setting). state_at k new.nodes.items new.lanes.items new.detector) (sym setting)) out.happens;
      };
      stands = subst (λ (k : Setting). Stand k new.nodes.items new.lanes.items new.detector (new.steps + 1)) (sym setting)
          (subst (λ (n : ℕ). Stand (setting_of old) new.nodes.items new.lanes.items new.detector (n + 1)) (sym same.1) after);
      same = same;
    }

-- ---- a settlement that a node expands

module _ {k : Setting} {nodes : List Node} {lanes : List Lane} {detector : Detector} {steps i : ℕ} {node : Node}
    (stand : Stand k nodes lanes detector steps) (there : NodeAt nodes i node) where
  expanded_is : (world_shown k.family k.n nodes lanes).expanded i ≡ node.expanded
  unfolding world_shown
  expanded_is = was there 0 (λ (x : Node). x.expanded)

  history_long : length ((world_shown k.family k.n nodes lanes).nodes.history i) ≡ length node.history.settlements
  unfolding world_shown nodes_shown
  history_long = ap length (was there [] (λ (x : Node). x.history.settlements))

  module _ (low_i : i < k.n) (after : Node) (step : IsExpanded node after) where
    is : IsNodeOf k i node
    is = stand.places.node i node there.is

    items_same : (j : ℕ) → items_of (predecessors node.family) node.n j step.settlement ≡ items_of (predecessors k.family) k.n j step.settlement
    items_same j = ap (λ st. items_of (predecessors st) node.n j step.settlement) is.of.0
        ∙ ap (λ m. items_of (predecessors k.family) m j step.settlement) is.of.2

    expands : ExpandsAt k i (world_shown k.family k.n nodes lanes) (world_shown k.family k.n (set nodes i after) lanes)
    unfolding world_shown nodes_shown
    expands = record {
      settlement = step.settlement;
      is_next = ap (λ o. slice_get (part [] (λ (x : Node). x.history.settlements) o) (part 0 (λ (x : Node). x.expanded) o)) there.is ∙ step.first;
      expanded = here there after 0 (λ (x : Node). x.expanded) ∙ step.expanded ∙ ap (λ (e : ℕ). e + 1) (sym (was there 0 (λ (x : Node). x.expanded)));
      own = here there after [] (λ (x : Node). x.own) ∙ step.own
          ∙ ap (λ m. node.own ++ items_of (predecessors node.family) node.n m step.settlement) is.of.1
          ∙ ap (λ xs. node.own ++ xs) (items_same i)
          ∙ ap (λ xs. xs ++ items_of (predecessors k.family) k.n i step.settlement) (sym (was there [] (λ (x : Node). x.own)));
      outboxes = λ j low differs. here there after [] (λ (x : Node). (outbox_to x j).items)
          ∙ ap (λ (o : OutboxView). o.items) (step.sent j (subst (λ (m : ℕ). j < m) (sym is.of.2) low) (λ same. differs (same ∙ is.of.1)))
          ∙ ap (λ xs. (outbox_to node j).items ++ xs) (items_same j)
          ∙ ap (λ xs. xs ++ items_of (predecessors k.family) k.n j step.settlement) (sym (was there [] (λ (x : Node). (outbox_to x j).items)));
      others = (
        elsewhere there after 0 (λ (x : Node). x.expanded),
        elsewhere there after [] (λ (x : Node). x.own),
        λ m other. λ d. λ j. elsewhere there after [] (λ (x : Node). (outbox_to x j).items) m other d,
      );
      nodes = record {
        history = stays there after [] (λ (x : Node). x.history.settlements) (ap (λ (h : HistoryView). h.settlements) step.same.4);
        applied = λ m l. refl;
        cell = λ class. ap (λ c. cond (nat_lt class (classes_of k.family)) c (fresh 0))
            (stays there after (fresh 0) (λ (x : Node). cell_at x.share class) (ap (λ (s : Share). cell_at s class) step.same.3) (owner_of k.n class));
      };
      links = (λ m l. refl, λ m l. refl);
    }

    pub expanded : IsSound after → after.failed ≡ None → Outcome k (state_at k nodes lanes detector) (Expand i) (set nodes i after) lanes (ring_of detector)
    expanded sound going = record {
      can = (
        low_i,
        omega (arith, slice_get_within node.history.settlements node.expanded step.settlement step.first, expanded_is, history_long),
      );
      happens = (expands, refl);
      places = record {
        nodes_whole = length-set nodes i after ∙ stand.places.nodes_whole;
        lanes_whole = stand.places.lanes_whole;
        node = set_cases there after (IsNodeOf k) (record {
          sound = sound;
          going = going;
          of = (step.same.0 ∙ is.of.0, step.same.1 ∙ is.of.1, step.same.2 ∙ is.of.2);
          statuses = subst
              (λ (share : Share). (class : ℕ) → IsOwn share class → HasStatus k.family.profile (class_setup k.family class) (status_at share class))
              (sym step.same.3) is.statuses;
        }) stand.places.node;
        lane = stand.places.lane;
      };
    }

    -- it adds to outboxes and cuts none of them
    pub cuts_expanded : AreCutsPosted k.n (set nodes i after) (ring_of detector)
    cuts_expanded = cuts_stay stand there after (ring_of detector)
        (λ j low differs. ap (λ (o : OutboxView). o.next) (step.sent j (subst (λ (m : ℕ). j < m) (sym is.of.2) low) (λ same. differs (sym (same ∙ is.of.1)))))
        (λ m l low_m low_l. refl)

  -- ---- what is left to expand

  pub cant_expand : node.expanded ≡ length node.history.settlements →
      (world_shown k.family k.n nodes lanes).expanded i < length ((world_shown k.family k.n nodes lanes).nodes.history i) → ⊥
  cant_expand all less = omega (arith, all, less, expanded_is, history_long)

  -- a settlement is left where not all of them are expanded
  pub left_to_expand : (node.expanded ≡ length node.history.settlements → ⊥) →
      (world_shown k.family k.n nodes lanes).expanded i < length ((world_shown k.family k.n nodes lanes).nodes.history i)
  left_to_expand left = elim (cases_lt node.expanded (length node.history.settlements)) [
    | inl less ↦ omega (arith, less, expanded_is, history_long)
    | inr more ↦ absurd (left (omega (arith, more, (stand.places.node i node there.is).sound.emitted)))
  ]
