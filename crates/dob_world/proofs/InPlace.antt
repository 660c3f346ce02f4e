-- Nodes and lanes where they stand: what a world shows of them, what it shows after a write, and of what can happen.
use Rattle.dob_world.proofs.Common.{◌*◌, ◌+◌, ◌<◌, ◌∙◌, ◌∷◌, ◌≡◌, ◌≢◌, ◌≤◌, ◌⊎◌, List, None, Some, [], ap, arith, cond, get_or, inl, inr, length, cases_Bool}
use Rattle.dob_world.proofs.Common.{state_of, nat_lt, refl, set, slice_get, subst, suc, sym, zero, ℕ, cases_eq, lt-ltb, ltb-true, length-set, mul-add-lt}
use Rattle.dob_world.proofs.Common.{same_from_place, same_Some, slice_get_within, get_set_other, get_set_same, read_there, classes_of, fresh, owner_of, cell_at}
use Rattle.dob_world.proofs.Common.{Item, Share, BatchView, OutboxView, kept_sound, outbox_same, IsUnchanged, outbox_to, HistoryView, AreKept, Node, NodesStay}
use Rattle.dob_world.proofs.Common.{LaneStays, LinkView, lane_at, part, setting_of, nodes_shown, world_shown, AreInPlace, IsLaneOf, IsNodeOf, Nodes, Setting}
use Rattle.dob_world.proofs.Common.{Lane, World}
use Rattle.dob_world.proofs.Firsts.{none_some, not_none}

-- what holds at a node and at each other one holds at each
pub at_node : (P : ℕ → Type 0) (i m : ℕ) → P i → (m ≢ i → P m) → P m
at_node P i m here elsewhere = elim (cases_eq m i) [
  | inl same ↦ subst P (sym same) here
  | inr other ↦ elsewhere other
]

-- what holds at a link and at each other one holds at each
pub at_link : (P : ℕ → ℕ → Type 0) (i j m l : ℕ) → P i j → ((m ≢ i) ⊎ (l ≢ j) → P m l) → P m l
at_link P i j m l here elsewhere = elim (cases_eq m i) [
  | inl same ↦ elim (cases_eq l j) [
    | inl alike ↦ subst (λ a. P a l) (sym same) (subst (λ b. P i b) (sym alike) here)
    | inr other ↦ elsewhere (inr other)
  ]
  | inr other ↦ elsewhere (inl other)
]

-- nodes whose parts stay are the same
pub nodes_same : (old new : Nodes) → NodesStay old new → new ≡ old
nodes_same old new stay = λ d. record {
  history = λ i. stay.history i d;
  applied = λ i j. stay.applied i j d;
  cell = λ class. stay.cell class d;
}

-- what holds of nodes holds of those whose parts are the same
pub by_stay : (P : Nodes → Type 0) (old new : Nodes) → NodesStay old new → P old → P new
by_stay P old new stay = subst P (sym (nodes_same old new stay))

pub set_same : {X : Type 0} (xs : List X) (i : ℕ) (y : X) → slice_get xs i ≡ Some y → set xs i y ≡ xs
set_same [] i y there = refl
set_same (x ∷ xs) zero y there = let e : x ≡ y = cc in ap (λ z. z ∷ xs) (sym e)
set_same (x ∷ xs) (suc i) y there = ap (λ zs. x ∷ zs) (set_same xs i y there)

pub lane_slot : (n : ℕ) (lanes : List Lane) (i j : ℕ) → j < n → lane_at n lanes i j ≡ slice_get lanes (i * n + j)
lane_slot n lanes i j low = ap (λ b. cond b (slice_get lanes (i * n + j)) None) (lt-ltb j n low)

pub lane_read : (n : ℕ) (lanes : List Lane) (i j : ℕ) (lane : Lane) → lane_at n lanes i j ≡ Some lane → slice_get lanes (i * n + j) ≡ Some lane
lane_read n lanes i j lane there = elim (cases_Bool (nat_lt j n)) [
  | inl low ↦ rw low at there
  | inr high ↦ let none = rw high at there in absurd (cc)
]

-- ---- nodes

-- that node stands at that place
pub record NodeAt (nodes : List Node) (i : ℕ) (node : Node) : Type 0 where
  pub is : slice_get nodes i ≡ Some node

module _ {nodes : List Node} {i : ℕ} {node : Node} (there : NodeAt nodes i node) where
  pub was : {Y : Type 0} (d : Y) (f : Node → Y) → part d f (slice_get nodes i) ≡ f node
  was d f = ap (part d f) there.is

  module _ (after : Node) where
    pub set_there : NodeAt (set nodes i after) i after
    set_there = record { is = get_set_same nodes i after (slice_get_within nodes i node there.is) }

    pub here : {Y : Type 0} (d : Y) (f : Node → Y) → part d f (slice_get (set nodes i after) i) ≡ f after
    here d f = ap (part d f) set_there.is

    pub elsewhere : {Y : Type 0} (d : Y) (f : Node → Y) (m : ℕ) → m ≢ i → part d f (slice_get (set nodes i after) m) ≡ part d f (slice_get nodes m)
    elsewhere d f m other = ap (part d f) (get_set_other nodes i m after other)

    -- what stays of the node stays of all
    pub stays : {Y : Type 0} (d : Y) (f : Node → Y) → f after ≡ f node → (m : ℕ) → part d f (slice_get (set nodes i after) m) ≡ part d f (slice_get nodes m)
    stays d f same m = at_node (λ a. part d f (slice_get (set nodes i after) a) ≡ part d f (slice_get nodes a)) i m
        (here d f ∙ same ∙ sym (was d f)) (elsewhere d f m)

    -- what stays of the node but for one receiver stays of all other links
    pub stays_else : {Y : Type 0} (d : Y) (f : ℕ → Node → Y) (j : ℕ) → ((l : ℕ) → l ≢ j → f l after ≡ f l node) → (m l : ℕ) → (m ≢ i) ⊎ (l ≢ j) →
        part d (f l) (slice_get (set nodes i after) m) ≡ part d (f l) (slice_get nodes m)
    stays_else d f j same m l (inl other) = elsewhere d (f l) m other
    stays_else d f j same m l (inr other) = stays d (f l) (same l other) m

    pub set_cases : (P : ℕ → Node → Type 0) → P i after → ((m : ℕ) (x : Node) → slice_get nodes m ≡ Some x → P m x) → (m : ℕ) (x : Node) →
        slice_get (set nodes i after) m ≡ Some x → P m x
    set_cases P given others m x = at_node (λ a. slice_get (set nodes i after) a ≡ Some x → P a x) i m
        (λ is. subst (P i) (same_Some after x (sym set_there.is ∙ is)) given) (λ other is. others m x (sym (get_set_other nodes i m after other) ∙ is))

-- ---- where the lists are as long as they should be
slot_found : (lanes : List Lane) (n i j place : ℕ) (lane : Lane) → length lanes ≡ n * n → i < n → j < n → place ≡ i * n + j → lane ≡ get_or lanes place lane →
    slice_get lanes place ≡ Some lane
slot_found lanes n i j place lane whole low_i low_j at is = read_there lanes place lane (omega (arith, whole, at, mul-add-lt i n j n low_i low_j)) is

lane_found : (lanes : List Lane) (n i j place : ℕ) (lane : Lane) → length lanes ≡ n * n → i < n → j < n → place ≡ i * n + j → lane ≡ get_or lanes place lane →
    lane_at n lanes i j ≡ Some lane
lane_found lanes n i j place lane whole low_i low_j at is =
    lane_slot n lanes i j low_j ∙ ap (slice_get lanes) (sym at) ∙ slot_found lanes n i j place lane whole low_i low_j at is

-- ---- where nodes and lanes stand in their places
pub node_there : {k : Setting} {nodes : List Node} {lanes : List Lane} → AreInPlace k nodes lanes → (i : ℕ) (node : Node) → i < k.n →
    node ≡ get_or nodes i node → NodeAt nodes i node
node_there {nodes = nodes} places i node low is = record { is = read_there nodes i node (omega (arith, low, places.nodes_whole)) is }

pub kept_of : {k : Setting} {i : ℕ} {node : Node} → IsNodeOf k i node → AreKept k.family k.n i node.share node.history
kept_of {k} {i} {node} is = kept_sound k.family k.n i node is.of is.sound

-- ---- what a world lends

-- also where it has stopped, since it has all its nodes and lanes
module _ (world : World) where
  pub history_lent : (i : ℕ) (node : Node) → i < world.node_count → node ≡ get_or world.nodes.items i node →
      node.history.settlements ≡ (state_of world).world.nodes.history i
  unfolding world_shown nodes_shown
  history_lent i node low is = sym (ap (part [] (λ (x : Node). x.history.settlements))
      (read_there world.nodes.items i node (omega (arith, low, world.nodes_whole)) is))

  module _ (i j place : ℕ) (lane : Lane) (low_i : i < world.node_count) (low_j : j < world.node_count) (at : place ≡ i * world.node_count + j)
      (is : lane ≡ get_or world.lanes.items place lane) where
    there : lane_at world.node_count world.lanes.items i j ≡ Some lane
    there = lane_found world.lanes.items world.node_count i j place lane (omega (arith, world.lanes_whole)) low_i low_j at is

    pub sent_lent : lane.sent.items ≡ (state_of world).world.sent i j
    unfolding world_shown
    sent_lent = sym (ap (part [] (λ (x : Lane). x.sent.items)) there)

    pub applied_lent : lane.applied.items ≡ (state_of world).world.nodes.applied i j
    unfolding world_shown nodes_shown
    applied_lent = sym (ap (part [] (λ (x : Lane). x.applied.items)) there)

-- ---- a node that is as it was

-- a node that is as it was shows what it did
pub node_unseen : (k : Setting) (lanes : List Lane) {nodes : List Node} {i : ℕ} {node : Node} → NodeAt nodes i node → (after : Node) → IsUnchanged node after →
    world_shown k.family k.n (set nodes i after) lanes ≡ world_shown k.family k.n nodes lanes
unfolding world_shown nodes_shown
node_unseen k lanes {nodes} {i} {node} there after same = λ d. record {
  nodes = record {
    history = λ m. stays there after [] (λ (x : Node). x.history.settlements) (ap (λ (h : HistoryView). h.settlements) same.kept.1) m d;
    applied = λ m l. part [] (λ (x : Lane). x.applied.items) (lane_at k.n lanes m l);
    cell = λ class. cond (nat_lt class (classes_of k.family)) (stays there after (fresh 0) (λ (x : Node). cell_at x.share class)
        (ap (λ (s : Share). cell_at s class) same.kept.0) (owner_of k.n class) d) (fresh 0);
  };
  expanded = λ m. stays there after 0 (λ (x : Node). x.expanded) same.same.3 m d;
  own = λ m. stays there after [] (λ (x : Node). x.own) same.kept.2 m d;
  outbox = λ m l. stays there after [] (λ (x : Node). (outbox_to x l).items) (ap (λ (o : OutboxView). o.items)
      (outbox_same node after l same.same.0 same.same.1 same.same.2 same.outboxes)) m d;
  waiting = λ m l. part [] (λ (x : Lane). x.link.waiting) (lane_at k.n lanes m l);
  sent = λ m l. part [] (λ (x : Lane). x.sent.items) (lane_at k.n lanes m l);
}

-- ---- a node and a lane of a step

-- node m, and the lane from node i to node j at its place
pub record AtLane (k : Setting) (nodes : List Node) (lanes : List Lane) (i j m place : ℕ) (node : Node) (lane : Lane) : Type 0 where
  pub places : AreInPlace k nodes lanes
  pub low_i : i < k.n
  pub low_j : j < k.n
  pub place_is : place ≡ i * k.n + j
  pub node_at : NodeAt nodes m node
  pub lane_is : lane_at k.n lanes i j ≡ Some lane
  pub slot_is : slice_get lanes place ≡ Some lane
  pub node_of : IsNodeOf k m node
  pub lane_of : IsLaneOf k i j lane

-- those of a world
abbrev pub InWorld : World → ℕ → ℕ → ℕ → ℕ → Node → Lane → Type 0
InWorld world = AtLane (setting_of world) world.nodes.items world.lanes.items

pub at_lane : {k : Setting} {nodes : List Node} {lanes : List Lane} → AreInPlace k nodes lanes → (i j m place : ℕ) (node : Node) (lane : Lane) →
    i < k.n → j < k.n → m < k.n → place ≡ i * k.n + j → node ≡ get_or nodes m node → lane ≡ get_or lanes place lane →
    AtLane k nodes lanes i j m place node lane
at_lane {k} {nodes} {lanes} places i j m place node lane low_i low_j low_m place_is node_read lane_read =
    let lane_there = lane_found lanes k.n i j place lane places.lanes_whole low_i low_j place_is lane_read in
    let node_at = node_there places m node low_m node_read in
    record {
      places = places;
      low_i = low_i;
      low_j = low_j;
      place_is = place_is;
      node_at = node_at;
      lane_is = lane_there;
      slot_is = slot_found lanes k.n i j place lane places.lanes_whole low_i low_j place_is lane_read;
      node_of = places.node m node node_at.is;
      lane_of = places.lane i j lane lane_there;
    }

module _ {k : Setting} {nodes : List Node} {lanes : List Lane} {i j m place : ℕ} {node : Node} {lane : Lane}
    (at : AtLane k nodes lanes i j m place node lane) where
  pub lane_was : {Y : Type 0} (d : Y) (f : Lane → Y) → part d f (lane_at k.n lanes i j) ≡ f lane
  lane_was d f = ap (part d f) at.lane_is

  -- ---- where the node and the lane are others

  module _ (after : Node) (next : Lane) where
    lane_set : lane_at k.n (set lanes place next) i j ≡ Some next
    lane_set = lane_slot k.n (set lanes place next) i j at.low_j ∙ ap (slice_get (set lanes place next)) (sym at.place_is)
        ∙ get_set_same lanes place next (slice_get_within lanes place lane at.slot_is)

    lane_kept : (a b : ℕ) → (a ≢ i) ⊎ (b ≢ j) → lane_at k.n (set lanes place next) a b ≡ lane_at k.n lanes a b
    lane_kept a b other = elim (cases_Bool (nat_lt b k.n)) [
      | inl low ↦
          let apart : a * k.n + b ≢ place = λ same.
          let both = same_from_place a b i j k.n (ltb-true b k.n low) at.low_j (same ∙ at.place_is) in
          elim other [ inl ne ↦ ne both.0 | inr ne ↦ ne both.1 ] in
          rw (low, get_set_other lanes place (a * k.n + b) next apart) refl
      | inr high ↦ rw high refl
    ]

    pub lane_here : {Y : Type 0} (d : Y) (f : Lane → Y) → part d f (lane_at k.n (set lanes place next) i j) ≡ f next
    lane_here d f = ap (part d f) lane_set

    pub lane_else : {Y : Type 0} (d : Y) (f : Lane → Y) (a b : ℕ) → (a ≢ i) ⊎ (b ≢ j) →
        part d f (lane_at k.n (set lanes place next) a b) ≡ part d f (lane_at k.n lanes a b)
    lane_else d f a b other = ap (part d f) (lane_kept a b other)

    pub lane_stays : {Y : Type 0} (d : Y) (f : Lane → Y) → f next ≡ f lane → (a b : ℕ) →
        part d f (lane_at k.n (set lanes place next) a b) ≡ part d f (lane_at k.n lanes a b)
    lane_stays d f same a b = at_link (λ a b. part d f (lane_at k.n (set lanes place next) a b) ≡ part d f (lane_at k.n lanes a b)) i j a b
        (lane_here d f ∙ same ∙ sym (lane_was d f)) (lane_else d f a b)

    lane_cases : (P : ℕ → ℕ → Lane → Type 0) → P i j next → ((a b : ℕ) (x : Lane) → lane_at k.n lanes a b ≡ Some x → P a b x) →
        (a b : ℕ) (x : Lane) → lane_at k.n (set lanes place next) a b ≡ Some x → P a b x
    lane_cases P given others a b x = at_link (λ a b. lane_at k.n (set lanes place next) a b ≡ Some x → P a b x) i j a b
        (λ is. subst (P i j) (same_Some next x (sym lane_set ∙ is)) given) (λ other is. others a b x (sym (lane_kept a b other) ∙ is))

    pub in_place : IsNodeOf k m after → IsLaneOf k i j next → AreInPlace k (set nodes m after) (set lanes place next)
    in_place is_node is_lane = record {
      nodes_whole = length-set nodes m after ∙ at.places.nodes_whole;
      lanes_whole = length-set lanes place next ∙ at.places.lanes_whole;
      node = set_cases at.node_at after (IsNodeOf k) is_node at.places.node;
      lane = lane_cases (IsLaneOf k) is_lane at.places.lane;
    }

    -- the lists of a world in which both are as they were
    pub same_at : (after ≡ node) × (next ≡ lane) → (set nodes m after ≡ nodes) × (set lanes place next ≡ lanes)
    same_at same = (
      ap (λ x. set nodes m x) same.0 ∙ set_same nodes m node at.node_at.is,
      ap (λ x. set lanes place x) same.1 ∙ set_same lanes place lane at.slot_is,
    )

    lane_unseen : (others : List Node) → LaneStays lane next → world_shown k.family k.n others (set lanes place next) ≡ world_shown k.family k.n others lanes
    unfolding world_shown nodes_shown
    lane_unseen others same = λ d. record {
      nodes = record {
        history = λ a. part [] (λ (x : Node). x.history.settlements) (slice_get others a);
        applied = λ a b. lane_stays [] (λ (x : Lane). x.applied.items) same.applied a b d;
        cell = λ class. cond (nat_lt class (classes_of k.family)) (part (fresh 0) (λ (x : Node). cell_at x.share class) (slice_get others (owner_of k.n class)))
            (fresh 0);
      };
      expanded = λ a. part 0 (λ (x : Node). x.expanded) (slice_get others a);
      own = λ a. part [] (λ (x : Node). x.own) (slice_get others a);
      outbox = λ a b. part [] (λ (x : Node). (outbox_to x b).items) (slice_get others a);
      waiting = λ a b. lane_stays [] (λ (x : Lane). x.link.waiting) (ap (λ (v : LinkView). v.waiting) same.link) a b d;
      sent = λ a b. lane_stays [] (λ (x : Lane). x.sent.items) same.sent a b d;
    }

    -- a world in which both show what they did shows what it did
    pub unseen_at : IsUnchanged node after × LaneStays lane next →
        world_shown k.family k.n (set nodes m after) (set lanes place next) ≡ world_shown k.family k.n nodes lanes
    unseen_at same = lane_unseen (set nodes m after) same.1 ∙ node_unseen k lanes at.node_at after same.0

-- ---- what can happen

module _ {k : Setting} {nodes : List Node} {lanes : List Lane} {i j m place : ℕ} {node : Node} {lane : Lane}
    (at : AtLane k nodes lanes i j m place node lane) where
  own_is : (world_shown k.family k.n nodes lanes).own m ≡ node.own
  unfolding world_shown
  own_is = was at.node_at [] (λ (x : Node). x.own)

  outbox_is : (l : ℕ) → (world_shown k.family k.n nodes lanes).outbox m l ≡ (outbox_to node l).items
  unfolding world_shown
  outbox_is l = was at.node_at [] (λ (x : Node). (outbox_to x l).items)

  waiting_is : (world_shown k.family k.n nodes lanes).waiting i j ≡ lane.link.waiting
  unfolding world_shown
  waiting_is = lane_was at [] (λ (x : Lane). x.link.waiting)

  -- ---- what can't happen

  pub cant_own : node.own ≡ [] → 0 < length ((world_shown k.family k.n nodes lanes).own m) → ⊥
  cant_own none some = none_some _ (own_is ∙ none) some

  pub cant_take : lane.link.waiting ≡ [] → 0 < length ((world_shown k.family k.n nodes lanes).waiting i j) → ⊥
  cant_take none some = none_some _ (waiting_is ∙ none) some

  pub cant_post : (l : ℕ) → ((outbox_to node l).items ≡ []) ⊎ (lane.link.capacity ≤ length lane.link.waiting) →
      0 < length ((world_shown k.family k.n nodes lanes).outbox m l) → length ((world_shown k.family k.n nodes lanes).waiting i j) < k.capacity → ⊥
  cant_post l (inl none) some room = none_some _ (outbox_is l ∙ none) some
  cant_post l (inr full) some room = omega (arith, ap length waiting_is, at.lane_of.capacity, full, room)

  -- ---- what can happen where a node has something to do

  pub some_own : (node.own ≡ [] → ⊥) → 0 < length ((world_shown k.family k.n nodes lanes).own m)
  some_own some = subst (λ (xs : List Item). 0 < length xs) (sym own_is) (not_none node.own some)

  pub some_waits : (lane.link.waiting ≡ [] → ⊥) → 0 < length ((world_shown k.family k.n nodes lanes).waiting i j)
  some_waits some = subst (λ (xs : List BatchView). 0 < length xs) (sym waiting_is) (not_none lane.link.waiting some)

  pub can_post : (l : ℕ) → ((outbox_to node l).items ≡ [] → ⊥) × (length lane.link.waiting < lane.link.capacity) →
      (0 < length ((world_shown k.family k.n nodes lanes).outbox m l)) × (length ((world_shown k.family k.n nodes lanes).waiting i j) < k.capacity)
  can_post l some = (
    subst (λ (xs : List Item). 0 < length xs) (sym (outbox_is l)) (not_none (outbox_to node l).items some.0),
    omega (arith, ap length waiting_is, at.lane_of.capacity, some.1),
  )
