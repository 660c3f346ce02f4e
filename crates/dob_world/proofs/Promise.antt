-- The promise of the whole: of a world of opened nodes with empty lanes, in worlds that stand and after any events; and what is left of it
-- after a stop.
use Rattle.dob_world.proofs.Common.{◌%◌, ◌*◌, ◌++◌, ◌+◌, ◌-◌, ◌/◌, ◌<◌, ◌^◌, ◌∙◌, ◌∷◌, ◌≡◌, ◌≢◌, ◌≤◌, [], All, All-nil, AllTaken, AllWhite, Announce}
use Rattle.dob_world.proofs.Common.{AreBeginnings, AreEmptyLanes, AreInPlace, AreLawful, AreOpenedNodes, BuildFault, CanHappen, CellValue, Detector, Draw}
use Rattle.dob_world.proofs.Common.{EndIsRest, EndIsSilent, Event, Expand, Happens, HasAtMost, HasOpenings, HasStatus, HaveFallsIn, HaveKnownValues, Headline}
use Rattle.dob_world.proofs.Common.{HeadlineHolds, IsAfter, IsAtRest, IsBatchTo, IsChained, IsEmptyLane, IsEntry, IsForMemory, IsLawfulRing, IsLeft, IsLeftBy}
use Rattle.dob_world.proofs.Common.{IsLinked, IsNodeOf, IsRingQuiet, IsSetting, IsStanding, IsStopped, IsWorldStart, IsWorldUnchanged, Lane, LinkView, List}
use Rattle.dob_world.proofs.Common.{MatchOption, Matches, Node, Nodes, None, Open, Opening, Option, OutboxView, Own, Pass, Post, RestIsRight, RestStays, Ring}
use Rattle.dob_world.proofs.Common.{SameCell, Setting, Settlement, Some, Stand, StandsOrStopped, State, Status, Stopped, SumsUp-same, Take, TakesFront, Token}
use Rattle.dob_world.proofs.Common.{World, WorldView, ap, append_assoc, arith, below_owner, cases_Bool, cases_eq, cell_at, class_setup, classes_of, cond}
use Rattle.dob_world.proofs.Common.{emitted_in, false, fresh, in_flight, inl, inr, ints, items_from, items_from-append, items_in, items_of_batches, kept_sound}
use Rattle.dob_world.proofs.Common.{known_of, lane_at, length, lt-ltb, mod-add-div', nodes_shown, one_status, outbox_to, owner_of, part, places_of}
use Rattle.dob_world.proofs.Common.{predecessors, refl, ring_of, setting_of, slice_get, some_at, some_known, start_sums, state_of, subst, sum_below, sum_same}
use Rattle.dob_world.proofs.Common.{sym, take, take_all, true, true≢false, value_follows, value_in, value_of, waiting_batches, world_shown, ℕ}
use Rattle.dob_moves.specs.MoveLists.{moves_of}
use Rattle.dob_share.proofs.Applied.{CellValue-same}
use Rattle.dob_history.specs.Quiet.{FollowsAtStatus}
use Rattle.dob_history.specs.Openings.{AreOpenings}
use Rattle.dob_history.specs.OpeningLists.{opening_value, opening_settlements, opening_status}
use Rattle.dob_history.specs.Falls.{IsFirst}
use Rattle.dob_history.proofs.Rises.{opened_first, fresh_within, falls_start}
use Rattle.dob_history.proofs.Opens.{listed_opening}
use Rattle.dob_history.proofs.Beginnings.{or_else, closed_follows, opened_value, opened_chained, opened_entries}
use Rattle.dob_safra.proofs.Quiet.{quiet}
use Rattle.dob_history.proofs.Ends.{lawful_is_right}
use Rattle.std.proofs.Math.IntN.{pos}
use Rattle.dob_safra.specs.Rings.{black_token, IsStart as IsStartRing}
use Rattle.dob_pieces.specs.Lists.{IsBeginning}
use Rattle.dob_share.specs.declared.cause.Cause.TheVariants as cause
use Rattle.dob_world.proofs.InPlace.{kept_of, lane_read, at_link}
use Rattle.dob_world.proofs.Firsts.{none_some, nothing_in, front_alone}
use Rattle.dob_world.proofs.Kept.{lists_are_beginnings, happening_keeps_all, FrontApplied, front_applied, happening_keeps_match, posted_most}

-- ---- opened nodes with empty lanes
part_nil : {X Y : Type 0} (f : X → List Y) (o : Option X) → ((x : X) → o ≡ Some x → f x ≡ []) → part [] f o ≡ []
part_nil f None none = refl
part_nil f (Some x) none = none x refl

module _ (k : Setting) (openings : List Opening) (nodes : List Node) (lanes : List Lane) (some : 0 < k.n) (are : AreOpenings k.family openings)
    (opened : AreOpenedNodes openings k.family k.n k.n nodes) (empty : AreEmptyLanes k.capacity (k.n * k.n) lanes) where
  abbrev status : ℕ → Status
  status = opening_status openings

  abbrev shown : Nodes
  shown = nodes_shown k.family k.n nodes lanes

  of_n : (i : ℕ) → i < k.n → (node : Node) × (slice_get nodes i ≡ Some node)
  of_n i low = some_at nodes i (subst (λ (m : ℕ). i < m) (sym opened.whole) low)

  is_node : (i : ℕ) (node : Node) → slice_get nodes i ≡ Some node → IsNodeOf k i node
  is_node i node there = let o = opened.each i node there in record {
    sound = o.1;
    of = o.0.of;
    statuses = λ class own. subst (λ (s : Status). HasStatus k.family.profile (class_setup k.family class) s) (sym (o.0.statuses class own))
        (listed_opening k.family openings class are (((kept_sound k.family k.n i node o.0.of o.1).owned class).0 own).1).status;
    going = o.0.going;
  }

  lane_empty : (i j : ℕ) (lane : Lane) → lane_at k.n lanes i j ≡ Some lane → IsEmptyLane k.capacity lane
  lane_empty i j lane there = empty.each (i * k.n + j) lane (lane_read k.n lanes i j lane there)

  pub places_start : AreInPlace k nodes lanes
  places_start = record {
    nodes_whole = opened.whole;
    lanes_whole = empty.whole;
    node = is_node;
    lane = λ i j lane there. let e = lane_empty i j lane there in record {
      capacity = ap (λ (l : LinkView). l.capacity) e.link;
      batches = subst (λ (l : LinkView). All (IsBatchTo k.family k.n j) l.waiting) (sym e.link) (All-nil (IsBatchTo k.family k.n j));
    };
  }

  history_is : (i : ℕ) (node : Node) → slice_get nodes i ≡ Some node → shown.history i ≡ opening_settlements status k.n i (places_of node.share)
  unfolding nodes_shown
  history_is i node there = ap (part [] (λ (x : Node). x.history.settlements)) there ∙ (opened.each i node there).0.history

  none_applied : (i j : ℕ) → shown.applied i j ≡ []
  unfolding nodes_shown
  none_applied i j = part_nil (λ (x : Lane). x.applied.items) (lane_at k.n lanes i j) (λ lane there. (lane_empty i j lane there).applied)

  place_is : (p : ℕ) → p / k.n * k.n + owner_of k.n p ≡ p
  place_is p = let e : p % k.n + p / k.n * k.n ≡ p = mod-add-div' p k.n in omega arith

  value_is : (p : ℕ) (s : Status) → p < classes_of k.family → HasStatus k.family.profile (class_setup k.family p) s → value_in k.n shown p ≡ or_else (opening_value s) Draw
  value_is p s low is =
      let i = owner_of k.n p in
      let low_i : i < k.n = below_owner k.n p some in
      let node = (of_n i low_i).0 in
      let there = (of_n i low_i).1 in
      let within : p / k.n * k.n + i < length openings = subst (λ (m : ℕ). m < length openings) (sym (place_is p))
      (subst (λ (m : ℕ). p < m) (sym are.whole) low) in
      ap (λ xs. value_of xs p) (history_is i node there)
      ∙ ap (λ (m : ℕ). value_of (opening_settlements status k.n i (places_of node.share)) m) (sym (place_is p))
      ∙ opened_value k.n i low_i status (places_of node.share) (p / k.n) (((opened.each i node there).0.places (p / k.n)).1 within)
      ∙ ap (λ (m : ℕ). or_else (opening_value (status m)) Draw) (place_is p)
      ∙ ap (λ st. or_else (opening_value st) Draw) (one_status k.family.profile (class_setup k.family p) (status p) s (listed_opening k.family openings p are low).status is)

  cell_is : (p : ℕ) → p < classes_of k.family → SameCell (shown.cell p) (fresh (length (moves_of k.family.profile (class_setup k.family p))))
  unfolding nodes_shown
  cell_is p low =
      let i = owner_of k.n p in
      let low_i : i < k.n = below_owner k.n p some in
      let node = (of_n i low_i).0 in
      let there = (of_n i low_i).1 in
      let at : shown.cell p ≡ cell_at node.share p =
      ap (λ b. cond b (part (fresh 0) (λ (x : Node). cell_at x.share p) (slice_get nodes i)) (fresh 0)) (lt-ltb p (classes_of k.family) low)
      ∙ ap (part (fresh 0) (λ (x : Node). cell_at x.share p)) there in
      subst (λ c. SameCell c (fresh (length (moves_of k.family.profile (class_setup k.family p))))) (sym at)
      (subst (λ (m : ℕ). SameCell (cell_at node.share p) (fresh m)) (listed_opening k.family openings p are low).moves
      ((opened.each i node there).0.cells p (((kept_of (is_node i node there)).owned p).1 (refl, low))))

  chained_start : (i : ℕ) → i < k.n → IsChained (classes_of k.family) k.n i (shown.history i)
  chained_start i low = let at = of_n i low in
      subst (λ xs. IsChained (classes_of k.family) k.n i xs) (sym (history_is i at.0 at.1))
      (opened_chained k.n i low status (classes_of k.family) (places_of at.0.share) (λ q less.
      subst (λ (m : ℕ). q * k.n + i < m) are.whole (((opened.each i at.0 at.1).0.places q).0 less)))

  pub falls_shown : HaveFallsIn k (world_shown k.family k.n nodes lanes).nodes
  unfolding world_shown
  falls_shown = falls_start k.family k.n shown.history shown.cell chained_start
      (λ i low. let at = of_n i low in
      subst (λ xs. All (λ (s : Settlement). IsFirst s.now) xs) (sym (history_is i at.0 at.1)) (opened_first status k.n i (places_of at.0.share)))
      (λ class low. fresh_within (classes_of k.family) (length (moves_of k.family.profile (class_setup k.family class))) (shown.cell class) (cell_is class low))

  pub lawful_shown : AreLawful k (world_shown k.family k.n nodes lanes).nodes
  unfolding world_shown
  lawful_shown = record {
    chained = chained_start;
    entries = λ i low. let at = of_n i low in
        subst (λ xs. All (λ (s : Settlement). IsEntry s.now) xs) (sym (history_is i at.0 at.1))
        (opened_entries k.n i low status (places_of at.0.share));
    begun = λ i j low_i low_j. (
      items_from (predecessors k.family) k.n j (shown.history i),
      ap (λ xs. xs ++ items_from (predecessors k.family) k.n j (shown.history i)) (sym (none_applied i j)),
    );
    sums = λ p low is. SumsUp-same (known_of k.family k.n shown.history shown.applied p) (shown.cell p)
        (fresh (length (moves_of k.family.profile (class_setup k.family p)))) (cell_is p low)
        (start_sums k.family p low k.n shown.history (λ i. shown.applied i (owner_of k.n p)) (λ i. none_applied i (owner_of k.n p)));
    cell_values = λ p low is. subst (λ v. CellValue (shown.cell p) v) (sym (value_is p Open low is))
        (CellValue-same (shown.cell p) (fresh (length (moves_of k.family.profile (class_setup k.family p)))) Draw (cell_is p low) (refl, inr (λ plies. refl)));
    over = λ p s low is closed. subst (λ v. FollowsAtStatus s [] v) (sym (value_is p s low is)) (closed_follows s closed);
    values = λ p low. refl;
  }

  pub waits_start : (i j : ℕ) → (world_shown k.family k.n nodes lanes).waiting i j ≡ []
  unfolding world_shown
  waits_start i j = part_nil (λ (x : Lane). x.link.waiting) (lane_at k.n lanes i j)
      (λ lane there. ap (λ (l : LinkView). l.waiting) (lane_empty i j lane there).link)

  pub linked_start : IsLinked k (world_shown k.family k.n nodes lanes)
  unfolding world_shown
  linked_start = record {
    expanded = λ i low. let e = none_expanded i low in omega arith;
    own = λ i low. emitted_none i i low ∙ sym (ap (λ xs. xs ++ part [] (λ (x : Node). x.own) (slice_get nodes i)) (none_applied i i) ∙ none_own i);
    posted = λ i j low_i low_j differs. emitted_none i j low_i ∙ sym (ap (λ xs. xs ++ part [] (λ (x : Node). (outbox_to x j).items) (slice_get nodes i))
        (none_sent i j) ∙ none_out i j);
    taken = λ i j low_i low_j differs. none_sent i j
        ∙ sym (ap (λ xs. xs ++ items_of_batches (part [] (λ (x : Lane). x.link.waiting) (lane_at k.n lanes i j))) (none_applied i j)
        ∙ ap items_of_batches (waits_start i j));
  }
    where
      none_expanded : (i : ℕ) → i < k.n → part 0 (λ (x : Node). x.expanded) (slice_get nodes i) ≡ 0
      none_expanded i low = let at = of_n i low in ap (part 0 (λ (x : Node). x.expanded)) at.1 ∙ (opened.each i at.0 at.1).0.nothing.0

      none_own : (i : ℕ) → part [] (λ (x : Node). x.own) (slice_get nodes i) ≡ []
      none_own i = part_nil (λ (x : Node). x.own) (slice_get nodes i) (λ node there. (opened.each i node there).0.nothing.1)

      none_out : (i j : ℕ) → part [] (λ (x : Node). (outbox_to x j).items) (slice_get nodes i) ≡ []
      none_out i j = part_nil (λ (x : Node). (outbox_to x j).items) (slice_get nodes i)
          (λ node there. ap (λ (o : OutboxView). o.items) ((opened.each i node there).0.outboxes j))

      none_sent : (i j : ℕ) → part [] (λ (x : Lane). x.sent.items) (lane_at k.n lanes i j) ≡ []
      none_sent i j = part_nil (λ (x : Lane). x.sent.items) (lane_at k.n lanes i j) (λ lane there. (lane_empty i j lane there).sent)

      emitted_none : (i j : ℕ) → i < k.n →
          items_from (predecessors k.family) k.n j (take (part 0 (λ (x : Node). x.expanded) (slice_get nodes i)) (shown.history i)) ≡ []
      emitted_none i j low = ap (λ e. items_from (predecessors k.family) k.n j (take e (shown.history i))) (none_expanded i low)

-- ---- where nothing is left to do

-- where all nodes are white and each batch is taken, nothing is left to do
pub white_rest : (k : Setting) (state : State) → Matches k state → AllWhite k.n state.ring → AllTaken k.n state.ring → IsAtRest k state.world
white_rest k state matches white taken = record {
  expanded = λ i low. (matches.idle i low (white i low)).expanded;
  own = λ i low. (matches.idle i low (white i low)).own;
  outboxes = λ i j low_i low_j differs. (matches.idle i low_i (white i low_i)).outboxes j low_j (λ same. differs (sym same));
  links = λ i j low_i low_j differs. nothing_in (state.world.waiting i j) (λ some.
      omega (arith, matches.posted i j low_i low_j, taken i j low_i low_j, some));
}

pub end_is_rest : EndIsRest
end_is_rest k state size matches may =
    let is : IsRingQuiet k.n state.ring = quiet k.n state.ring true size matches.lawful may.1 in
    white_rest k state matches is.all_white is.all_taken

-- ---- what can happen there
pub rest_stays : RestStays
rest_stays k old new (Expand i) rest can step = absurd (let e : old.world.expanded i ≡ length (old.world.nodes.history i) = rest.expanded i can.0 in
    omega (arith, can.1))
rest_stays k old new (Own i) rest can step = absurd (none_some (old.world.own i) (rest.own i can.0) can.1)
rest_stays k old new (Post i j) rest can step = absurd (none_some (old.world.outbox i j) (rest.outboxes i j can.0 can.1 can.2) can.3)
rest_stays k old new (Take i j) rest can step = absurd (none_some (old.world.waiting i j) (rest.links i j can.0 can.1 can.2) can.3)
rest_stays k old new _ rest can step = step.0

pub end_is_silent : EndIsSilent
end_is_silent k state matches ended = record {
  rest = rest;
  nothing = none;
}
  where
    rest : IsAtRest k state.world
    rest = white_rest k state matches (matches.lawful.all_white ended) (matches.lawful.all_taken ended)

    none : (event : Event) → CanHappen k state event → ⊥
    none (Expand i) can = let e : state.world.expanded i ≡ length (state.world.nodes.history i) = rest.expanded i can.0 in omega (arith, can.1)
    none (Own i) can = none_some (state.world.own i) (rest.own i can.0) can.1
    none (Post i j) can = none_some (state.world.outbox i j) (rest.outboxes i j can.0 can.1 can.2) can.3
    none (Take i j) can = none_some (state.world.waiting i j) (rest.links i j can.0 can.1 can.2) can.3
    none (Pass i) can = true≢false (sym ended ∙ can.3)
    none Announce can = true≢false (sym ended ∙ can.1)

-- ---- batches in flight
pub flight_waits : (k : Setting) (state : State) → Matches k state → in_flight k.n state.ring ≡ waiting_batches k.n state.world
flight_waits k state matches =
    sum_same k.n (λ i. sum_below k.n (λ j. length (state.world.waiting i j))) (λ i. sum_below k.n (λ j. state.ring.posted i j - state.ring.taken i j))
    (λ i low_i. sum_same k.n (λ j. length (state.world.waiting i j)) (λ j. state.ring.posted i j - state.ring.taken i j)
    (λ j low_j. let is : state.ring.posted i j ≡ state.ring.taken i j + length (state.world.waiting i j) = matches.posted i j low_i low_j in omega (arith, is)))

-- ---- a world at rest has the value table

module _ (k : Setting) (world : WorldView) (linked : IsLinked k world) (rest : IsAtRest k world) where
  -- all items of a history are those of the settlements expanded
  all_emitted : (i j : ℕ) → i < k.n → emitted_in k world i j ≡ items_in k world.nodes i j
  all_emitted i j low = ap (λ h. items_from (predecessors k.family) k.n j h)
      (take_all (world.expanded i) (world.nodes.history i) (let is : world.expanded i ≡ length (world.nodes.history i) = rest.expanded i low in omega arith))

  -- and all of them are applied
  all_done : (i j : ℕ) → i < k.n → j < k.n → world.nodes.applied i j ≡ items_in k world.nodes i j
  all_done i j low_i low_j = elim (cases_eq i j) [
    | inl same ↦ subst (λ b. world.nodes.applied i b ≡ items_in k world.nodes i b) same
        (sym (front_alone (linked.own i low_i) (rest.own i low_i)) ∙ all_emitted i i low_i)
    | inr differs ↦ sym (front_alone (linked.taken i j low_i low_j differs) (ap items_of_batches (rest.links i j low_i low_j differs)))
        ∙ sym (front_alone (linked.posted i j low_i low_j differs) (rest.outboxes i j low_i low_j differs)) ∙ all_emitted i j low_i
  ]

pub rest_is_right : RestIsRight
rest_is_right k world openings values some are lawful linked rest whole each =
    lawful_is_right k.family k.n world.nodes.history world.nodes.applied world.nodes.cell (value_in k.n world.nodes) openings values some are lawful
    (all_done k world linked rest) whole each

-- ---- what is kept, and the promise

-- What is kept from event to event, where so many were made.
pub record Keeps (k : Setting) (state : State) (steps : ℕ) : Type 0 where
  pub lawful : AreLawful k state.world.nodes
  pub linked : IsLinked k state.world
  pub matches : Matches k state
  pub few : HasAtMost k.n steps state.ring

-- the cells sum up what is known, and give the values
pub known_values : (k : Setting) (nodes : Nodes) → AreLawful k nodes → HaveKnownValues k nodes
known_values k nodes lawful class Open below is =
    value_follows (known_of k.family k.n nodes.history nodes.applied class) (nodes.cell class) (value_in k.n nodes class) (lawful.sums class below is)
    (some_known k.family class below k.n nodes.history (λ i. nodes.applied i (owner_of k.n class)) is) (lawful.cell_values class below is)
known_values k nodes lawful class s below is = lawful.over class s below is (λ same. cc)

-- a lawful and linked world has the promise's first part
pub begins : (k : Setting) (world : WorldView) → AreLawful k world.nodes → IsLinked k world → AreBeginnings k world
begins k world lawful linked = record {
  sent = λ i j low_i low_j differs. (lists_are_beginnings k world i j linked low_i low_j differs).0;
  applied = λ i j low_i low_j differs. (lists_are_beginnings k world i j linked low_i low_j differs).1;
  own = λ i low. lawful.begun i i low low;
  cells = lawful;
  known = known_values k world.nodes lawful;
}

module _ (k : Setting) (setting : IsSetting k) (openings : HasOpenings k.family) where
  pub headline_of : (state : State) → AreLawful k state.world.nodes → IsLinked k state.world → Matches k state → Headline k state
  headline_of state lawful linked matches = record {
    beginnings = begins k state.world lawful linked;
    silence = λ ended. end_is_silent k state matches ended;
    gathering = λ ended values are. rest_is_right k state.world openings.0 values setting.nodes.0 openings.1 lawful linked
        (end_is_silent k state matches ended).rest are.whole are.each;
    matches = matches;
    flight = flight_waits k state matches;
    quiet = λ may. end_is_rest k state setting.nodes matches may;
  }

-- ---- events

module _ (k : Setting) (setting : IsSetting k) where
  pub kept_once : (old new : State) (event : Event) (steps : ℕ) → steps < 2 ^ 40 → CanHappen k old event → Happens k old event new → Keeps k old steps →
      Keeps k new (steps + 1)
  kept_once old new event steps room can happens keeps =
      let both = happening_keeps_all k old new event setting.nodes.0 keeps.lawful keeps.linked can happens in
      let few : HasAtMost k.n (steps + 1) new.ring = posted_most k old new event steps happens keeps.few in
      record {
        lawful = both.0;
        linked = both.1;
        matches = happening_keeps_match k old new event setting.nodes keeps.matches can happens (λ i j low_i low_j. omega (arith, few i j low_i low_j, room));
        few = few;
      }

  more_room : (state : State) (steps : ℕ) → Keeps k state steps → Keeps k state (steps + 1)
  more_room state steps keeps = record {
    lawful = keeps.lawful;
    linked = keeps.linked;
    matches = keeps.matches;
    few = λ i j low_i low_j. omega (arith, keeps.few i j low_i low_j);
  }

  pub kept_after : (old new : State) (events : List Event) (steps : ℕ) → steps + length events ≤ 2 ^ 40 → IsAfter k old events new → Keeps k old steps →
      (most : ℕ) × Keeps k new most
  kept_after old new [] steps room after keeps = (steps, subst (λ (s : State). Keeps k s steps) (sym after) keeps)
  kept_after old new (event ∷ events) steps room after keeps = elim after.1 [
    | inl done ↦ kept_after after.0 new events (steps + 1) (omega arith) after.2
        (kept_once old after.0 event steps (omega arith) done.0 done.1 keeps)
    | inr skipped ↦ kept_after after.0 new events (steps + 1) (omega arith) after.2
        (more_room after.0 steps (subst (λ (s : State). Keeps k s steps) (sym skipped.1) keeps))
  ]

-- ---- the start
start_lawful : (n : ℕ) (ring : Ring) → 0 < n → IsStartRing n ring → IsLawfulRing n ring
start_lawful n ring some start =
    let at : ring.token.at ≡ 0 = ap (λ (t : Token). t.at) start.token in
    let sum : ring.token.sum ≡ pos 0 = ap (λ (t : Token). t.sum) start.token in
    record {
      in_order = λ i j low_i low_j. omega (arith, start.posted i j low_i low_j, start.taken i j low_i low_j);
      few = λ i j low_i low_j. omega (arith, start.posted i j low_i low_j);
      at = omega (arith, at, some);
      low = omega (arith, ints, sum);
      high = omega (arith, ints, sum);
      all_white = λ ended. absurd (let e : true ≡ false = sym ended ∙ start.running in cc);
      all_taken = λ ended. absurd (let e : true ≡ false = sym ended ∙ start.running in cc);
      reason = black_token (ap (λ (t : Token). t.black) start.token);
    }

pub matches_start : (k : Setting) (state : State) → IsSetting k → IsStartRing k.n state.ring → ((i j : ℕ) → state.world.waiting i j ≡ []) → Matches k state
matches_start k state setting start none = record {
  lawful = start_lawful k.n state.ring setting.nodes.0 start;
  idle = λ i low white. absurd (let e : true ≡ false = sym (start.black i low) ∙ white in cc);
  posted = λ i j low_i low_j.
      omega (arith, start.posted i j low_i low_j, start.taken i j low_i low_j, ap length (none i j));
}

pub few_start : (n : ℕ) (ring : Ring) (steps : ℕ) → IsStartRing n ring → HasAtMost n steps ring
few_start n ring steps start i j low_i low_j = omega (arith, start.posted i j low_i low_j)

kept_start : (k : Setting) (state : State) → IsSetting k → IsWorldStart k state → Keeps k state 0
kept_start k state setting start = record {
  lawful = subst (λ (w : WorldView). AreLawful k w.nodes) (sym start.world_is)
      (lawful_shown k start.openings start.nodes start.lanes setting.nodes.0 start.are_openings start.opened start.empty);
  linked = subst (λ (w : WorldView). IsLinked k w) (sym start.world_is)
      (linked_start k start.openings start.nodes start.lanes setting.nodes.0 start.are_openings start.opened start.empty);
  matches = matches_start k state setting start.ring (λ i j. ap (λ (w : WorldView). w.waiting i j) start.world_is
      ∙ waits_start k start.openings start.nodes start.lanes setting.nodes.0 start.are_openings start.opened start.empty i j);
  few = few_start k.n state.ring 0 start.ring;
}

-- ---- the promise in any world
pub headline_holds : HeadlineHolds
headline_holds k start state events setting is_start room after =
    let keeps = (kept_after k setting start state events 0 (omega (arith, room)) after (kept_start k start setting is_start)).1 in
    headline_of k setting (is_start.openings, is_start.are_openings) state keeps.lawful keeps.linked keeps.matches

pub stood_headline : (k : Setting) (nodes : List Node) (lanes : List Lane) (detector : Detector) (steps : ℕ) → Stand k nodes lanes detector steps →
    Headline k (record { world = world_shown k.family k.n nodes lanes; ring = ring_of detector })
stood_headline k nodes lanes detector steps stand = headline_of k stand.setting stand.openings
    (record { world = world_shown k.family k.n nodes lanes; ring = ring_of detector }) stand.lawful stand.linked stand.matches

pub standing_headline : (world : World) → IsStanding world → Headline (setting_of world) (state_of world)
standing_headline world = stood_headline (setting_of world) world.nodes.items world.lanes.items world.detector world.steps

-- a world that is as it was stands as it did
pub stand_unchanged : (old new : World) → IsWorldUnchanged old new → IsStanding old → IsStanding new
stand_unchanged old new same standing =
    subst (λ (w : Setting × List Node × List Lane × Detector × ℕ). Stand w.0 w.1 w.2 w.3 w.4)
    (λ d. (sym same.setting d, sym same.nodes d, sym same.lanes d, sym same.detector d, sym same.steps d)) standing

-- ---- after a stop, where a batch is taken up to an item

module _ (k : Setting) (old new : WorldView) (some : 0 < k.n) (lawful : AreLawful k old.nodes) (linked : IsLinked k old) (i j : ℕ) (low_i : i < k.n)
    (low_j : j < k.n) (differs : i ≢ j) (left : TakesFront k i j old new) where
  abbrev between : Nodes
  between = left.deep.between

  applied_some : FrontApplied k i j left.deep.front (left.deep.item ∷ left.deep.behind) old.nodes between
  applied_some = front_applied k old i j left.deep.batch left.deep.batches left.deep.front (left.deep.item ∷ left.deep.behind) between some lawful linked
      low_i low_j differs left.deep.first left.deep.items_are left.deep.applied

  -- histories only grow, and so do the items that they make
  sent_begins : (m l : ℕ) → m < k.n → l < k.n → m ≢ l → IsBeginning (old.sent m l) (items_in k between m l)
  sent_begins m l low_m low_l apart =
      let begun = (lists_are_beginnings k old m l linked low_m low_l apart).0 in
      let more = (applied_some.applied.grows.history m).0 in
      let later = items_from (predecessors k.family) k.n l more in (
        begun.0 ++ later,
        ap (λ h. items_from (predecessors k.family) k.n l h) (applied_some.applied.grows.history m).1
            ∙ items_from-append (predecessors k.family) k.n l (old.nodes.history m) more
            ∙ ap (λ xs. xs ++ later) begun.1
            ∙ append_assoc (old.sent m l) begun.0 later,
      )

  -- what was applied of the batch was sent with it
  front_begins : IsBeginning (between.applied i j) (old.sent i j)
  front_begins =
      let others = items_of_batches left.deep.batches in
      let behind = left.deep.item ∷ left.deep.behind in
      let begun = old.nodes.applied i j in (
        behind ++ others,
        linked.taken i j low_i low_j differs
            ∙ ap (λ bs. begun ++ items_of_batches bs) left.deep.first
            ∙ ap (λ xs. begun ++ (xs ++ others)) left.deep.items_are
            ∙ ap (λ xs. begun ++ xs) (append_assoc left.deep.front behind others)
            ∙ sym (append_assoc begun left.deep.front (behind ++ others))
            ∙ ap (λ xs. xs ++ (behind ++ others)) (sym applied_some.applied.grows.applied),
      )

  applied_begins : (m l : ℕ) → m < k.n → l < k.n → m ≢ l → IsBeginning (between.applied m l) (old.sent m l)
  applied_begins m l low_m low_l apart = at_link (λ a b. IsBeginning (between.applied a b) (old.sent a b)) i j m l front_begins (λ other.
      subst (λ xs. IsBeginning xs (old.sent m l)) (sym (applied_some.applied.grows.others m l other))
      (lists_are_beginnings k old m l linked low_m low_l apart).1)

  lawful_left : AreLawful k new.nodes
  lawful_left = subst (λ (x : Nodes). AreLawful k x) (sym left.applied) applied_some.applied.lawful

  pub front_left : AreBeginnings k new
  front_left = record {
    sent = λ m l low_m low_l apart. subst (λ (x : Nodes). IsBeginning (new.sent m l) (items_in k x m l)) (sym left.applied)
        (subst (λ xs. IsBeginning xs (items_in k between m l)) (sym (left.same.3 m l)) (sent_begins m l low_m low_l apart));
    applied = λ m l low_m low_l apart. subst (λ (x : Nodes). IsBeginning (x.applied m l) (new.sent m l)) (sym left.applied)
        (subst (λ xs. IsBeginning (between.applied m l) xs) (sym (left.same.3 m l)) (applied_begins m l low_m low_l apart));
    own = λ m low. lawful_left.begun m m low low;
    cells = lawful_left;
    known = known_values k new.nodes lawful_left;
  }

-- ---- after any stop
same_begins : (k : Setting) (old new : WorldView) → AreLawful k old.nodes → IsLinked k old → new ≡ old → AreBeginnings k new
same_begins k old new lawful linked same = subst (λ (w : WorldView). AreBeginnings k w) (sym same) (begins k old lawful linked)

-- whatever stops a node, what is left of lists and cells is as it should be
pub left_begins : (k : Setting) (old : State) (event : Event) (fault : BuildFault) (new : WorldView) → 0 < k.n → AreLawful k old.world.nodes →
    IsLinked k old.world → CanHappen k old event → IsLeftBy k old.world event fault new → AreBeginnings k new
left_begins k old (Take i j) fault new some lawful linked can left = elim left [
  | inl memory ↦ same_begins k old.world new lawful linked memory.1
  | inr deep ↦ front_left k old.world new some lawful linked i j can.0 can.1 can.2 deep.1
]
left_begins k old _ fault new some lawful linked can left = same_begins k old.world new lawful linked left

-- after lack of memory it is all that there was
pub left_shown : (k : Setting) (old : WorldView) (event : Event) (fault : BuildFault) (new : WorldView) → IsLeftBy k old event fault new → IsForMemory fault →
    new ≡ old
left_shown k old (Take i j) fault new left memory = elim left [
  | inl same ↦ same.1
  | inr deep ↦ absurd (let e : Stopped j cause.TooDeep ≡ Stopped memory.0 cause.Memory = sym deep.0 ∙ memory.1 in cc)
]
left_shown k old _ fault new left memory = left

-- a world in which an event can happen hasn't announced its end, and one with the same ring hasn't either
stopped_silent : (old new : World) → IsStanding old → (event : Event) → CanHappen (setting_of old) (state_of old) event →
    new.detector ≡ old.detector → new.detector.announced ≡ false
stopped_silent old new standing event can same = ap (λ (d : Detector). d.announced) same ∙ (elim (cases_Bool old.detector.announced) [
  | inl ended ↦ absurd (((standing_headline old standing).silence ended).nothing event can)
  | inr going ↦ going
])

pub stop_leaves : (old new : World) (event : Event) (fault : BuildFault) → IsStanding old → IsStopped event fault old new → IsLeft fault new
stop_leaves old new event fault standing stopped =
    let k = setting_of old in
    let shown = left_shown k (state_of old).world event fault (state_of new).world stopped.left in
    record {
      stop = (k, state_of old, event, stopped.stop);
      unannounced = stopped_silent old new standing event stopped.stop.0 stopped.same.0;
      beginnings = subst (λ (s : Setting). AreBeginnings s (state_of new).world) (sym stopped.setting)
          (left_begins k (state_of old) event fault (state_of new).world standing.setting.nodes.0 standing.lawful standing.linked stopped.stop.0 stopped.left);
      headline = λ memory. subst (λ (s : Setting). Headline s (state_of new)) (sym stopped.setting)
          (subst (λ (s : State). Headline k s) (λ d. record { world = sym (shown memory) d; ring = ring_of (sym stopped.same.0 d) })
          (standing_headline old standing));
    }

pub kept_left : (world : World) (fault : BuildFault) → world.failed ≡ Some fault → StandsOrStopped world → IsLeft fault world
kept_left world fault failed kept = subst (λ f. MatchOption f (IsStanding world) (λ (why : BuildFault). IsLeft why world)) failed kept
