-- What each event keeps, and any events one after another: nodes stay lawful and linked, settlements keep their falls, the next item
-- always fits, for few classes none goes too deep, and a ring that matches its world still does.
use Rattle.dob_world.proofs.Common.{◌++◌, ◌+◌, ◌<◌, ◌^◌, ◌∙◌, ◌∷◌, ◌≡◌, ◌≢◌, ◌≤◌, ◌⊎◌, [], Announce, Applies, AppliesItems, AppliesOwn, AreLawful, BatchView}
use Rattle.dob_world.proofs.Common.{BuildFault, CanApply, CanHappen, CountsStay, Event, EventsKeepAll, Expand, ExpandsAt, HappeningKeepsAll}
use Rattle.dob_world.proofs.Common.{HappeningKeepsMatch, Happens, HasAtMost, HaveFallsIn, IsForMemory, IsLawfulRing, IsLinked, IsNodeIdle, IsSize, IsStopBy}
use Rattle.dob_world.proofs.Common.{Item, LinksStay, List, ListsAreBeginnings, Matches, Moved, Nodes, NodesStay, Own, OwnItemFits, Pass, Post, Posts, Ring}
use Rattle.dob_world.proofs.Common.{Setting, Settlement, State, Take, TakenItemFits, TakesBatch, WorldView, ap, append-nil, append_assoc, arith, cases_Bool}
use Rattle.dob_world.proofs.Common.{cases_eq, classes_of, drop, emitted_all, emitted_grown, emitted_in, emitted_more, false, inl, inr, items_from, items_in}
use Rattle.dob_world.proofs.Common.{items_of, items_of_batches, length, length-append, moved_kept, predecessors, slice_get_within, subst, sym, take}
use Rattle.dob_world.proofs.Common.{take-append-drop, true, value_in, ℕ}
use Rattle.dob_share.specs.Shares.{GoesTooDeep}
use Rattle.dob_update.proofs.BatchItems.{items_in_more}
use Rattle.dob_history.proofs.Kept.{better_apart}
use Rattle.dob_history.proofs.Rises.{falls_stay, not_too_deep}
use Rattle.dob_history.proofs.Steps.{can_apply, lawful_after}
use Rattle.dob_safra.specs.declared.event.RingEvent.TheVariants as ring
use Rattle.dob_world.proofs.InPlace.{at_node, at_link, by_stay}
use Rattle.dob_world.proofs.Firsts.{none_some}

-- ---- items applied one after the other

-- What node j has applied from node i is longer by the items, and what others have applied stays; each history goes on
-- with some settlements more, and those of other nodes than j stay.
pub record Grows (i j : ℕ) (items : List Item) (old new : Nodes) : Type 0 where
  pub applied : new.applied i j ≡ old.applied i j ++ items
  pub others : (m l : ℕ) → (m ≢ i) ⊎ (l ≢ j) → new.applied m l ≡ old.applied m l
  pub history : (m : ℕ) → (more : List Settlement) × (new.history m ≡ old.history m ++ more)
  pub elsewhere : (m : ℕ) → m ≢ j → new.history m ≡ old.history m

pub step_grows : (k : Setting) (i j : ℕ) (item : Item) (old new : Nodes) → Applies k i j item old new → Grows i j (item ∷ []) old new
step_grows k i j item old new step = record {
  applied = step.listed.one_more;
  others = λ m l other. at_receiver m l other;
  history = λ m. at_node (λ a. (more : List Settlement) × (new.history a ≡ old.history a ++ more)) j m here
      (λ other. ([], step.settled.others m other ∙ sym (append-nil (old.history m))));
  elsewhere = step.settled.others;
}
  where
    here : (more : List Settlement) × (new.history j ≡ old.history j ++ more)
    here = elim step.cells.better [
      | inl same ↦ ([], step.settled.same same ∙ sym (append-nil (old.history j)))
      | inr better ↦ (
        record { number = length (old.history j); class = item.to; was = value_in k.n old item.to; now = value_in k.n new item.to } ∷ [],
        step.settled.more (λ same. better_apart (value_in k.n old item.to) (value_in k.n new item.to) better same),
      )
    ]

    at_receiver : (m l : ℕ) → (m ≢ i) ⊎ (l ≢ j) → new.applied m l ≡ old.applied m l
    at_receiver m l (inr other) = step.listed.same_receiver m l other
    at_receiver m l (inl other) = at_node (λ b. new.applied m b ≡ old.applied m b) j l (step.listed.same_sender m other)
        (λ elsewhere. step.listed.same_receiver m l elsewhere)

none_grows : (i j : ℕ) (old new : Nodes) → NodesStay old new → Grows i j [] old new
none_grows i j old new stay = record {
  applied = stay.applied i j ∙ sym (append-nil (old.applied i j));
  others = λ m l other. stay.applied m l;
  history = λ m. ([], stay.history m ∙ sym (append-nil (old.history m)));
  elsewhere = λ m other. stay.history m;
}

both_grow : (i j : ℕ) (front behind : List Item) (old between new : Nodes) → Grows i j front old between → Grows i j behind between new →
    Grows i j (front ++ behind) old new
both_grow i j front behind old between new one other = record {
  applied = other.applied ∙ ap (λ xs. xs ++ behind) one.applied ∙ append_assoc (old.applied i j) front behind;
  others = λ m l differs. other.others m l differs ∙ one.others m l differs;
  history = λ m. (
    (one.history m).0 ++ (other.history m).0,
    (other.history m).1 ∙ ap (λ xs. xs ++ (other.history m).0) (one.history m).1 ∙ append_assoc (old.history m) (one.history m).0 (other.history m).0,
  );
  elsewhere = λ m differs. other.elsewhere m differs ∙ one.elsewhere m differs;
}

-- what comes next after some items
pub next_after : (k : Setting) (i j : ℕ) (front rest : List Item) (old new : Nodes) → i ≢ j → Grows i j front old new →
    items_in k old i j ≡ old.applied i j ++ (front ++ rest) → items_in k new i j ≡ new.applied i j ++ rest
next_after k i j front rest old new differs grows is =
    ap (λ h. items_from (predecessors k.family) k.n j h) (grows.elsewhere i differs)
    ∙ is
    ∙ sym (append_assoc (old.applied i j) front rest)
    ∙ ap (λ xs. xs ++ rest) (sym grows.applied)

module _ (k : Setting) (some : 0 < k.n) (i j : ℕ) (low_i : i < k.n) (low_j : j < k.n) (item : Item) (old : Nodes) (lawful : AreLawful k old)
    (rest : List Item) (is_next : items_in k old i j ≡ old.applied i j ++ item ∷ rest) where
  -- the next item fits its cell
  pub next_fits : CanApply k.family k.n j old.cell item
  next_fits = can_apply k.family k.n old.history old.applied old.cell (value_in k.n old) some lawful i j low_i low_j item (rest, is_next)

  -- and doesn't go too deep for few classes
  next_not_deep : HaveFallsIn k old → classes_of k.family < 65535 → GoesTooDeep item (old.cell item.to) → ⊥
  unfolding GoesTooDeep
  next_not_deep falls = not_too_deep k.family k.n old.history old.applied old.cell (value_in k.n old) some lawful falls i j low_i low_j item (rest, is_next)

  pub lawful_step : (new : Nodes) → Applies k i j item old new → AreLawful k new
  lawful_step new step = lawful_after k.family k.n old.history old.applied old.cell (value_in k.n old) some lawful i j low_i low_j item (rest, is_next)
      new.applied step.listed new.cell (value_in k.n new) step.cells new.history step.settled

  falls_step : (new : Nodes) → Applies k i j item old new → HaveFallsIn k old → HaveFallsIn k new
  falls_step new step falls = falls_stay k.family k.n old.history old.applied old.cell (value_in k.n old) some lawful falls i j low_i low_j item (rest, is_next)
      new.cell (value_in k.n new) step.cells new.history step.settled

-- What node j keeps as it applies items of node i.
pub record Applied (k : Setting) (i j : ℕ) (items : List Item) (old new : Nodes) : Type 0 where
  pub lawful : AreLawful k new
  pub falls : HaveFallsIn k old → HaveFallsIn k new
  pub grows : Grows i j items old new

module _ (k : Setting) (some : 0 < k.n) (i j : ℕ) (low_i : i < k.n) (low_j : j < k.n) (differs : i ≢ j) where
  -- the items of another node, applied in order
  all_applied : (items rest : List Item) (old new : Nodes) → AreLawful k old → items_in k old i j ≡ old.applied i j ++ (items ++ rest) →
      AppliesItems k i j items old new → Applied k i j items old new
  all_applied [] rest old new lawful is all = record {
    lawful = by_stay (AreLawful k) old new all lawful;
    falls = by_stay (HaveFallsIn k) old new all;
    grows = none_grows i j old new all;
  }
  all_applied (item ∷ items) rest old new lawful is all =
      let step = step_grows k i j item old all.0 all.1 in
      let behind = all_applied items rest all.0 new
      (lawful_step k some i j low_i low_j item old lawful (items ++ rest) is all.0 all.1)
      (next_after k i j (item ∷ []) (items ++ rest) old all.0 differs step is) all.2 in
      record {
        lawful = behind.lawful;
        falls = λ falls. behind.falls (falls_step k some i j low_i low_j item old lawful (items ++ rest) is all.0 all.1 falls);
        grows = both_grow i j (item ∷ []) items old all.0 new step behind.grows;
      }

-- ---- lists in two parts

module _ {X : Type 0} {a x y : List X} where
  -- all three are as they were
  parts_stay : {b c z : List X} → x ≡ a → y ≡ b → z ≡ c → a ≡ b ++ c → x ≡ y ++ z
  parts_stay p q r e = cc

  -- the second part is longer, and so is the whole
  parts_longer : (b c more : List X) {z : List X} → a ≡ b ++ c → x ≡ a ++ more → y ≡ b → z ≡ c ++ more → x ≡ y ++ z
  parts_longer b c more e p q r = cc (append_assoc b c more)

  -- what was first of the second part is the last of the first
  parts_moved : (b front z : List X) {c : List X} → x ≡ a → c ≡ front ++ z → y ≡ b ++ front → a ≡ b ++ c → x ≡ y ++ z
  parts_moved b front z p q r e = cc (append_assoc b front z)

-- items of the same history, as far as it was expanded
emitted_stays : (k : Setting) (old new : WorldView) (m l : ℕ) → new.nodes.history m ≡ old.nodes.history m → new.expanded m ≡ old.expanded m →
    emitted_in k new m l ≡ emitted_in k old m l
emitted_stays k old new m l history expanded = cc

-- ---- a settlement expanded

module _ (k : Setting) (i : ℕ) (old new : WorldView) (low_i : i < k.n) (linked : IsLinked k old) (step : ExpandsAt k i old new) where
  emitted_here : (j : ℕ) → emitted_in k new i j ≡ emitted_in k old i j ++ items_of (predecessors k.family) k.n j step.settlement
  emitted_here j =
      let more = emitted_more (predecessors k.family) k.n j (old.nodes.history i) (old.expanded i) step.settlement step.is_next in
      cc (step.nodes.history i, step.expanded)

  linked_expanded : IsLinked k new
  linked_expanded = record {
    expanded = λ m low. at_node (λ a. new.expanded a ≤ length (new.nodes.history a)) i m
        (omega (arith, step.expanded, slice_get_within (old.nodes.history i) (old.expanded i) step.settlement step.is_next, ap length (step.nodes.history i)))
        (λ other. omega (arith, step.others.0 m other, linked.expanded m low, ap length (step.nodes.history m)));
    own = λ m low. at_node (λ a. emitted_in k new a a ≡ new.nodes.applied a a ++ new.own a) i m
        (parts_longer (old.nodes.applied i i) (old.own i) (items_of (predecessors k.family) k.n i step.settlement) (linked.own i low_i) (emitted_here i)
        (step.nodes.applied i i) step.own)
        (λ other. parts_stay (elsewhere m m other) (step.nodes.applied m m) (step.others.1 m other) (linked.own m low));
    posted = λ m l low_m low_l differs. at_node (λ a. a ≢ l → emitted_in k new a l ≡ new.sent a l ++ new.outbox a l) i m
        (λ apart. parts_longer (old.sent i l) (old.outbox i l) (items_of (predecessors k.family) k.n l step.settlement) (linked.posted i l low_i low_l apart)
        (emitted_here l) (step.links.1 i l) (step.outboxes l low_l (λ same. apart (sym same))))
        (λ other apart. parts_stay (elsewhere m l other) (step.links.1 m l) (ap (λ f. f l) (step.others.2 m other)) (linked.posted m l low_m low_l apart))
        differs;
    taken = λ m l low_m low_l differs. parts_stay (step.links.1 m l) (step.nodes.applied m l) (ap items_of_batches (step.links.0 m l))
        (linked.taken m l low_m low_l differs);
  }
    where
      elsewhere : (m l : ℕ) → m ≢ i → emitted_in k new m l ≡ emitted_in k old m l
      elsewhere m l other = emitted_stays k old new m l (step.nodes.history m) (step.others.0 m other)

-- ---- histories that grow

module _ (k : Setting) (i j : ℕ) (items : List Item) (old new : WorldView) (linked : IsLinked k old) (grows : Grows i j items old.nodes new.nodes)
    (same : (m : ℕ) → new.expanded m ≡ old.expanded m) where
  emitted_same : (m l : ℕ) → m < k.n → emitted_in k new m l ≡ emitted_in k old m l
  emitted_same m l low =
      ap (λ e. items_from (predecessors k.family) k.n l (take e (new.nodes.history m))) (same m)
      ∙ emitted_grown (predecessors k.family) k.n l (old.nodes.history m) (grows.history m).0 (new.nodes.history m) (old.expanded m)
      (linked.expanded m low) (grows.history m).1

  within_same : (m : ℕ) → m < k.n → new.expanded m ≤ length (new.nodes.history m)
  within_same m low = omega (arith, same m, linked.expanded m low, ap length (grows.history m).1, length-append (old.nodes.history m) (grows.history m).0)

-- ---- an own item applied

module _ (k : Setting) (i : ℕ) (old new : WorldView) (low_i : i < k.n) (linked : IsLinked k old) (step : AppliesOwn k i old new)
    (grows : Grows i i (step.item ∷ []) old.nodes new.nodes) where
  linked_own : IsLinked k new
  linked_own = record {
    expanded = within_same k i i (step.item ∷ []) old new linked grows step.same.0;
    own = λ m low. at_node (λ a. emitted_in k new a a ≡ new.nodes.applied a a ++ new.own a) i m
        (parts_moved (old.nodes.applied i i) (step.item ∷ []) (new.own i) (stays i i low_i) step.first grows.applied (linked.own i low_i))
        (λ other. parts_stay (stays m m low) (grows.others m m (inl other)) (step.others m other) (linked.own m low));
    posted = λ m l low_m low_l differs. parts_stay (stays m l low_m) (step.links.1 m l) (step.same.1 m l) (linked.posted m l low_m low_l differs);
    taken = λ m l low_m low_l differs. parts_stay (step.links.1 m l) (grows.others m l (apart m l differs)) (ap items_of_batches (step.links.0 m l))
        (linked.taken m l low_m low_l differs);
  }
    where
      stays : (m l : ℕ) → m < k.n → emitted_in k new m l ≡ emitted_in k old m l
      stays = emitted_same k i i (step.item ∷ []) old new linked grows step.same.0

      apart : (m l : ℕ) → m ≢ l → (m ≢ i) ⊎ (l ≢ i)
      apart m l differs = at_node (λ a. a ≢ l → (a ≢ i) ⊎ (l ≢ i)) i m (λ other. inr (λ is. other (sym is))) (λ other _. inl other) differs

-- ---- a batch posted

module _ (k : Setting) (i j : ℕ) (old new : WorldView) (linked : IsLinked k old) (step : Posts k i j old new) where
  linked_posted : IsLinked k new
  linked_posted = record {
    expanded = λ m low. omega (arith, step.same.0 m, linked.expanded m low, ap length (step.nodes.history m));
    own = λ m low. parts_stay (stays m m) (step.nodes.applied m m) (step.same.1 m) (linked.own m low);
    posted = λ m l low_m low_l apart. at_link (λ a b. emitted_in k old a b ≡ old.sent a b ++ old.outbox a b →
        emitted_in k new a b ≡ new.sent a b ++ new.outbox a b) i j m l (parts_moved (old.sent i j) step.batch.items (new.outbox i j) (stays i j) cut step.sent)
        (λ other. parts_stay (stays m l) (step.others.2 m l other) (step.others.0 m l other)) (linked.posted m l low_m low_l apart);
    taken = λ m l low_m low_l apart. at_link (λ a b. old.sent a b ≡ old.nodes.applied a b ++ items_of_batches (old.waiting a b) →
        new.sent a b ≡ new.nodes.applied a b ++ items_of_batches (new.waiting a b)) i j m l
        (λ before. parts_longer (old.nodes.applied i j) (items_of_batches (old.waiting i j)) step.batch.items before step.sent (step.nodes.applied i j)
        (ap items_of_batches step.waits ∙ items_in_more (old.waiting i j) step.batch))
        (λ other. parts_stay (step.others.2 m l other) (step.nodes.applied m l) (ap items_of_batches (step.others.1 m l other)))
        (linked.taken m l low_m low_l apart);
  }
    where
      stays : (m l : ℕ) → emitted_in k new m l ≡ emitted_in k old m l
      stays m l = emitted_stays k old new m l (step.nodes.history m) (step.same.0 m)

      cut : old.outbox i j ≡ step.batch.items ++ new.outbox i j
      cut = rw (step.items, step.left) (sym (take-append-drop k.batch (old.outbox i j)))

-- ---- a batch taken

module _ (k : Setting) (i j : ℕ) (old new : WorldView) (differs : i ≢ j) (linked : IsLinked k old) (step : TakesBatch k i j old new)
    (grows : Grows i j step.batch.items old.nodes new.nodes) where
  linked_taken : IsLinked k new
  linked_taken = record {
    expanded = within_same k i j step.batch.items old new linked grows step.same.0;
    own = λ m low. parts_stay (stays m m low) (grows.others m m (not_both m)) (step.same.1 m) (linked.own m low);
    posted = λ m l low_m low_l apart. parts_stay (stays m l low_m) (step.same.3 m l) (step.same.2 m l) (linked.posted m l low_m low_l apart);
    taken = λ m l low_m low_l apart. at_link (λ a b. old.sent a b ≡ old.nodes.applied a b ++ items_of_batches (old.waiting a b) →
        new.sent a b ≡ new.nodes.applied a b ++ items_of_batches (new.waiting a b)) i j m l
        (parts_moved (old.nodes.applied i j) step.batch.items (items_of_batches (new.waiting i j)) (step.same.3 i j) (ap items_of_batches step.first)
        grows.applied)
        (λ other. parts_stay (step.same.3 m l) (grows.others m l other) (ap items_of_batches (step.others m l other))) (linked.taken m l low_m low_l apart);
  }
    where
      stays : (m l : ℕ) → m < k.n → emitted_in k new m l ≡ emitted_in k old m l
      stays = emitted_same k i j step.batch.items old new linked grows step.same.0

      not_both : (m : ℕ) → (m ≢ i) ⊎ (m ≢ j)
      not_both m = at_node (λ a. (a ≢ i) ⊎ (a ≢ j)) i m (inr differs) (λ other. inl other)

-- ---- what comes next on a node's way to itself and on a link

-- what node i hasn't expanded yet for node j
abbrev later : Setting → WorldView → ℕ → ℕ → List Item
later k world i j = items_from (predecessors k.family) k.n j (drop (world.expanded i) (world.nodes.history i))

-- of the own items
pub next_own : (k : Setting) (world : WorldView) (i : ℕ) (items : List Item) → IsLinked k world → i < k.n → world.own i ≡ items →
    items_in k world.nodes i i ≡ world.nodes.applied i i ++ (items ++ items_from (predecessors k.family) k.n i (drop (world.expanded i) (world.nodes.history i)))
next_own k world i items linked low is =
    emitted_all (predecessors k.family) k.n i (world.nodes.history i) (world.expanded i)
    ∙ ap (λ xs. xs ++ later k world i i) (linked.own i low ∙ ap (λ xs. world.nodes.applied i i ++ xs) is)
    ∙ append_assoc (world.nodes.applied i i) items (later k world i i)

-- of the items sent
next_sent : (k : Setting) (world : WorldView) (i j : ℕ) → IsLinked k world → i < k.n → j < k.n → i ≢ j →
    items_in k world.nodes i j ≡ world.sent i j ++ (world.outbox i j ++ later k world i j)
next_sent k world i j linked low_i low_j differs =
    emitted_all (predecessors k.family) k.n j (world.nodes.history i) (world.expanded i)
    ∙ ap (λ xs. xs ++ later k world i j) (linked.posted i j low_i low_j differs)
    ∙ append_assoc (world.sent i j) (world.outbox i j) (later k world i j)

pub lists_are_beginnings : ListsAreBeginnings
lists_are_beginnings k world i j linked low_i low_j differs = (
  (world.outbox i j ++ later k world i j, next_sent k world i j linked low_i low_j differs),
  (items_of_batches (world.waiting i j), linked.taken i j low_i low_j differs),
)

-- of the batches that wait
pub next_waiting : (k : Setting) (world : WorldView) (i j : ℕ) (batch : BatchView) (batches : List BatchView) → IsLinked k world → i < k.n → j < k.n →
    i ≢ j → world.waiting i j ≡ batch ∷ batches →
    items_in k world.nodes i j ≡ world.nodes.applied i j ++ (batch.items ++ (items_of_batches batches ++ (world.outbox i j
    ++ items_from (predecessors k.family) k.n j (drop (world.expanded i) (world.nodes.history i)))))
next_waiting k world i j batch batches linked low_i low_j differs is =
    let others = world.outbox i j ++ later k world i j in
    next_sent k world i j linked low_i low_j differs
    ∙ ap (λ xs. xs ++ others) (linked.taken i j low_i low_j differs ∙ ap (λ bs. world.nodes.applied i j ++ items_of_batches bs) is)
    ∙ append_assoc (world.nodes.applied i j) (batch.items ++ items_of_batches batches) others
    ∙ ap (λ xs. world.nodes.applied i j ++ xs) (append_assoc batch.items (items_of_batches batches) others)

pub own_item_fits : OwnItemFits
own_item_fits k world i item rest some lawful linked low is =
    next_fits k some i i low low item world.nodes lawful (rest ++ later k world i i) (next_own k world i (item ∷ rest) linked low is)

-- What is left of nodes of which one has applied the first items of a batch: they are lawful, and the batch's others come next.
pub record FrontApplied (k : Setting) (i j : ℕ) (front behind : List Item) (old new : Nodes) : Type 0 where
  pub applied : Applied k i j front old new
  pub rest : List Item
  pub next : items_in k new i j ≡ new.applied i j ++ (behind ++ rest)

pub front_applied : (k : Setting) (world : WorldView) (i j : ℕ) (batch : BatchView) (batches : List BatchView) (front behind : List Item) (nodes : Nodes) →
    0 < k.n → AreLawful k world.nodes → IsLinked k world → i < k.n → j < k.n → i ≢ j → world.waiting i j ≡ batch ∷ batches → batch.items ≡ front ++ behind →
    AppliesItems k i j front world.nodes nodes → FrontApplied k i j front behind world.nodes nodes
front_applied k world i j batch batches front behind nodes some lawful linked low_i low_j differs first items_are applied =
    let others = items_of_batches batches ++ (world.outbox i j ++ later k world i j) in
    let next : items_in k world.nodes i j ≡ world.nodes.applied i j ++ (front ++ (behind ++ others)) =
    next_waiting k world i j batch batches linked low_i low_j differs first
    ∙ ap (λ xs. world.nodes.applied i j ++ (xs ++ others)) items_are
    ∙ ap (λ xs. world.nodes.applied i j ++ xs) (append_assoc front behind others) in
    let all = all_applied k some i j low_i low_j differs front (behind ++ others) world.nodes nodes lawful next applied in
    record { applied = all; rest = others; next = next_after k i j front (behind ++ others) world.nodes nodes differs all.grows next }

pub taken_item_fits : TakenItemFits
taken_item_fits k world i j batch batches front item behind nodes some lawful linked low_i low_j differs first items_are applied =
    let left = front_applied k world i j batch batches front (item ∷ behind) nodes some lawful linked low_i low_j differs first items_are applied in
    next_fits k some i j low_i low_j item nodes left.applied.lawful (behind ++ left.rest) left.next

-- ---- events

-- what is kept of nodes and links
pub record Keeping (k : Setting) (old new : WorldView) : Type 0 where
  pub lawful : AreLawful k new.nodes
  pub linked : IsLinked k new
  pub falls : HaveFallsIn k old.nodes → HaveFallsIn k new.nodes

pub event_keeps : (k : Setting) (old new : State) (event : Event) → 0 < k.n → AreLawful k old.world.nodes → IsLinked k old.world → CanHappen k old event →
    Happens k old event new → Keeping k old.world new.world
event_keeps k old new (Expand i) some lawful linked can step = record {
  lawful = by_stay (AreLawful k) old.world.nodes new.world.nodes step.0.nodes lawful;
  linked = linked_expanded k i old.world new.world can.0 linked step.0;
  falls = by_stay (HaveFallsIn k) old.world.nodes new.world.nodes step.0.nodes;
}
event_keeps k old new (Own i) some lawful linked can step =
    let own = step.0 in
    let rest = new.world.own i ++ later k old.world i i in
    let next = next_own k old.world i (own.item ∷ new.world.own i) linked can.0 own.first in
    record {
      lawful = lawful_step k some i i can.0 can.0 own.item old.world.nodes lawful rest next new.world.nodes own.applied;
      linked = linked_own k i old.world new.world can.0 linked own (step_grows k i i own.item old.world.nodes new.world.nodes own.applied);
      falls = falls_step k some i i can.0 can.0 own.item old.world.nodes lawful rest next new.world.nodes own.applied;
    }
event_keeps k old new (Post i j) some lawful linked can step = record {
  lawful = by_stay (AreLawful k) old.world.nodes new.world.nodes step.0.nodes lawful;
  linked = linked_posted k i j old.world new.world linked step.0;
  falls = by_stay (HaveFallsIn k) old.world.nodes new.world.nodes step.0.nodes;
}
event_keeps k old new (Take i j) some lawful linked can step =
    let all = all_applied k some i j can.0 can.1 can.2 step.0.batch.items
    (items_of_batches (new.world.waiting i j) ++ (old.world.outbox i j ++ later k old.world i j)) old.world.nodes new.world.nodes lawful
    (next_waiting k old.world i j step.0.batch (new.world.waiting i j) linked can.0 can.1 can.2 step.0.first) step.0.applied in
    record { lawful = all.lawful; linked = linked_taken k i j old.world new.world can.2 linked step.0 all.grows; falls = all.falls }
event_keeps k old new _ some lawful linked can step =
    subst (λ (w : WorldView). Keeping k old.world w) (sym step.0) (record { lawful = lawful; linked = linked; falls = λ falls. falls })

pub happening_keeps_all : HappeningKeepsAll
happening_keeps_all k old new event some lawful linked can step =
    let kept = event_keeps k old new event some lawful linked can step in (kept.lawful, kept.linked)

pub events_keep_all : EventsKeepAll
events_keep_all k old new [] some lawful linked after = (
  subst (λ (w : State). AreLawful k w.world.nodes) (sym after) lawful,
  subst (λ (w : State). IsLinked k w.world) (sym after) linked,
)
events_keep_all k old new (event ∷ events) some lawful linked after = elim after.1 [
  | inl done ↦
      let both = happening_keeps_all k old after.0 event some lawful linked done.0 done.1 in
      events_keep_all k after.0 new events some both.0 both.1 after.2
  | inr skipped ↦
      events_keep_all k after.0 new events some (subst (λ (w : State). AreLawful k w.world.nodes) (sym skipped.1) lawful)
      (subst (λ (w : State). IsLinked k w.world) (sym skipped.1) linked) after.2
]

-- for few classes a node stops for lack of memory alone
pub few_stop : (k : Setting) (state : State) (event : Event) (fault : BuildFault) → 0 < k.n → AreLawful k state.world.nodes → IsLinked k state.world →
    HaveFallsIn k state.world.nodes → classes_of k.family < 65535 → IsStopBy k state event fault → IsForMemory fault
few_stop k state (Own i) fault some lawful linked falls few stop = elim stop.1 [
  | inl memory ↦ (i, memory)
  | inr deep ↦
      let own = deep.1 in
      absurd (next_not_deep k some i i stop.0.0 stop.0.0 own.item state.world.nodes lawful (own.behind ++ later k state.world i i)
      (next_own k state.world i (own.item ∷ own.behind) linked stop.0.0 own.first) falls few own.deep)
]
few_stop k state (Take i j) fault some lawful linked falls few stop = elim stop.1 [
  | inl memory ↦ (j, memory)
  | inr deep ↦
      let take = deep.1 in
      let left = front_applied k state.world i j take.batch take.batches take.front (take.item ∷ take.behind) take.between some lawful linked
      stop.0.0 stop.0.1 stop.0.2 take.first take.items_are take.applied in
      absurd (next_not_deep k some i j stop.0.0 stop.0.1 take.item take.between left.applied.lawful (take.behind ++ left.rest) left.next
      (left.applied.falls falls) few take.deep)
]
few_stop k state (Expand i) fault some lawful linked falls few stop = (i, stop.1)
few_stop k state (Post i j) fault some lawful linked falls few stop = (i, stop.1)
few_stop k state _ fault some lawful linked falls few stop = absurd stop.1

-- ---- a ring that matches its world

-- a node that isn't idle is black
pub busy_black : (k : Setting) (state : State) → Matches k state → (i : ℕ) → i < k.n → (IsNodeIdle k state.world i → ⊥) → state.ring.black i ≡ true
busy_black k state matches i low busy = elim (cases_Bool (state.ring.black i)) [
  | inl black ↦ black
  | inr white ↦ absurd (busy (matches.idle i low white))
]

-- a node whose parts stay is as idle as before
idle_same : (k : Setting) (old new : WorldView) (i : ℕ) → new.expanded i ≡ old.expanded i → new.nodes.history i ≡ old.nodes.history i → new.own i ≡ old.own i →
    ((j : ℕ) → j < k.n → j ≢ i → new.outbox i j ≡ old.outbox i j) → IsNodeIdle k old i → IsNodeIdle k new i
idle_same k old new i expanded history own outboxes idle = record {
  expanded = expanded ∙ idle.expanded ∙ ap length (sym history);
  own = own ∙ idle.own;
  outboxes = λ j low differs. outboxes j low differs ∙ idle.outboxes j low differs;
}

-- the histories of other nodes than j stay where it applies items
pub all_elsewhere : (k : Setting) (i j : ℕ) (items : List Item) (old new : Nodes) → AppliesItems k i j items old new → (m : ℕ) → m ≢ j →
    new.history m ≡ old.history m
all_elsewhere k i j [] old new applied m other = applied.history m
all_elsewhere k i j (item ∷ items) old new applied m other =
    all_elsewhere k i j items applied.0 new applied.2 m other ∙ applied.1.settled.others m other

-- where one node isn't idle before, or is black afterwards, each other white node is as idle as before
white_else : (k : Setting) (old new : State) (i : ℕ) → ((m : ℕ) → m < k.n → m ≢ i → new.ring.black m ≡ old.ring.black m) → new.ring.black i ≡ true →
    ((m : ℕ) → m < k.n → m ≢ i → IsNodeIdle k old.world m → IsNodeIdle k new.world m) → Matches k old → (m : ℕ) → m < k.n → new.ring.black m ≡ false →
    IsNodeIdle k new.world m
white_else k old new i colours black stay matches m low white = elim (cases_eq m i) [
  | inl same ↦ let e : true ≡ false = sym black ∙ ap new.ring.black (sym same) ∙ white in absurd cc
  | inr other ↦ stay m low other (matches.idle m low (sym (colours m low other) ∙ white))
]

module _ (k : Setting) (old new : State) (size : IsSize k.n) (matches : Matches k old) where
  -- an event that leaves the ring and what waits, of a node that wasn't idle
  ring_left : (i : ℕ) → i < k.n → (IsNodeIdle k old.world i → ⊥) → new.ring ≡ old.ring → LinksStay old.world.waiting new.world.waiting →
      ((m : ℕ) → m < k.n → m ≢ i → IsNodeIdle k old.world m → IsNodeIdle k new.world m) → Matches k new
  ring_left i low busy same waits stay = record {
    lawful = subst (λ (r : Ring). IsLawfulRing k.n r) (sym same) matches.lawful;
    idle = white_else k old new i (λ m below other. ap (λ (r : Ring). r.black m) same)
        (ap (λ (r : Ring). r.black i) same ∙ busy_black k old matches i low busy) stay matches;
    posted = λ m l low_m low_l. let was = matches.posted m l low_m low_l in
        omega (arith, ap (λ (r : Ring). r.posted m l) same, ap (λ (r : Ring). r.taken m l) same, ap length (waits m l));
  }

  -- ---- events of links

  pub matches_posted : (i j : ℕ) → i < k.n → j < k.n → Posts k i j old.world new.world → Moved k.n old.ring (ring.Post i j) new.ring →
      HasAtMost k.n (2 ^ 40) new.ring → Matches k new
  matches_posted i j low_i low_j step moved few = record {
    lawful = moved_kept k.n old.ring new.ring (ring.Post i j) size matches.lawful moved few;
    idle = white_else k old new i (λ m below other. moved.colours m below) (moved.colours i low_i ∙ moved.is_black)
        (λ m below other. idle_same k old.world new.world m (step.same.0 m) (step.nodes.history m) (step.same.1 m)
        (λ l low_l differs. step.others.0 m l (inl other))) matches;
    posted = λ m l low_m low_l. at_link (λ a b. new.ring.posted a b ≡ new.ring.taken a b + length (new.world.waiting a b)) i j m l here
        (λ other. let was = matches.posted m l low_m low_l in
        omega (arith, moved.posted.others m l low_m low_l other, moved.taken m l low_m low_l, ap length (step.others.1 m l other)));
  }
    where
      here : new.ring.posted i j ≡ new.ring.taken i j + length (new.world.waiting i j)
      here = let was = matches.posted i j low_i low_j in let same = moved.taken i j low_i low_j in
          omega (arith, ap length step.waits ∙ length-append (old.world.waiting i j) (step.batch ∷ []), moved.posted.one_more)

  pub matches_taken : (i j : ℕ) → i < k.n → j < k.n → TakesBatch k i j old.world new.world → Moved k.n old.ring (ring.Take i j) new.ring →
      HasAtMost k.n (2 ^ 40) new.ring → Matches k new
  matches_taken i j low_i low_j step moved few = record {
    lawful = moved_kept k.n old.ring new.ring (ring.Take i j) size matches.lawful moved few;
    idle = white_else k old new j moved.colours.others moved.colours.colour_is
        (λ m below other. idle_same k old.world new.world m (step.same.0 m)
        (all_elsewhere k i j step.batch.items old.world.nodes new.world.nodes step.applied m other) (step.same.1 m)
        (λ l low_l differs. step.same.2 m l)) matches;
    posted = λ m l low_m low_l. at_link (λ a b. new.ring.posted a b ≡ new.ring.taken a b + length (new.world.waiting a b)) i j m l here
        (λ other. let was = matches.posted m l low_m low_l in
        omega (arith, moved.posted m l low_m low_l, moved.taken.others m l low_m low_l other, ap length (step.others m l other)));
  }
    where
      here : new.ring.posted i j ≡ new.ring.taken i j + length (new.world.waiting i j)
      here = omega (arith, ap length step.first, moved.taken.one_more, moved.posted i j low_i low_j, matches.posted i j low_i low_j)

  -- ---- events of the ring alone

  counts_match : new.world ≡ old.world → CountsStay k.n old.ring.posted new.ring.posted → CountsStay k.n old.ring.taken new.ring.taken →
      (i j : ℕ) → i < k.n → j < k.n → new.ring.posted i j ≡ new.ring.taken i j + length (new.world.waiting i j)
  counts_match same posted taken i j low_i low_j = let now = posted i j low_i low_j in let was = matches.posted i j low_i low_j in
      omega (arith, taken i j low_i low_j, ap (λ (w : WorldView). length (w.waiting i j)) same)

  pub matches_passed : (i : ℕ) → IsNodeIdle k old.world i → new.world ≡ old.world → Moved k.n old.ring (ring.Pass i) new.ring → HasAtMost k.n (2 ^ 40) new.ring →
      Matches k new
  matches_passed i idle same moved few = record {
    lawful = moved_kept k.n old.ring new.ring (ring.Pass i) size matches.lawful moved few;
    idle = λ m low white. subst (λ (w : WorldView). IsNodeIdle k w m) (sym same) (elim (cases_eq m i) [
      | inl here ↦ subst (λ (a : ℕ). IsNodeIdle k old.world a) (sym here) idle
      | inr other ↦ matches.idle m low (sym (moved.colours.others m low other) ∙ white)
    ]);
    posted = counts_match same moved.posted moved.taken;
  }

  pub matches_announced : new.world ≡ old.world → Moved k.n old.ring ring.Announce new.ring → HasAtMost k.n (2 ^ 40) new.ring → Matches k new
  matches_announced same moved few = record {
    lawful = moved_kept k.n old.ring new.ring ring.Announce size matches.lawful moved few;
    idle = λ m low white. subst (λ (w : WorldView). IsNodeIdle k w m) (sym same) (matches.idle m low (sym (moved.colours m low) ∙ white));
    posted = counts_match same moved.posted moved.taken;
  }

pub happening_keeps_match : HappeningKeepsMatch
happening_keeps_match k old new (Expand i) size matches can step few =
    ring_left k old new size matches i can.0 (λ idle. omega (arith, idle.expanded, can.1)) step.1 step.0.links.0
    (λ m below other. idle_same k old.world new.world m (step.0.others.0 m other) (step.0.nodes.history m) (step.0.others.1 m other)
    (λ j low_j differs. ap (λ f. f j) (step.0.others.2 m other)))
happening_keeps_match k old new (Own i) size matches can step few =
    ring_left k old new size matches i can.0 (λ idle. none_some (old.world.own i) idle.own can.1) step.1 step.0.links.0
    (λ m below other. idle_same k old.world new.world m (step.0.same.0 m) (step.0.applied.settled.others m other) (step.0.others m other)
    (λ j low_j differs. step.0.same.1 m j))
happening_keeps_match k old new (Post i j) size matches can step few = matches_posted k old new size matches i j can.0 can.1 step.0 step.1 few
happening_keeps_match k old new (Take i j) size matches can step few = matches_taken k old new size matches i j can.0 can.1 step.0 step.1 few
happening_keeps_match k old new (Pass i) size matches can step few = matches_passed k old new size matches i can.2 step.0 step.1 few
happening_keeps_match k old new Announce size matches can step few = matches_announced k old new size matches step.0 step.1 few

-- ---- how many batches were posted

-- an event raises no count by more than one
pub posted_most : (k : Setting) (old new : State) (event : Event) (bound : ℕ) → Happens k old event new → HasAtMost k.n bound old.ring →
    HasAtMost k.n (bound + 1) new.ring
posted_most k old new (Expand i) bound step few m l low_m low_l = omega (arith, ap (λ (r : Ring). r.posted m l) step.1, few m l low_m low_l)
posted_most k old new (Own i) bound step few m l low_m low_l = omega (arith, ap (λ (r : Ring). r.posted m l) step.1, few m l low_m low_l)
posted_most k old new (Post i j) bound step few m l low_m low_l = at_link (λ a b. a < k.n → b < k.n → new.ring.posted a b ≤ bound + 1) i j m l
    (λ low_a low_b. omega (arith, step.1.posted.one_more, few i j low_a low_b))
    (λ other low_a low_b. omega (arith, step.1.posted.others m l low_a low_b other, few m l low_a low_b)) low_m low_l
posted_most k old new _ bound step few m l low_m low_l = omega (arith, step.1.posted m l low_m low_l, few m l low_m low_l)
