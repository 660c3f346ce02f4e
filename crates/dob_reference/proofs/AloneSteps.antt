-- The steps of one node that owns all classes: it stays lawful, and makes one step more; where it stops, when it has nothing left to do, and the
-- values that it shows then.
use Rattle.std.proofs.Common.{List, [], add-one, ap, append_assoc, arith, cond, drop, inl, inr, length, lit<, nat_lt, refl, subst, suc, sym, take}
use Rattle.std.proofs.Common.{zero, ℕ, ◌%◌, ◌++◌, ◌+◌, ◌<◌, ◌==◌, ◌∙◌, ◌∷◌, ◌≡◌, ◌≢◌, ◌⊎◌}
use Rattle.std.proofs.Math.ListN.{get_or-eq_default}
use Rattle.std.proofs.lemmas.Bool.{cases_eq, lt-ltb, ltb-true}
use Rattle.std.proofs.lemmas.List.{append-nil, length-append, take_all}
use Rattle.dob_pieces.specs.declared.profile.Family.{Family}
use Rattle.dob_moves.proofs.Cases.{one_status}
use Rattle.dob_moves.specs.declared.position_status.Status.TheVariants.{Open}
use Rattle.dob_rank.specs.Families.{class_setup, classes_of}
use Rattle.dob_distance.specs.Codes.{IsEntry}
use Rattle.dob_value.specs.Follows.{AreGiven, IsValueTable}
use Rattle.dob_distance.specs.declared.value.Value.{Value}
use Rattle.dob_distance.specs.declared.value.Value.TheVariants.{Draw}
use Rattle.dob_unmove.specs.Edges.{predecessors}
use Rattle.dob_share.proofs.Changing.{short_value}
use Rattle.dob_share.proofs.Owning.{cell_short}
use Rattle.dob_share.specs.Cells.{CellCanTake, SameCell, changed, fresh}
use Rattle.dob_share.specs.Shares.{Fits, GoesTooDeep, HasValueNow, IsOwn, cell_at, status_at}
use Rattle.dob_share.specs.Steps.{IsTooDeep}
use Rattle.dob_share.specs.declared.news.Item.{Item}
use Rattle.dob_share.specs.declared.news.Settlement.{Settlement}
use Rattle.dob_share.specs.declared.opening.Opening.{Opening}
use Rattle.dob_share.specs.declared.share.Share.{Share}
use Rattle.dob_update.specs.Batches.{OutboxView, empty_outbox}
use Rattle.dob_share.specs.Items.{items_from, items_of}
use Rattle.dob_share.specs.declared.cause.Cause.{Cause}
use Rattle.dob_history.proofs.Ends.{lawful_is_right}
use Rattle.dob_node.proofs.ItemChanges.{Change, item_changes, same_by}
use Rattle.dob_history.proofs.Kept.{last_now-entry}
use Rattle.dob_history.proofs.Kepts.{fits_own}
use Rattle.dob_history.proofs.Rises.{falls_stay, not_too_deep}
use Rattle.dob_history.proofs.Settles.{emitted_all, emitted_grown, emitted_more}
use Rattle.dob_node.proofs.ShownValues.{value_shown, values_given}
use Rattle.dob_history.proofs.Steps.{can_apply, lawful_after}
use Rattle.dob_history.specs.Falls.{HaveFalls}
use Rattle.dob_history.specs.Histories.{AreValuesBelow, value_of}
use Rattle.dob_history.specs.Lawful.{AreAfter, AreLawfulNodes, AreSettled, CanApply, IsNextItem}
use Rattle.dob_node.specs.NodeViews.{NodeView}
use Rattle.dob_node.specs.Nodes.{HasApplied, HasItemFault, IsExpanded, IsIdle, IsSound, outbox_to}
use Rattle.dob_history.specs.Openings.{AreOpenings}
use Rattle.dob_history.specs.Stores.{HistoryView}
use Rattle.dob_history.specs.TakenItems.{AreKept, IsTaken, listed}
use Rattle.dob_reference.specs.Alone.{HasCome, HasMade, HasStoppedAlone, IsAlone, IsDone, IsTooDeepWithin, IsUnderWay, alone_applied, alone_history}
use Rattle.dob_reference.specs.Alone.{alone_items, cells_below}
use Rattle.dob_reference.specs.Faults.{IsFaultOf}
use Rattle.dob_reference.specs.declared.fault.Fault.{Fault}
use Rattle.dob_share.specs.declared.cause.Cause.TheVariants as cause
use Rattle.dob_reference.specs.declared.fault.Fault.TheVariants as fault

-- ---- the cells of all classes
pub cell_below : (classes : ℕ) (share : Share) (class : ℕ) → class < classes → cells_below classes share class ≡ cell_at share class
cell_below classes share class low = ap (λ b. cond b (cell_at share class) (fresh 0)) (lt-ltb class classes low)

-- ---- one node
pub one_owner : (class : ℕ) → class % 1 ≡ 0
one_owner class = let less : class % 1 < 1 = omega arith in omega arith

-- An item applied by the one node, whose cells and history are these.
module _ (family : Family) (share after : Share) (history grown : HistoryView) (applied : List Item) (item : Item) (rest : List Item)
    (kept : AreKept family 1 0 share history) (kept_after : AreKept family 1 0 after grown) (taken : IsTaken item share after history grown)
    (lawful : AreLawfulNodes family 1 (alone_history history.settlements) (alone_applied applied) (cells_below (classes_of family) share) (value_of history.settlements))
    (next : alone_items family history.settlements ≡ applied ++ item ∷ rest) where
  abbrev pub h : List Settlement
  h = history.settlements

  abbrev pub g : List Settlement
  g = grown.settlements

  there : IsOwn share item.to
  there = fits_own share item taken.fits

  low : item.to < classes_of family
  low = ((kept.owned item.to).0 there).1

  there_after : IsOwn after item.to
  there_after = (kept_after.owned item.to).1 (one_owner item.to, low)

  is_next : IsNextItem family 1 (alone_history h) (alone_applied applied) 0 0 item
  is_next = (rest, next)

  can : CanApply family 1 0 (cells_below (classes_of family) share) item
  can = can_apply family 1 (alone_history h) (alone_applied applied) (cells_below (classes_of family) share) (value_of h) (lit< tt) lawful 0 0 (lit< tt) (lit< tt)
      item is_next

  changes : Change item after h g
  changes = item_changes item share after history grown taken kept.counted
      (rw (cell_below (classes_of family) share item.to low) at (lawful.cell_values item.to low can.is_open))

  cells_after : (p : ℕ) → p ≢ item.to → SameCell (cells_below (classes_of family) after p) (cells_below (classes_of family) share p)
  cells_after p other = same_by (nat_lt p (classes_of family)) (cell_at after p) (cell_at share p) (fresh 0)
      (λ is. taken.others p ((kept.owned p).1 (one_owner p, ltb-true p (classes_of family) is)) other)

  are_after : AreAfter item (cells_below (classes_of family) share) (cells_below (classes_of family) after) (value_of h) (value_of g)
  are_after = record {
    cell_is = rw (cell_below (classes_of family) after item.to low, cell_below (classes_of family) share item.to low) taken.cell;
    gives = rw (cell_below (classes_of family) after item.to low) changes.gives;
    short = short_value (cell_at after item.to) (value_of g item.to) (cell_short after item.to there_after) changes.gives;
    better = changes.better;
    others = λ p other. (cells_after p other, changes.others p other);
  }

  settled : AreSettled 0 item.to (value_of h item.to) (value_of g item.to) (alone_history h) (alone_history g)
  settled = record { same = changes.same; more = changes.more; others = λ k other. grind arith }

  pub still_lawful : AreLawfulNodes family 1 (alone_history g) (alone_applied (applied ++ item ∷ [])) (cells_below (classes_of family) after) (value_of g)
  still_lawful = lawful_after family 1 (alone_history h) (alone_applied applied) (cells_below (classes_of family) share) (value_of h) (lit< tt) lawful 0 0
      (lit< tt) (lit< tt) item is_next (alone_applied (applied ++ item ∷ [])) (grind arith) (cells_below (classes_of family) after) (value_of g) are_after
      (alone_history g) settled

  pub still_falls : HaveFalls family 1 (alone_history h) (cells_below (classes_of family) share) → HaveFalls family 1 (alone_history g) (cells_below (classes_of family) after)
  still_falls have = falls_stay family 1 (alone_history h) (alone_applied applied) (cells_below (classes_of family) share) (value_of h) (lit< tt) lawful have 0 0
      (lit< tt) (lit< tt) item is_next (cells_below (classes_of family) after) (value_of g) are_after (alone_history g) settled

-- ---- steps

-- what is applied, what waits, and what comes with the settlements that aren't expanded yet
pub all_items : (family : Family) (h : List Settlement) (expanded : ℕ) (applied own : List Item) →
    alone_items family (take expanded h) ≡ applied ++ own → alone_items family h ≡ applied ++ (own ++ alone_items family (drop expanded h))
all_items family h expanded applied own emitted =
    emitted_all (predecessors family) 1 0 h expanded
    ∙ ap (λ xs. xs ++ alone_items family (drop expanded h)) emitted
    ∙ append_assoc applied own (alone_items family (drop expanded h))

-- ---- an item applied

module _ (old new : NodeView) (applied : List Item) (alone : IsAlone old applied) (sound : IsSound new) (step : HasApplied old new) where
  abbrev pub after : List Item
  after = applied ++ step.item ∷ []

  -- the items that come behind it
  abbrev later : List Item
  later = new.own ++ alone_items old.family (drop old.expanded old.history.settlements)

  next : alone_items old.family old.history.settlements ≡ applied ++ step.item ∷ later
  next = all_items old.family old.history.settlements old.expanded applied old.own alone.emitted
      ∙ ap (λ xs. applied ++ (xs ++ alone_items old.family (drop old.expanded old.history.settlements))) step.first

  kept : AreKept old.family 1 0 old.share old.history
  kept = rw (alone.alone.0, alone.alone.1) at alone.sound.kept

  kept_now : AreKept old.family 1 0 new.share new.history
  kept_now = rw (step.same.0, step.same.2, alone.alone.0, step.same.1, alone.alone.1) at sound.kept

  pub alone_after : IsAlone new after
  alone_after = record {
    sound = sound;
    alone = (step.same.2 ∙ alone.alone.0, step.same.1 ∙ alone.alone.1);
    statuses = λ class low. rw (step.same.0, step.taken.classes.statuses class) (alone.statuses class (rw step.same.0 at low));
    emitted = rw (step.same.0, step.same.3) (emitted_grown (predecessors old.family) 1 0 old.history.settlements (listed step.taken.settled.0)
        new.history.settlements
        old.expanded alone.sound.emitted (ap (λ (v : HistoryView). v.settlements) step.taken.settled.2)
        ∙ alone.emitted ∙ ap (λ xs. applied ++ xs) step.first ∙ sym (append_assoc applied (step.item ∷ []) new.own));
    lawful = rw step.same.0 (still_lawful old.family old.share new.share old.history new.history applied step.item later kept kept_now step.taken
        alone.lawful next);
    falls = rw step.same.0 (still_falls old.family old.share new.share old.history new.history applied step.item later kept kept_now step.taken alone.lawful
        next alone.falls);
  }

pub made_applied : (old new : NodeView) → IsSound new → HasApplied old new → (steps : ℕ) → HasMade steps old → HasMade (steps + 1) new
made_applied old new sound step steps made = (
  made.0 ++ step.item ∷ [],
  alone_after old new made.0 made.1 sound step,
  omega (arith, length-append made.0 (step.item ∷ []), step.same.3, made.2),
  subst (λ st. HasCome st (steps + 1) new) (sym step.same.0) (rw add-one (old, made.3, inl step)),
)

-- ---- a settlement expanded

module _ (old new : NodeView) (applied : List Item) (alone : IsAlone old applied) (sound : IsSound new) (step : IsExpanded old new) where
  own_same : new.own ≡ old.own ++ items_of (predecessors old.family) 1 0 step.settlement
  own_same = rw (alone.alone.0, alone.alone.1) at step.own

  pub alone_expanded : IsAlone new applied
  alone_expanded = record {
    sound = sound;
    alone = (step.same.2 ∙ alone.alone.0, step.same.1 ∙ alone.alone.1);
    statuses = λ class low. rw (step.same.0, step.same.3) (alone.statuses class (rw step.same.0 at low));
    emitted = rw (step.same.0, step.expanded, step.same.4) (emitted_more (predecessors old.family) 1 0 old.history.settlements old.expanded step.settlement
        step.first
        ∙ ap (λ xs. xs ++ items_of (predecessors old.family) 1 0 step.settlement) alone.emitted
        ∙ append_assoc applied old.own (items_of (predecessors old.family) 1 0 step.settlement) ∙ ap (λ xs. applied ++ xs) (sym own_same));
    lawful = rw (step.same.0, step.same.3, step.same.4) alone.lawful;
    falls = rw (step.same.0, step.same.3, step.same.4) alone.falls;
  }

pub made_expanded : (old new : NodeView) → IsSound new → old.own ≡ [] → IsExpanded old new → (steps : ℕ) → HasMade steps old →
    HasMade (steps + 1) new
made_expanded old new sound none step steps made = (
  made.0,
  alone_expanded old new made.0 made.1 sound step,
  omega (arith, step.expanded, made.2),
  subst (λ st. HasCome st (steps + 1) new) (sym step.same.0) (rw add-one (old, made.3, inr (none, step))),
)

-- ---- the item that it has to apply next

module _ (node : NodeView) (steps : ℕ) (made : HasMade steps node) (item : Item) (behind : List Item)
    (first : node.own ≡ item ∷ behind) where
  abbrev hs : List Settlement
  hs = node.history.settlements

  waits : IsNextItem node.family 1 (alone_history hs) (alone_applied made.0) 0 0 item
  waits = (
    behind ++ alone_items node.family (drop node.expanded hs),
    all_items node.family hs node.expanded made.0 node.own made.1.emitted
        ∙ ap (λ xs. made.0 ++ (xs ++ alone_items node.family (drop node.expanded hs))) first,
  )

  can_next : CanApply node.family 1 0 (cells_below (classes_of node.family) node.share) item
  can_next = can_apply node.family 1 (alone_history hs) (alone_applied made.0) (cells_below (classes_of node.family) node.share) (value_of hs) (lit< tt)
      made.1.lawful 0 0 (lit< tt) (lit< tt) item waits

  -- it fits
  pub next_fits : Fits node.share item
  unfolding Fits
  next_fits = (
    (made.1.sound.kept.owned item.to).1 (rw (made.1.alone.0, made.1.alone.1) (one_owner item.to, can_next.below)),
    one_status node.family.profile (class_setup node.family item.to) (status_at node.share item.to) Open (made.1.statuses item.to can_next.below)
        can_next.is_open,
    subst (λ c. CellCanTake item.was item.now c) (cell_below (classes_of node.family) node.share item.to can_next.below) can_next.takes,
  )

  -- and for few classes it doesn't go too deep
  pub next_not_deep : classes_of node.family < 65535 → GoesTooDeep item (cell_at node.share item.to) → ⊥
  unfolding GoesTooDeep
  next_not_deep few deep = not_too_deep node.family 1 (alone_history hs) (alone_applied made.0) (cells_below (classes_of node.family) node.share)
      (value_of hs) (lit< tt) made.1.lawful made.1.falls 0 0 (lit< tt) (lit< tt) item waits few
      (subst (λ c. IsTooDeep (changed item.was item.now c)) (sym (cell_below (classes_of node.family) node.share item.to can_next.below)) deep)

pub never_too_deep : (family : Family) (limit : ℕ) → classes_of family < 65535 → IsTooDeepWithin family limit → ⊥
never_too_deep family limit few is = next_not_deep is.node is.steps is.made is.fault.item is.fault.behind is.fault.first
    (rw is.of few) is.fault.reason.1

pub stopped_alone : (node : NodeView) (steps limit : ℕ) (why : Cause) → HasMade steps node → steps < limit → HasItemFault node why → HasStoppedAlone node.family limit why
stopped_alone node steps limit cause.TooDeep made low fault =
    record { node = node; of = refl; steps = steps; few = low; made = made; fault = fault }
stopped_alone node steps limit (cause.Contradiction class) made low fault =
    fault.reason.1 (next_fits node steps made fault.item fault.behind fault.first)
stopped_alone node steps limit why made low fault = grind (arith, fault.reason)

-- ---- why there is no table
pub fault_deep : (why : Cause) (given : Fault) (family : Family) (limit : ℕ) → IsFaultOf why given → HasStoppedAlone family limit why → given ≡ fault.TooDeep →
    IsTooDeepWithin family limit
fault_deep cause.TooDeep given family limit is stopped same = stopped
fault_deep why given family limit is stopped same = absurd (grind arith)

pub fault_fits : (why : Cause) (given : Fault) (family : Family) (limit class : ℕ) → IsFaultOf why given → HasStoppedAlone family limit why →
    given ≡ fault.Contradiction class → ⊥
fault_fits why given family limit class is stopped same = grind arith

-- ---- nothing left to do

-- there is nobody to send to
pub done_idle : (node : NodeView) (steps : ℕ) → HasMade steps node → IsDone node → IsIdle node
done_idle node steps made done = record {
  expanded = done.0;
  applied = done.1;
  sent = λ to. elim (cases_eq to 0) [
    | inl self ↦ subst (λ (k : ℕ). (outbox_to node k).items ≡ []) (made.1.alone.1 ∙ sym self) made.1.sound.nothing_to_self
    | inr other ↦
        let one : length node.outboxes ≡ 1 = made.1.sound.receivers ∙ made.1.alone.0 in
        ap (λ (o : OutboxView). o.items) (get_or-eq_default node.outboxes (empty_outbox node.family node.n node.id to) (omega arith))
  ];
}

pub idle_done : (node : NodeView) → IsIdle node → IsDone node
idle_done node idle = (idle.expanded, idle.applied)

-- ---- values

module _ (node : NodeView) (steps : ℕ) (made : HasMade steps node) (class : ℕ) (low : class < classes_of node.family) where
  abbrev pub history : List Settlement
  history = node.history.settlements

  lawful_made : AreLawfulNodes node.family 1 (alone_history history) (alone_applied made.0) (cells_below (classes_of node.family) node.share) (value_of history)
  lawful_made = made.1.lawful

  -- a class shows the value of the history
  pub shows : (v : Value) → HasValueNow node.share class v → v ≡ value_of history class
  shows v is = value_shown node.family 1 (alone_history history) (alone_applied made.0) (cells_below (classes_of node.family) node.share) (value_of history)
      lawful_made class low (cell_at node.share class) (cell_below (classes_of node.family) node.share class low) (status_at node.share class) v
      (made.1.statuses class low) is

  -- which a table can have
  pub shows_entry : (v : Value) → HasValueNow node.share class v → IsEntry v
  shows_entry v is = rw (shows v is) (last_now-entry (λ s. s.class == class) Draw history tt (lawful_made.entries 0 (lit< tt)))

-- ---- the end

-- not idle, it is under way
pub under_way : (node : NodeView) (family : Family) (limit steps : ℕ) → node.family ≡ family → HasMade steps node → (steps ≡ limit) ⊎ IsDone node →
    (IsDone node → ⊥) → IsUnderWay family limit
under_way node family limit steps of made (inr idle) busy = absurd (busy idle)
under_way node family limit steps of made (inl same) busy =
    record { node = node; of = of; made = subst (λ (k : ℕ). HasMade k node) same made; left = busy }

-- the openings that it has begun with
openings_of : (family : Family) (steps : ℕ) (node : NodeView) → HasCome family steps node → (openings : List Opening) × AreOpenings family openings
openings_of family zero node come = (come.0, come.1)
openings_of family (suc steps) node come = openings_of family steps come.0 come.1

-- idle, it has the value table
pub alone_right : (node : NodeView) (steps count : ℕ) (values : List Value) → HasMade steps node → IsDone node →
    AreValuesBelow (value_of node.history.settlements) count values → count ≡ classes_of node.family → IsValueTable node.family values
alone_right node steps count values made idle listed number =
    lawful_is_right node.family 1 (alone_history node.history.settlements) (alone_applied made.0) (cells_below (classes_of node.family) node.share)
    (value_of node.history.settlements) begun.0 values (lit< tt) begun.1 made.1.lawful all
    (listed.whole ∙ number) (λ class low. listed.each class (subst (λ (k : ℕ). class < k) (sym number) low))
  where
    begun : (openings : List Opening) × AreOpenings node.family openings
    begun = openings_of node.family steps node made.3

    done : alone_items node.family node.history.settlements ≡ made.0
    done = ap (λ xs. alone_items node.family xs) (sym (take_all node.expanded node.history.settlements (omega (arith, idle.0)))) ∙ made.1.emitted
        ∙ ap (λ xs. made.0 ++ xs) idle.1 ∙ append-nil made.0

    all : (i j : ℕ) → i < 1 → j < 1 → alone_applied made.0 i j ≡ items_from (predecessors node.family) 1 j (alone_history node.history.settlements i)
    all zero zero low_i low_j = sym done
    all zero (suc j) low_i low_j = absurd (omega arith)
    all (suc i) j low_i low_j = absurd (omega arith)

-- the table of the values that it shows is the value table
pub alone_given : (node : NodeView) (steps : ℕ) (family : Family) (values : List Value) → HasMade steps node → IsDone node → family ≡ node.family →
    AreGiven (HasValueNow node.share) (classes_of family) values → IsValueTable node.family values
alone_given node steps family values made idle same given =
    let number = ap (λ (s : Family). classes_of s) same in
    alone_right node steps (classes_of family) values made idle
    (values_given (HasValueNow node.share) (value_of node.history.settlements) (classes_of family) values given
    (λ class v low has. shows node steps made class (subst (λ (k : ℕ). class < k) number low) v has)) number
