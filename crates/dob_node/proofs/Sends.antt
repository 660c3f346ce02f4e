-- The outboxes of a node: empty ones, what one settlement more adds to them, and what a batch cut leaves.
use Rattle.dob_node.proofs.Common.{◌++◌, ◌+◌, ◌<◌, ◌∙◌, ◌∷◌, ◌≡◌, ◌≢◌, ◌≤◌, [], All, AreAdded, BatchView, Family, IfSome, IsCut, IsCutFrom, IsNone, IsOutboxTo}
use Rattle.dob_node.proofs.Common.{IsSound, Item, List, NodeView, None, Option, OutboxState, OutboxView, Settlement, Some, added, ap, arith, cases_eq, cases_lt}
use Rattle.dob_node.proofs.Common.{drop-nil, empty_outbox, get_or, get_or-eq_default, get_or-set_other, get_or-set_same, get_or_append_left, get_or_default}
use Rattle.dob_node.proofs.Common.{inl, inr, items_of, length, length-append, length-set, outbox_in, predecessors, refl, sends_of, set, subst, sym, ℕ}
use Rattle.std.proofs.lemmas.List.{get_or-map, get_or_push, length-map, map-set}

-- ---- empty ones
pub empties_more : (family : Family) (n from k : ℕ) (xs new : List OutboxView) → length xs ≡ k →
    ((to : ℕ) → outbox_in family n from xs to ≡ empty_outbox family n from to) → new ≡ xs ++ empty_outbox family n from k ∷ [] →
    (to : ℕ) → outbox_in family n from new to ≡ empty_outbox family n from to
empties_more family n from k xs new count empty is to =
    grind (arith, is, get_or_push, get_or_append_left, empty to, get_or-eq_default, length-append xs (empty_outbox family n from k ∷ []))

-- ---- one settlement more

module _ {targets : List ℕ} {settlement : Settlement} {n from k : ℕ} {old mid : List OutboxView} (so_far : AreAdded targets settlement n from k old mid) where
  -- the node's own outbox is left out
  pub added_own : k ≡ from → AreAdded targets settlement n from (k + 1) old mid
  added_own own = grind (arith, so_far.sent, so_far.later, so_far.unsent)

  -- that for the node k has it more, of as many outboxes
  pub added_one : {many : ℕ} {new : List OutboxView} (any : OutboxView) → n ≡ length old → many ≡ length mid → k ≢ from → k < n →
      ((default : OutboxView) → new ≡ set mid k (added (get_or mid k default) settlement (items_of (λ _. targets) many k settlement))) →
      AreAdded targets settlement n from (k + 1) old new
  added_one {many = many} any count many_is other low is = record {
    whole = grind (arith, is any, length-set, so_far.whole);
    sent = λ to default below apart. grind (arith, is default, same, get_or-set_same, get_or-set_other, so_far.sent to default, so_far.later to default);
    unsent = λ default. grind (arith, is default, get_or-set_other, so_far.unsent default);
    later = λ to default high. grind (arith, is default, get_or-set_other, so_far.later to default);
  }
    where
      same : many ≡ n
      same = many_is ∙ so_far.whole ∙ sym count

-- an outbox that is written has what it had to send, and more
pub sends_set : (mid new : List OutboxState) (k : ℕ) (outbox : OutboxState) (new_sends : OutboxView → OutboxView) → k < length mid → new ≡ set mid k outbox →
    ((default : OutboxState) → outbox.sends ≡ new_sends (get_or mid k default).sends) → (default : OutboxView) →
    sends_of new ≡ set (sends_of mid) k (new_sends (get_or (sends_of mid) k default))
sends_set mid new k outbox new_sends low is are default =
    let any : OutboxState = record { sends = default; room = 0 } in
    ap sends_of is ∙ map-set (λ (o : OutboxState). o.sends) mid k outbox
    ∙ ap (λ (o : OutboxView). set (sends_of mid) k o) (are any ∙ ap new_sends (sym (get_or-map (λ (o : OutboxState). o.sends) mid k any default low)))

-- none is added yet
pub added_none : (targets : List ℕ) (settlement : Settlement) (n from : ℕ) (old : List OutboxView) → AreAdded targets settlement n from 0 old old
added_none targets settlement n from old = grind arith

-- what is asked of the items for an outbox to a node
pub asked_of : {targets : List ℕ} (settlement : Settlement) {n from k : ℕ} {family : Family} {o : OutboxView} {items : List Item} →
    IsOutboxTo family n from k o → targets ≡ predecessors family settlement.class → items ≡ items_of (λ _. targets) n k settlement →
    items ≡ items_of (predecessors o.family) o.n o.to settlement
asked_of settlement is same are = rw (is.of.0, is.of.1, is.of.3, ← same) are

-- an outbox that has nothing of the settlement yet is of n nodes, and for the node of its number
pub addressed_still : {targets : List ℕ} {settlement : Settlement} {n from k many : ℕ} {old mid : List OutboxView} →
    AreAdded targets settlement n from k old mid → n ≡ length old → many ≡ length mid →
    (let each = length old in
    (family : Family) × (targets ≡ predecessors family settlement.class) × ((to : ℕ) → IsOutboxTo family each from to (outbox_in family each from old to))) →
    k < n → (default : OutboxView) →
    ((get_or mid k default).n ≡ many) × ((get_or mid k default).to ≡ k) × (targets ≡ predecessors (get_or mid k default).family settlement.class)
addressed_still {from = from} {k = k} {many = many} {old = old} so_far count many_is of low default =
    let whom = (of.2 k).of in
    let there = so_far.later k default (omega arith) ∙ get_or_default old k default (empty_outbox of.0 (length old) from k) (omega arith) in
    (grind (arith, there, whom, so_far.whole), grind (arith, there, whom), rw (there, whom.0) of.1)

-- ---- what the outboxes are for
pub addressed_empty : (family : Family) (n from : ℕ) (xs : List OutboxView) → ((to : ℕ) → outbox_in family n from xs to ≡ empty_outbox family n from to) →
    (to : ℕ) → IsOutboxTo family n from to (outbox_in family n from xs to)
addressed_empty family n from xs empty to = subst (λ (o : OutboxView). IsOutboxTo family n from to o) (sym (empty to))
    (record { of = (refl, refl, refl, refl) })

added_to : (family : Family) (n from to : ℕ) (o : OutboxView) (s : Settlement) (targets : List ℕ) → IsOutboxTo family n from to o →
    IsOutboxTo family n from to (added o s (items_of (λ _. targets) n to s))
added_to family n from to o s targets is = record { of = is.of }

pub addressed_added : (family : Family) (targets : List ℕ) (s : Settlement) (n from : ℕ) (old new : List OutboxView) →
    AreAdded targets s n from n old new → ((to : ℕ) → IsOutboxTo family n from to (outbox_in family n from old to)) →
    (to : ℕ) → IsOutboxTo family n from to (outbox_in family n from new to)
addressed_added family targets s n from old new are all to = elim (cases_eq to from) [
  | inl own ↦ rw (own, are.unsent (empty_outbox family n from from)) (all from)
  | inr apart ↦ elim (cases_lt to n) [
    | inl low ↦ rw (are.sent to _ low apart) (added_to family n from to (outbox_in family n from old to) s targets (all to))
    | inr high ↦ rw (are.later to _ high) (all to)
  ]
]

-- ---- what is empty
pub all_empty : (xs : List OutboxView) → All (λ (o : OutboxView). o.items ≡ []) xs → (family : Family) (n from to : ℕ) → (outbox_in family n from xs to).items ≡ []
all_empty xs all family n from to = elim (cases_lt to (length xs)) [
  | inl low ↦ all to (empty_outbox family n from to) low
  | inr high ↦ ap (λ (o : OutboxView). o.items) (get_or-eq_default xs (empty_outbox family n from to) high)
]

pub empty_all : (xs : List OutboxView) (family : Family) (n from : ℕ) → ((to : ℕ) → (outbox_in family n from xs to).items ≡ []) →
    All (λ (o : OutboxView). o.items ≡ []) xs
empty_all xs family n from empty = λ to default low. rw (get_or_default xs to default (empty_outbox family n from to) low) (empty to)

-- so it is of what the outboxes have to send
pub sent_all : (xs : List OutboxState) → All (λ (o : OutboxState). o.sends.items ≡ []) xs → All (λ (o : OutboxView). o.items ≡ []) (sends_of xs)
sent_all xs all = λ to default low.
    let any : OutboxState = record { sends = default; room = 0 } in
    let within : to < length xs = (let many = length-map xs (λ (o : OutboxState). o.sends) in omega (arith, many, low)) in
    subst (λ (o : OutboxView). o.items ≡ []) (sym (get_or-map (λ (o : OutboxState). o.sends) xs to any default within)) (all to any within)

pub all_sent : (xs : List OutboxState) → All (λ (o : OutboxView). o.items ≡ []) (sends_of xs) → All (λ (o : OutboxState). o.sends.items ≡ []) xs
all_sent xs all = λ to default low.
    let within : to < length (sends_of xs) = (let many = length-map xs (λ (o : OutboxState). o.sends) in omega (arith, many, low)) in
    subst (λ (o : OutboxView). o.items ≡ []) (get_or-map (λ (o : OutboxState). o.sends) xs to default default.sends low) (all to default.sends within)

-- ---- a batch cut
pub cut_there : (to size : ℕ) (batch : BatchView) (old new : List OutboxView) (cut : OutboxView) → to < length old →
    ((default : OutboxView) → IsCut (get_or old to default) size batch cut) → new ≡ set old to cut → IsCutFrom to size batch old new
cut_there to size batch old new cut low is new_is = record {
  whole = grind (arith, new_is, length-set);
  cut = λ default. rw (new_is, get_or-set_same old to cut default low) (is default);
  others = λ other default apart. grind (arith, new_is, get_or-set_other);
}

-- the outbox that was read there
pub outbox_read : (family : Family) (n from to : ℕ) (old : List OutboxView) (read : OutboxView) → to < length old → read ≡ get_or old to read →
    outbox_in family n from old to ≡ read
outbox_read family n from to old read low is = get_or_default old to (empty_outbox family n from to) read low ∙ sym is

-- a batch, where one is, is cut from the outbox that was read there
pub cut_read : (to size : ℕ) (given : Option BatchView) (old : List OutboxView) (read cut : OutboxView) → to < length old → read ≡ get_or old to read →
    IfSome given (λ batch. IsCut read size batch cut) → IfSome given (λ batch. IsCutFrom to size batch old (set old to cut))
cut_read to size None old read cut low is given = given
cut_read to size (Some batch) old read cut low is given = cut_there to size batch old (set old to cut) cut low
    (λ default. subst (λ (o : OutboxView). IsCut o size batch cut) (is ∙ get_or_default old to read default low) given) refl

-- what is left is of the same link, and so is what is cut
module _ {family : Family} {n from to size : ℕ} {batch : BatchView} {old new : OutboxView} (cut : IsCut old size batch new)
    (is : IsOutboxTo family n from to old) where
  cut_to : IsOutboxTo family n from to new
  cut_to = record { of = (cut.same_link.0 ∙ is.of.0, cut.same_link.1 ∙ is.of.1, cut.same_link.2 ∙ is.of.2, cut.same_link.3 ∙ is.of.3) }

  pub cut_of : (batch.family ≡ family) × (batch.n ≡ n) × (batch.from ≡ from) × (batch.to ≡ to)
  cut_of = (cut.of_link.0 ∙ is.of.0, cut.of_link.1 ∙ is.of.1, cut.of_link.2 ∙ is.of.2, cut.of_link.3 ∙ is.of.3)

pub addressed_cut : (family : Family) (n from to size : ℕ) (batch : BatchView) (old new : List OutboxView) → IsCutFrom to size batch old new →
    ((k : ℕ) → IsOutboxTo family n from k (outbox_in family n from old k)) → (k : ℕ) → IsOutboxTo family n from k (outbox_in family n from new k)
addressed_cut family n from to size batch old new cut all k = elim (cases_eq k to) [
  | inl same ↦ rw same (cut_to (cut.cut (empty_outbox family n from to)) (all to))
  | inr apart ↦ rw (cut.others k (empty_outbox family n from k) apart) (all k)
]

pub nothing_cut : (family : Family) (n from own to size : ℕ) (batch : BatchView) (old new : List OutboxView) → IsCutFrom to size batch old new →
    (outbox_in family n from old own).items ≡ [] → (outbox_in family n from new own).items ≡ []
nothing_cut family n from own to size batch old new cut none = elim (cases_eq own to) [
  | inl same ↦ rw (same, (cut.cut (empty_outbox family n from to)).left, (rw same at none)) (drop-nil size)
  | inr apart ↦ rw (cut.others own (empty_outbox family n from own) apart) none
]

-- ---- a node that stays sound

-- with one more settlement expanded
pub sound_expanded : {node : NodeView} {targets : List ℕ} {s : Settlement} {own : List Item} {outboxes : List OutboxView} → IsSound node →
    node.expanded + 1 ≤ length node.history.settlements →
    AreAdded targets s (length node.outboxes) node.id (length node.outboxes) node.outboxes outboxes →
    IsSound (record node { expanded = node.expanded + 1; own = own; outboxes = outboxes })
sound_expanded {node = node} {targets = targets} {s = s} {outboxes = outboxes} sound emitted are = record {
  kept = sound.kept;
  emitted = emitted;
  receivers = are.whole ∙ sound.receivers;
  addressed = addressed_added node.family targets s node.n node.id node.outboxes outboxes (rw sound.receivers at are) sound.addressed;
  nothing_to_self = ap (λ (o : OutboxView). o.items) (are.unsent (empty_outbox node.family node.n node.id node.id)) ∙ sound.nothing_to_self;
}

-- with a batch cut
pub sound_cut : (node : NodeView) (to size : ℕ) (given : Option BatchView) (outboxes : List OutboxView) → IsSound node →
    IfSome given (λ batch. IsCutFrom to size batch node.outboxes outboxes) → (IsNone given → ⊥) → IsSound (record node { outboxes = outboxes })
sound_cut node to size None outboxes sound cut some = absurd (some refl)
sound_cut node to size (Some batch) outboxes sound cut some = record {
  kept = sound.kept;
  emitted = sound.emitted;
  receivers = cut.whole ∙ sound.receivers;
  addressed = addressed_cut node.family node.n node.id to size batch node.outboxes outboxes cut sound.addressed;
  nothing_to_self = nothing_cut node.family node.n node.id node.id to size batch node.outboxes outboxes cut sound.nothing_to_self;
}
