-- What a node has: told by its family, its number and how many nodes there are; whatever has failed of it; and the values of its own classes.
use Rattle.dob_node.proofs.Common.{◌*◌, ◌++◌, ◌+◌, ◌<◌, ◌^◌, ◌∙◌, ◌∷◌, ◌≡◌, ◌≤◌, AppliesAll, AppliesEveryOwn, AreKept, Cause, Err, Family, HasTaken}
use Rattle.dob_node.proofs.Common.{HasTakenBefore, HasValueNow, HistoryView, IsOwn, IsSound, Item, List, NodeView, None, Ok, Option, Result, Share, Some}
use Rattle.dob_node.proofs.Common.{Value, [], ap, arith, at_end, class_of_place, classes_of, div-mul-add, going, inl, inr, length, length-append, mod-mul-add}
use Rattle.dob_node.proofs.Common.{node_of, outbox_to, places_of, refl, slice_get, slice_get_within, subst, sym, ℕ}
use Rattle.dob_node.specs.declared.node_core.Core.{Core}

pub outbox_same : (old new : NodeView) (to : ℕ) → new.family ≡ old.family → new.id ≡ old.id → new.n ≡ old.n → new.outboxes ≡ old.outboxes →
    outbox_to new to ≡ outbox_to old to
outbox_same old new to family id n outboxes = rw (family, id, n, outboxes) refl

-- a sound node keeps the cells and the history of that owner
pub kept_sound : (family : Family) (n id : ℕ) (node : NodeView) → (node.family ≡ family) × (node.id ≡ id) × (node.n ≡ n) → IsSound node →
    AreKept family n id node.share node.history
kept_sound family n id node of sound = rw (of.0, of.1, of.2) at sound.kept

-- ---- what holds of a node's core
sound_noted : (core : Core) (was failed : Option Cause) → IsSound (node_of core was) → IsSound (node_of core failed)
sound_noted core was failed sound = assumption

pub sound_core : (core : Core) (failed : Option Cause) (node : NodeView) → node_of core failed ≡ node → IsSound node → IsSound (going core)
sound_core core failed node is sound = sound_noted core failed None (subst (λ (n : NodeView). IsSound n) (sym is) sound)

taken_noted : (items : List Item) (old new : Core) (was now : Option Cause) → HasTaken items (going old) (going new) → HasTaken items (node_of old was) (node_of new now)
taken_noted items old new was now is = assumption

before_noted : (items : List Item) (old new : Core) (why : Cause) (was now : Option Cause) → HasTakenBefore items (going old) (going new) why →
    HasTakenBefore items (node_of old was) (node_of new now) why
before_noted items old new why was now is = search (taken_noted)

pub applied_all : (items : List Item) (result : Result (Unit {0}) Cause) (old new : Core) (was now : Option Cause) → AppliesAll items result (going old) (going new) →
    AppliesAll items result (node_of old was) (node_of new now)
applied_all items (Ok done) old new was now step = record { taken = assumption; all = step.all; stopped = tt; before = tt; memory = λ other. absurd (cc) }
applied_all items (Err why) old new was now step = record {
  taken = tt;
  all = tt;
  stopped = step.stopped;
  before = before_noted items old new why was now step.before;
  memory = λ memory. let both = step.memory memory in assumption;
}

pub applied_every : (result : Result (Unit {0}) Cause) (old new : Core) (was now : Option Cause) → AppliesEveryOwn result (going old) (going new) →
    AppliesEveryOwn result (node_of old was) (node_of new now)
applied_every (Ok done) old new was now step = record { items = step.items; applied = assumption; all = step.all; stopped = tt }
applied_every (Err why) old new was now step = record { items = step.items; applied = assumption; all = tt; stopped = search }

-- ---- the values of its classes

module _ {family : Family} {n id : ℕ} {share : Share} {history : HistoryView} (kept : AreKept family n id share history) (place : ℕ)
    (low : place < places_of share) where
  -- the class at a place is the node's own
  pub own_at : IsOwn share (place * n + id)
  unfolding IsOwn places_of
  own_at = rw (kept.share_is.0, kept.share_is.1, div-mul-add place n id kept.one_of_n) (mod-mul-add place n id kept.one_of_n, low)

  pub class_at_low : place * n + id < 2 ^ 32
  class_at_low =
      let below : place * n + id < classes_of family = ((kept.owned (place * n + id)).0 own_at).1 in
      let few : classes_of family ≤ 2 ^ 32 = kept.few in
      omega arith

-- the values of the classes at the places so far
pub record AreValuesBelow (share : Share) (upto : ℕ) (values : List Value) : Type 0 where
  pub whole : length values ≡ upto
  pub each : (place : ℕ) (value : Value) → slice_get values place ≡ Some value → HasValueNow share (class_of_place share.nodes share.id place) value

pub values_none : (share : Share) → AreValuesBelow share 0 []
values_none share = record {
  whole = refl;
  each = λ place value there. let none : place < 0 = slice_get_within [] place value there in absurd (omega arith);
}

pub values_more : {family : Family} {n id : ℕ} {share : Share} {history : HistoryView} {upto : ℕ} {values new : List Value} (value : Value) →
    AreKept family n id share history → AreValuesBelow share upto values → new ≡ values ++ value ∷ [] → HasValueNow share (upto * n + id) value →
    AreValuesBelow share (upto + 1) new
values_more {n = n} {share = share} {upto = upto} {values = values} value kept before is has = rw is (record {
  whole = length-append values (value ∷ []) ∙ ap (λ (k : ℕ). k + 1) before.whole;
  each = λ place other there. elim (at_end values value other place there) [
    | inl earlier ↦ before.each place other earlier
    | inr last ↦ subst (λ v. HasValueNow share (class_of_place share.nodes share.id place) v) last.1
        (subst (λ (k : ℕ). HasValueNow share (class_of_place share.nodes share.id k) value) (sym (last.0 ∙ before.whole))
        (subst (λ (m : ℕ). HasValueNow share (upto * m + share.id) value) (sym kept.share_is.0)
        (subst (λ (k : ℕ). HasValueNow share (upto * n + k) value) (sym kept.share_is.1) has)))
  ];
})
