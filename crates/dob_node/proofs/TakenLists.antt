-- Items that a node takes one after the other, from a batch and from its own: what the node has then, whose history may have had other room before.
use Rattle.dob_node.proofs.Common.{◌<◌, ◌∙◌, ◌∷◌, ◌≡◌, ◌≢◌, ◌≤◌, [], AppliesAll, AreTaken, AreTakenBefore, Cause, Err, HasItemFault, HasTaken, HasTakenBefore}
use Rattle.dob_node.proofs.Common.{HistoryView, IfErr, IsHistory, IsSound, IsUnchanged, Item, List, NodeView, None, Ok, Result, Share, Some, StayKept, StopsAt}
use Rattle.dob_node.proofs.Common.{StopsFirst, ap, arith, drop, length, length-append, refl, slice_get, subst, ℕ}
use Rattle.std.specs.Prelude.{OnOk}
use Rattle.dob_history.proofs.Kepts.{kept_back}
use Rattle.dob_share.specs.declared.cause.Cause.TheVariants as cause
use Rattle.dob_history.proofs.TakenLists.{all_with_room, stops_with_room, emitted_all, kept_with_room}

-- ---- what is taken of a node, whose history may have had other room

module _ {node : NodeView} {after : Share} {mid grown : HistoryView} (same : IsHistory node.history mid) where
  pub has_taken : (items : List Item) (count : ℕ) → AreTaken items node.share after mid grown →
      HasTaken items node (record node { share = after; history = grown; taken = count })
  has_taken items count taken = record {
    taken = all_with_room items node.share after node.history mid grown same taken;
    same = (refl, refl, refl, refl);
    own = refl;
    outboxes = refl;
  }

  pub applies_err : (items : List Item) (count : ℕ) (why : Cause) → StopsAt items node.share mid why →
      AreTakenBefore items count node.share after mid grown why →
      why ≢ cause.Memory → AppliesAll items (Err why) node (record node { share = after; history = grown; taken = count })
  applies_err items count why stops before other = record {
    taken = tt;
    all = tt;
    stopped = stops_with_room items node.share node.history mid why same stops;
    before = record {
      front = before.front;
      item = before.item;
      behind = before.behind;
      items_are = before.items_are;
      counted = before.counted;
      taken = has_taken before.front count before.taken;
      reason = before.reason;
    };
    memory = λ is. absurd (other (cc));
  }

  pub applies_ok : (items : List Item) (count : ℕ) → AreTaken items node.share after mid grown → count ≡ length items →
      AppliesAll items (Ok tt) node (record node { share = after; history = grown; taken = count })
  applies_ok items count taken all = record { taken = has_taken items count taken; all = all; stopped = tt; before = tt; memory = λ is. absurd (cc) }

  -- it stays sound
  pub still_sound : (items : List Item) {own : List Item} {count : ℕ} → IsSound node → AreTaken items node.share after mid grown →
      StayKept node.share mid after grown → IsSound (record node { share = after; history = grown; own = own; taken = count })
  still_sound items sound taken still = record {
    kept = kept_back (kept_with_room node.family node.n node.id node.share node.history mid same sound.kept) still;
    emitted = emitted_all items node.share after node.history grown node.expanded (all_with_room items node.share after node.history mid grown same taken) sound.emitted;
    receivers = sound.receivers;
    addressed = sound.addressed;
    nothing_to_self = sound.nothing_to_self;
  }

-- where room is refused, none is taken
pub none_before : {node : NodeView} {mid : HistoryView} (items : List Item) → 0 < length items → IsHistory node.history mid →
    HasTakenBefore items node (record node { history = mid; taken = 0 }) cause.Memory
none_before [] some same = absurd (omega (arith, some))
none_before (item ∷ behind) some same = record {
  front = [];
  item = item;
  behind = behind;
  items_are = refl;
  counted = refl;
  taken = record { taken = (refl, same); same = (refl, refl, refl, refl); own = refl; outboxes = refl };
  reason = tt;
}

-- ---- what is taken of a node that made room before
pub taken_since : (items : List Item) (old mid new : NodeView) → IsUnchanged old mid → HasTaken items mid new → HasTaken items old new
taken_since items old mid new same taken = record {
  taken = all_with_room items old.share new.share old.history mid.history new.history same.kept.1
      (subst (λ (s : Share). AreTaken items s new.share mid.history new.history) same.kept.0 taken.taken);
  same = (taken.same.0 ∙ same.same.0, taken.same.1 ∙ same.same.1, taken.same.2 ∙ same.same.2, taken.same.3 ∙ same.same.3);
  own = taken.own ∙ same.kept.2;
  outboxes = taken.outboxes ∙ same.outboxes;
}

pub before_since : (items : List Item) (old mid new : NodeView) (why : Cause) → IsUnchanged old mid → HasTakenBefore items mid new why →
    HasTakenBefore items old new why
before_since items old mid new why same before = record {
  front = before.front;
  item = before.item;
  behind = before.behind;
  items_are = before.items_are;
  counted = before.counted;
  taken = taken_since before.front old mid new same before.taken;
  reason = before.reason;
}

-- ---- the own items of a node

-- the first of a node's own items can't be applied where that of its queue can't be taken
pub fault_of : (result : Result (Unit {0}) Cause) (node : NodeView) → IfErr result (λ why. StopsFirst node.own node.share why) →
    IfErr result (λ why. HasItemFault node why)
fault_of (Ok done) node stops = tt
fault_of (Err why) node stops = record { item = stops.item; behind = stops.behind; first = stops.first; reason = stops.reason }

-- no more are taken than there are
pub taken_within : (share after : Share) (history grown : HistoryView) (result : Result (Unit {0}) Cause) (queue : List Item) (count : ℕ) → OnOk result (count ≡ length queue) →
    IfErr result (λ why. AreTakenBefore queue count share after history grown why) → count ≤ length queue
taken_within share after history grown (Ok done) queue count all before = omega (arith, all)
taken_within share after history grown (Err why) queue count all before =
    omega (arith, before.counted, ap length before.items_are, length-append before.front (before.item ∷ before.behind))

-- ---- lists

-- the first of a list, and those behind it
pub first_there : {X : Type 0} (xs : List X) (x : X) → slice_get xs 0 ≡ Some x → xs ≡ x ∷ drop 1 xs
first_there [] x is = absurd (cc)
first_there (y ∷ xs) x is = cc

pub none_first : {X : Type 0} (xs : List X) → slice_get xs 0 ≡ None → xs ≡ []
none_first [] is = refl
none_first (x ∷ xs) is = cc
