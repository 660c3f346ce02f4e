-- One class more is opened, with its slot and run where it is open; the share owns those listed, with their statuses and fresh cells.
use Rattle.dob_share.proofs.Common.{◌%◌, ◌+◌, ◌<◌, ◌^◌, ◌∙◌, ◌≡◌, ◌≤◌, AreOpened, IsStatusOf, List, Opening, StatusWord, StatusesView, ap, arc_value, arith}
use Rattle.dob_share.proofs.Common.{class_of_place, opening_of, refl, settled_among, settles, subst, sym, word_of, ℕ}
use Rattle.dob_share.proofs.Opened.{pooled_open, settles_most, settled_more, AreSlotsBelow, is_new, places_few, slots_none, slots_more}
use Rattle.dob_share.proofs.share.Share.open_placed.Goals.{In_ok-pool}
use Rattle.dob_share.proofs.share.Share.open_placed.Goals as goal

pub loop-place-init : goal.loop-place-init
loop-place-init c = record {
  slots = slots_none c.new-slots.ensures;
  moves = omega arith;
  settled = refl;
  few = omega arith;
}

pub loop-place-preserved : goal.loop-place-preserved
loop-place-preserved c =
    let l = c.loop-place in
    let out = c.in_ok-entries.ensures in
    let listed : ℕ → Opening = λ place. opening_of c.args.listed.now (class_of_place c.args.step c.args.first place) in
    let words : List StatusWord = arc_value c.statuses.inside.words in
    let same : words ≡ c.in_ok-statuses.statuses.words = ap (λ (v : StatusesView). v.words) c.statuses.view_is in
    let status_is = subst (λ (ws : List StatusWord). IsStatusOf (word_of ws l.place) (l.place % 64) (listed l.place).status)
    (sym same) (c.in_ok-statuses.ensures.statuses l.place (omega arith)) in
    let opening_is : c.opening_at-opening.result ≡ listed l.place
    = c.opening_at-opening.ensures ∙ ap (λ (k : ℕ). opening_of c.args.listed.now (class_of_place k c.args.first l.place)) c.get.ensures.value in
    record {
      slots = subst (λ (k : ℕ). AreSlotsBelow words listed (l.place + 1) c.push_slot.new.slots (l.moves + k)) (sym out.moves)
          (slots_more l.invariant.slots c.opening_at-opening.result c.push_slot.new.slots opening_is status_is out.few out.slots);
      moves = subst (λ (k : ℕ). l.moves + k < 2 ^ 33) (sym out.moves) out.small;
      settled = settled_more (λ place. (listed place).status) l.place l.settled c.settlements_of-settled.result l.invariant.settled
          (c.settlements_of-settled.ensures ∙ ap (λ o. settles o.status) opening_is);
      few = (let most = settles_most c.opening_at-opening.result.status in
          let so_far : l.settled ≤ l.place = l.invariant.few in omega (arith, c.settlements_of-settled.ensures));
    }

pub open-requires-clause-few_places : goal.open-requires-clause-few_places
open-requires-clause-few_places c = places_few c.len-count.result c.args.first c.args.step c.places_among-places.result
    (let first = c.requires.first in omega arith) (omega arith) c.places_among-places.ensures

-- the slots of all places
all_slots : (c : In_ok-pool) → AreSlotsBelow c.in_ok-statuses.statuses.words (λ place. opening_of c.args.listed.now
    (class_of_place c.args.step c.args.first place))
    c.places_among-places.result c.loop-place.slots c.loop-place.moves
all_slots c =
    let listed : ℕ → Opening = λ place. opening_of c.args.listed.now (class_of_place c.args.step c.args.first place) in
    let end : c.loop-place.place ≡ c.places_among-places.result = omega arith in
    subst (λ (k : ℕ). AreSlotsBelow c.in_ok-statuses.statuses.words listed k c.loop-place.slots c.loop-place.moves) end
    (subst (λ (ws : List StatusWord). AreSlotsBelow ws listed c.loop-place.place c.loop-place.slots c.loop-place.moves)
    (ap (λ (v : StatusesView). v.words) c.statuses.view_is) c.loop-place.invariant.slots)

pub invariant_of-result : goal.invariant_of-result
invariant_of-result c =
    let slots = all_slots (goal.at.invariant_of-result c).In_ok-pool in
    record {
      owner = c.requires.owner;
      opens = rw c.in_ok-statuses.ensures.places slots.count;
      pooled = pooled_open c.loop-place.slots c.in_ok-pool.pool (subst (λ xs. AreOpened c.loop-place.slots xs) (sym c.in_ok-pool.ensures) slots.opened);
    }

pub returns : goal.returns
returns c = λ openings are.
    let listed : ℕ → Opening = λ place. opening_of c.args.listed.now (class_of_place c.args.step c.args.first place) in
    let all = c.in_ok-statuses.ensures.places in
    let end : c.loop-place.place ≡ c.places_among-places.result = omega arith in
    let inside = λ (place : ℕ) (low : place < c.in_ok-statuses.statuses.places). (c.places_among-places.ensures place).0 (rw all at low) in
    is_new _ listed c.loop-place.moves (record {
      statuses = λ place low. c.in_ok-statuses.ensures.statuses place (subst (λ (k : ℕ). place < k) all low);
      slots = subst (λ (k : ℕ). AreSlotsBelow c.in_ok-statuses.statuses.words listed k c.loop-place.slots c.loop-place.moves) (sym all)
          (all_slots (goal.at.returns c).In_ok-pool);
      pool = c.in_ok-pool.ensures;
      settled = c.loop-place.invariant.settled ∙ ap (settled_among (λ place. (listed place).status)) (end ∙ sym all);
    })
    openings (λ place. (
      λ low. (are.places place).0 (rw c.len-count.ensures.count at (inside place low)),
      λ low. rw all ((c.places_among-places.ensures place).1 (rw c.len-count.ensures.count ((are.places place).1 low))),
    ))
    (λ place low. are.each place ((are.places place).0 (rw c.len-count.ensures.count at (inside place low))))
