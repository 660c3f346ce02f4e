-- What links count and hold, after one of them changed.
use Rattle.dob_endpoint.proofs.Common.{◌++◌, ◌-◌, ◌<◌, ◌∙◌, ◌∷◌, ◌≡◌, ◌≢◌, ◌≤◌, Bool, List, None, Option, Some, [], ap, arith, cond, false, get_or-set_other}
use Rattle.dob_endpoint.proofs.Common.{get_or-set_same, inl, inr, length, length-append, nat_eq, not, refl, set, subst, suc, sym, take, true, zero, ℕ, cases_eq}
use Rattle.dob_endpoint.proofs.Common.{take-append-le, take_all, filter-append, same_Some, slice_get_within, slice_get, slice_index, get_set_other}
use Rattle.dob_endpoint.proofs.Common.{get_set_same, BatchView, place_of, taken_of, batches_of, AreBatchesTaken, AreCounts, AreOwn, HasChangedOne, worked}
use Rattle.dob_endpoint.proofs.Common.{worked_from, held_from, in_slot, Inlet, Outlet, others_more}
use Rattle.std.proofs.lemmas.List.Filters.{length-filter_both}
use Rattle.dob_chan.proofs.Deliveries.{own_more}

pub there_set : {L : Type 0} → (xs : List L) (k : ℕ) (new x : L) → slice_get (set xs k new) k ≡ Some x → new ≡ x
there_set [] k new x e = absurd (cc)
there_set (y ∷ xs) zero new x e = cc
there_set (y ∷ xs) (suc k) new x e = there_set xs k new x e

-- what stood elsewhere and what stands at the place
pub each_after : {L : Type 0} (Q : ℕ → L → Type 0) (xs : List L) (k : ℕ) (y : L) → ((j : ℕ) (l : L) → j ≢ k → slice_get xs j ≡ Some l → Q j l) → Q k y →
    (j : ℕ) (l : L) → slice_get (set xs k y) j ≡ Some l → Q j l
each_after Q xs k y others here j l at = elim (cases_eq j k) [
  | inl same ↦
      let is : y ≡ l = there_set xs k y l (ap (slice_get (set xs k y)) (sym same) ∙ at) in
      subst (λ m. Q m l) (sym same) (subst (λ m. Q k m) is here)
  | inr apart ↦ others j l apart (sym (get_set_other xs k j y apart) ∙ at)
]

-- a link with as many batches as before
pub counts_stay : {L : Type 0} → (batches : L → List BatchView) (counts : List ℕ) (links : List L) (k : ℕ) (old new : L) → AreCounts batches counts links →
    slice_get links k ≡ Some old → length (batches new) ≡ length (batches old) → AreCounts batches counts (set links k new)
counts_stay {L} batches counts links k old new are at same = each_after (λ (j : ℕ) (l : L). slice_index counts j ≡ length (batches l)) links k new
    (λ j l apart there. are j l there) (are k old at ∙ sym same)

-- a link with one batch more, and a count that is one more
pub counts_rise : {L : Type 0} → (batches : L → List BatchView) (counts : List ℕ) (links : List L) (k : ℕ) (old new : L) → AreCounts batches counts links →
    slice_get links k ≡ Some old → k < length counts → length (batches new) ≡ suc (length (batches old)) →
    AreCounts batches (set counts k (suc (slice_index counts k))) (set links k new)
counts_rise {L} batches counts links k old new are at within more =
    let up : ℕ = suc (slice_index counts k) in
    each_after (λ (j : ℕ) (l : L). slice_index (set counts k up) j ≡ length (batches l)) links k new
    (λ j l apart there. get_or-set_other counts k j up 0 apart ∙ are j l there) (get_or-set_same counts k up 0 within ∙ ap suc (are k old at) ∙ sym more)

-- a link of the same place
pub own_set : (node : ℕ) (outlets : List Outlet) (k : ℕ) (old new : Outlet) → AreOwn node outlets → slice_get outlets k ≡ Some old →
    place_of new.end ≡ place_of old.end → AreOwn node (set outlets k new)
own_set node outlets k old new are at same =
    each_after (λ (j : ℕ) (o : Outlet). place_of o.end ≡ node) outlets k new (λ j o apart there. are j o there) (same ∙ are k old at)

-- ---- what came out of an inbox and lies in its slot, of one sender

-- no more than there are of all
pub few_of : (k : ℕ) (xs : List BatchView) → length (batches_of k xs) ≤ length xs
few_of k xs = omega (arith, length-filter_both (λ (b : BatchView). nat_eq b.from k) (λ (b : BatchView). not (nat_eq b.from k)) (λ b. refl) xs)

by_test : (b : BatchView) (t : Bool) → cond t (b ∷ []) [] ≡ in_slot (cond t (Some b) None)
by_test b true = refl
by_test b false = refl

of_slot : (k : ℕ) (slot : Option BatchView) → batches_of k (in_slot slot) ≡ in_slot (held_from slot k)
of_slot k None = refl
of_slot k (Some b) = by_test b (nat_eq b.from k)

-- what came out is what was worked in and then what lies in the slot
pub parts : (inlet : Inlet) (k : ℕ) → taken_of inlet.end k ≡ worked_from inlet k ++ in_slot (held_from inlet.slot k)
parts inlet k = grind (arith, filter-append, of_slot)

front_is : (xs ys : List BatchView) → take (length (xs ++ ys) - length ys) (xs ++ ys) ≡ xs
front_is xs ys =
    let long : length (xs ++ ys) - length ys ≡ length xs = omega (arith, length-append xs ys) in
    ap (λ k. take k (xs ++ ys)) long ∙ take-append-le (length xs) xs ys (omega arith) ∙ take_all (length xs) xs (omega arith)

pub front : (inlet : Inlet) (k : ℕ) →
    take (length (taken_of inlet.end k) - length (in_slot (held_from inlet.slot k))) (taken_of inlet.end k) ≡ worked_from inlet k
front inlet k =
    ap (λ (l : List BatchView). take (length l - length (in_slot (held_from inlet.slot k))) l) (parts inlet k)
    ∙ front_is (worked_from inlet k) (in_slot (held_from inlet.slot k))

-- ---- counts

-- as many as before
pub taken_still : (n : ℕ) (counts : List ℕ) (before after : Inlet) → AreBatchesTaken n counts before → worked after ≡ worked before → AreBatchesTaken n counts after
taken_still n counts before after are same k low = are k low ∙ sym (ap (λ (bs : List BatchView). length (batches_of k bs)) same)

-- one more of its sender's
pub taken_rises : (n : ℕ) (counts : List ℕ) (before after : Inlet) (from : ℕ) (batch : BatchView) → AreBatchesTaken n counts before → from < length counts →
    batch.from ≡ from → worked after ≡ worked before ++ batch ∷ [] → AreBatchesTaken n (set counts from (suc (slice_index counts from))) after
taken_rises n counts before after from batch are within is more j low = elim (cases_eq j from) [
  | inl here ↦
      let one : worked_from after j ≡ worked_from before j ++ batch ∷ [] = ap (batches_of j) more ∙ own_more j (worked before) batch (is ∙ sym here) in
      let long : length (worked_from after j) ≡ suc (length (worked_from before j)) = omega (arith, ap length one, length-append (worked_from before j) (batch ∷ [])) in
      ap (slice_index (set counts from (suc (slice_index counts from)))) here ∙ get_or-set_same counts from (suc (slice_index counts from)) 0 within
      ∙ ap (λ i. suc (slice_index counts i)) (sym here) ∙ ap suc (are j low) ∙ sym long
  | inr apart ↦
      get_or-set_other counts from j (suc (slice_index counts from)) 0 apart ∙ are j low
      ∙ sym (ap (λ (bs : List BatchView). length bs) (ap (batches_of j) more ∙ others_more j (worked before) batch (λ e. apart (sym e ∙ is))))
]

-- ---- what changed of several links
pub changed_there : {L : Type 0} (R : L → L → Type 0) (xs ys : List L) (k : ℕ) → (one : HasChangedOne R k xs ys) → slice_get ys k ≡ Some one.1
changed_there {L} R xs ys k one = ap (λ (l : List L). slice_get l k) one.4 ∙ get_set_same xs k one.1 (slice_get_within xs k one.0 one.2)

pub changed_at : {L : Type 0} (R : L → L → Type 0) (xs ys : List L) (k : ℕ) → HasChangedOne R k xs ys → (before after : L) → slice_get xs k ≡ Some before →
    slice_get ys k ≡ Some after → R before after
changed_at {L} R xs ys k one before after was is =
    let first : one.0 ≡ before = same_Some one.0 before (sym one.2 ∙ was) in
    let second : one.1 ≡ after = same_Some one.1 after (sym (changed_there R xs ys k one) ∙ is) in
    subst (λ (p : L × L). R p.0 p.1) (λ q. (first q, second q)) one.3

pub changed_else : {L : Type 0} (R : L → L → Type 0) (xs ys : List L) (k j : ℕ) → HasChangedOne R k xs ys → j ≢ k → slice_get ys j ≡ slice_get xs j
changed_else {L} R xs ys k j one other = ap (λ (l : List L). slice_get l j) one.4 ∙ get_set_other xs k j one.1 other
