-- What is lawful stays so: the next item fits its cell, and after it the cells and histories are lawful again.
use Rattle.dob_history.proofs.Common.{◌++◌, ◌<◌, ◌∙◌, ◌∷◌, ◌≡◌, ◌≢◌, All, All-append, All-cons, All-contains, All-nil, AreAfter, AreLawfulNodes}
use Rattle.dob_history.proofs.Common.{ArePredecessors-predecessors, AreSettled, Better, CanApply, Cell, CellValue, CellValue-same, Changes, Family}
use Rattle.dob_history.proofs.Common.{FollowsAtStatus, HasClasses-classes_of, HasStatus, IsChained, IsEntry, IsNext, IsNextItem, IsOneMore, Item, List, Open}
use Rattle.dob_history.proofs.Common.{RepresentsClass, Settlement, Setup, SumsUp, Value, [], all_known, ap, append_assoc, arith, cases_eq, changed, class_setup}
use Rattle.dob_history.proofs.Common.{class_setup_is, classes_of, cond, copies, counted, eq-eqb, eqb, eqb-true, inl, inr, items_from, known, known_of, length}
use Rattle.dob_history.proofs.Common.{nat_tests, ne_eqb, one_status, owner_of, predecessors, refl, representative_below, subst, sums_up_after, sym, takes_next}
use Rattle.dob_history.proofs.Common.{value_of, ℕ}
use Rattle.dob_history.proofs.Rest.{some_of, below_owner}
use Rattle.dob_history.proofs.Splits.{IsMade, IsFrom, split, made_from}
use Rattle.dob_history.proofs.Learns.{has_copy, learnt, nothing_learnt}
use Rattle.dob_history.proofs.Settles.{chained_more, value_of-more, still_begun, known_more}
use Rattle.dob_history.proofs.Copies.{all_known-each}
use Rattle.dob_history.proofs.Totals.{some_known}
use Rattle.dob_history.proofs.Kept.{all_known-same, known_entries, follows_entry, better_apart}
use Rattle.dob_history.proofs.ValuesFollow.{value_follows, SumsUp-same}

-- ---- a class that has a copy is open
open_class : (family : Family) (p q : ℕ) → q < classes_of family → 0 < copies (predecessors family) p q →
    (p < classes_of family) × HasStatus family.profile (class_setup family p) Open
open_class family p q below above =
    let rep : RepresentsClass family (class_setup family q) q = class_setup_is family q (classes_of family) (HasClasses-classes_of family) below in
    let are = ArePredecessors-predecessors family (class_setup family q) q rep in
    let there = counted (λ to. eqb to p) (predecessors family q) above in
    let same : there.0 ≡ p = eqb-true there.0 p there.2 in
    let known = All-contains (λ (class : ℕ). (s : Setup) × RepresentsClass family s class) (predecessors family q) there.0 are.counts.known there.1 in
    let low : p < classes_of family = subst (λ k. k < classes_of family) same (representative_below family known.0 there.0 known.1) in
    let represents : RepresentsClass family (class_setup family p) p = class_setup_is family p (classes_of family) (HasClasses-classes_of family) low in
    let edge = are.counts.edges (class_setup family p) p represents in
    let move = some_of edge.moves (copies (predecessors family) p q) edge.counted above in
    (low, (edge.sound move.0 move.1).0)

module _ (family : Family) (n : ℕ) (histories : ℕ → List Settlement) (applied : ℕ → ℕ → List Item) (cell : ℕ → Cell) (value : ℕ → Value)
    (some : 0 < n) (lawful : AreLawfulNodes family n histories applied cell value) (i j : ℕ) (low_i : i < n) (low_j : j < n) (item : Item)
    (is_next : IsNextItem family n histories applied i j item) where
  abbrev targets : ℕ → List ℕ
  targets = predecessors family

  abbrev classes : ℕ
  classes = classes_of family

  -- what node j has applied from each node
  abbrev items : ℕ → List Item
  items k = applied k j

  made : IsMade targets n j (histories i) (items i) item
  made = split targets n j (histories i) (items i) item is_next.0 is_next.1

  from : IsFrom n j made.s item
  from = made_from targets n j made.s made.part item made.rest made.block_is

  next_is : IsNext classes n i made.before made.s
  next_is = lawful.chained i low_i made.before made.s made.behind made.history_is

  pub better : Better item.was item.now
  better = subst (λ (r : Item). Better r.was r.now) (sym from.is) next_is.better

  -- what the class of the item learns, whatever it is that is applied then
  class_learns : (after : ℕ → List Item) → after i ≡ items i ++ item ∷ [] → ((k : ℕ) → k ≢ i → after k ≡ items k) →
      Changes (all_known targets classes n histories items item.to) (all_known targets classes n histories after item.to) item.was item.now
  class_learns after grown same_else =
      learnt targets classes n histories items after i j item (lawful.chained i low_i) made grown same_else

  abbrev one_more : ℕ → List Item
  one_more k = cond (eqb k i) (items k ++ item ∷ []) (items k)

  grown_one : one_more i ≡ items i ++ item ∷ []
  grown_one = ap (λ b. cond b (items i ++ item ∷ []) (items i)) (eq-eqb i i refl)

  else_one : (k : ℕ) → k ≢ i → one_more k ≡ items k
  else_one k other = ap (λ b. cond b (items k ++ item ∷ []) (items k)) (ne_eqb k i other)

  there_is : (item.to < classes) × HasStatus family.profile (class_setup family item.to) Open
  there_is =
      let copy = has_copy targets classes n histories items one_more i j item (lawful.chained i low_i) made grown_one else_one in
      open_class family item.to made.s.class next_is.below (omega arith)

  known_here : (after : ℕ → ℕ → List Item) → known_of family n histories after item.to ≡ all_known targets classes n histories (λ k. after k j) item.to
  known_here after = ap (λ m. all_known targets classes n histories (λ k. after k m) item.to) from.own

  -- the next item fits
  pub can_apply : CanApply family n j cell item
  can_apply = record {
    below = there_is.0;
    own = from.own;
    is_open = there_is.1;
    takes = takes_next (all_known targets classes n histories items item.to) (all_known targets classes n histories one_more item.to)
        item.was item.now (cell item.to) better (class_learns one_more grown_one else_one)
        (subst (λ known. SumsUp known (cell item.to)) (known_here applied) (lawful.sums item.to there_is.0 there_is.1));
  }

  module _ (after : ℕ → ℕ → List Item) (is_applied : IsOneMore i j item applied after) where
    -- the class of the item learns what it says
    pub learns_here : Changes (known_of family n histories applied item.to) (known_of family n histories after item.to) item.was item.now
    learns_here = rw (known_here applied, known_here after) (class_learns (λ k. after k j) is_applied.one_more is_applied.same_sender)

    -- no other class learns anything
    pub still : (p : ℕ) → p ≢ item.to → known_of family n histories after p ≡ known_of family n histories applied p
    still p other = elim (cases_eq (owner_of n p) j) [
      | inl own ↦ rw own (sym (nothing_learnt targets classes n histories items (λ k. after k j) i j item (lawful.chained i low_i) made is_applied.one_more
          is_applied.same_sender p own other))
      | inr elsewhere ↦ all_known-same targets classes n histories histories (λ k. applied k (owner_of n p)) (λ k. after k (owner_of n p)) p
          (λ k. refl) (λ k. is_applied.same_receiver k (owner_of n p) elsewhere)
    ]

  module _ (after : ℕ → ℕ → List Item) (is_applied : IsOneMore i j item applied after) (cells : ℕ → Cell) (worth : ℕ → Value)
      (are_after : AreAfter item cell cells value worth) (grown : ℕ → List Settlement)
      (settled : AreSettled j item.to (value item.to) (worth item.to) histories grown) where
    -- ---- with the item, before its settlement

    known_now : (p : ℕ) → p < classes → HasStatus family.profile (class_setup family p) Open → SumsUp (known_of family n histories after p) (cells p)
    known_now p low is_open = elim (cases_eq p item.to) [
      | inl same ↦ rw same here
      | inr other ↦ SumsUp-same (known_of family n histories after p) (cells p) (cell p) (are_after.others p other).0
          (rw (still after is_applied p other) (lawful.sums p low is_open))
    ]
      where
        here : SumsUp (known_of family n histories after item.to) (cells item.to)
        here = SumsUp-same (known_of family n histories after item.to) (cells item.to) (changed item.was item.now (cell item.to)) are_after.cell_is
            (sums_up_after (known_of family n histories applied item.to) (known_of family n histories after item.to) item.was item.now (cell item.to)
            better (learns_here after is_applied) (lawful.sums item.to there_is.0 there_is.1))

    begun_now : (k m : ℕ) → k < n → m < n → (rest : List Item) × (items_from targets n m (histories k) ≡ after k m ++ rest)
    begun_now k m low_k low_m = elim (cases_eq m j) [
      | inl own ↦ elim (cases_eq k i) [
        | inl sender ↦ (is_next.0, rw (own, sender, is_applied.one_more, append_assoc) is_next.1)
        | inr other ↦ (let was = lawful.begun k j low_k low_j in (was.0, rw (own, is_applied.same_sender k other) was.1))
      ]
      | inr elsewhere ↦ (let was = lawful.begun k m low_k low_m in (was.0, rw (is_applied.same_receiver k m elsewhere) was.1))
    ]

    -- ---- the settlement

    abbrev to : ℕ
    to = item.to

    abbrev news : Settlement
    news = record { number = length (histories j); class = to; was = value to; now = worth to }

    value_is : value to ≡ value_of (histories j) to
    value_is = lawful.values to there_is.0 ∙ ap (λ k. value_of (histories k) to) from.own

    news_next : Better (value to) (worth to) → IsNext classes n j (histories j) news
    news_next is_better = record { number = refl; below = there_is.0; own = from.own; was = value_is; better = is_better }

    news_entry : IsEntry (worth to)
    news_entry =
        let known = known_of family n histories after to in
        follows_entry known (worth to)
        (known_entries targets classes n histories (λ k. after k (owner_of n to)) to some lawful.entries)
        (value_follows known (cells to) (worth to) (known_now to there_is.0 there_is.1)
        (some_known family to there_is.0 n histories (λ k. after k (owner_of n to)) there_is.1) are_after.gives)
        are_after.short

    -- what holds of each history as it was, and of that of node j with the settlement, holds of each now
    for_each : (P : ℕ → List Settlement → Type 0) → ((k : ℕ) → k < n → P k (histories k)) →
        (Better (value to) (worth to) → P j (histories j ++ news ∷ [])) → (k : ℕ) → k < n → P k (grown k)
    for_each P before more k low = elim (cases_eq k j) [
      | inl own ↦ elim are_after.better [
        | inl same ↦ rw (own, settled.same same) (before j low_j)
        | inr is_better ↦ rw (own, settled.more (better_apart (value to) (worth to) is_better)) (more is_better)
      ]
      | inr other ↦ rw (settled.others k other) (before k low)
    ]

    known_same : (p : ℕ) → known_of family n grown after p ≡ known_of family n histories after p
    known_same p =
        let m = owner_of n p in
        let begun = begun_now j m low_j (below_owner n p some) in
        all_known-each targets classes n histories grown (λ k. after k m) (λ k. after k m) p (λ q copy.
        for_each (λ k h. known h (after k m) p q copy ≡ known (histories k) (after k m) p q copy) (λ k low. refl)
        (λ is_better. known_more targets classes n j m (histories j) news (after j m) begun.0 p q copy (lawful.chained j low_j) (news_next is_better) begun.1)
        (owner_of n q) (below_owner n q some))

    value_now : (p : ℕ) → p < classes → worth p ≡ value_of (grown (owner_of n p)) p
    value_now p low = elim (cases_eq p to) [
      | inl same ↦ rw (same, from.own) at_class
      | inr other ↦ (are_after.others p other).1 ∙ lawful.values p low ∙ sym (elsewhere other)
    ]
      where
        at_class : worth to ≡ value_of (grown j) to
        at_class = elim are_after.better [
          | inl same ↦ sym same ∙ value_is ∙ ap (λ h. value_of h to) (sym (settled.same same))
          | inr is_better ↦ grind (arith, nat_tests, value_of-more (histories j) news to, settled.more (better_apart (value to) (worth to) is_better))
        ]

        elsewhere : p ≢ to → value_of (grown (owner_of n p)) p ≡ value_of (histories (owner_of n p)) p
        elsewhere other = for_each (λ k h. value_of h p ≡ value_of (histories k) p) (λ k low. refl)
            (λ is_better. grind (arith, nat_tests, value_of-more (histories j) news p, other)) (owner_of n p) (below_owner n p some)

    -- the nodes are lawful again
    pub lawful_after : AreLawfulNodes family n grown after cells worth
    lawful_after = record {
      chained = for_each (λ k h. IsChained classes n k h) lawful.chained
          (λ is_better. chained_more classes n j (histories j) news (lawful.chained j low_j) (news_next is_better));
      entries = for_each (λ k h. All (λ (s : Settlement). IsEntry s.now) h) lawful.entries
          (λ is_better. All-append (λ (s : Settlement). IsEntry s.now) (histories j) (news ∷ []) (lawful.entries j low_j)
          (All-cons (λ (s : Settlement). IsEntry s.now) news [] news_entry (All-nil (λ (s : Settlement). IsEntry s.now))));
      begun = λ k m low_k low_m. for_each (λ l h. (rest : List Item) × (items_from targets n m h ≡ after l m ++ rest)) (λ l low_l. begun_now l m low_l low_m)
          (λ is_better. let before = begun_now j m low_j low_m in (
            before.0 ++ items_from targets n m (news ∷ []),
            still_begun targets n m (histories j) (news ∷ []) (after j m) before.0 before.1,
          ))
          k low_k;
      sums = λ p low is_open. rw (known_same p) (known_now p low is_open);
      cell_values = λ p low is_open. elim (cases_eq p to) [
        | inl same ↦ rw same are_after.gives
        | inr other ↦ subst (λ v. CellValue (cells p) v) (sym (are_after.others p other).1)
            (CellValue-same (cells p) (cell p) (value p) (are_after.others p other).0 (lawful.cell_values p low is_open))
      ];
      over = λ p status low is closed. subst (λ v. FollowsAtStatus status [] v)
          (sym (are_after.others p (λ same. closed (one_status family.profile (class_setup family p) status Open is
          (subst (λ k. HasStatus family.profile (class_setup family k) Open) (sym same) there_is.1)))).1)
          (lawful.over p status low is closed);
      values = value_now;
    }
