-- The next item of a history teaches one copy of an edge, and no other.
use Rattle.dob_history.proofs.Common.{◌&&◌, ◌++◌, ◌+◌, ◌<◌, ◌∙◌, ◌∷◌, ◌≡◌, ◌≢◌, ◌≤◌, ◌⊎◌, Bool, Changes, Draw, IsChained, IsNext, Item, List, Settlement, Value}
use Rattle.dob_history.proofs.Common.{[], all_known, ap, append_assoc, arith, cases_eq, cond, copies, each_below, eqb, filter, inl, inr, items_from, items_of}
use Rattle.dob_history.proofs.Common.{items_to, known, last_now, length, ltb, nat_tests, owner_of, subst, suc, sym, value_of, ℕ}
use Rattle.dob_history.proofs.Copies.{Changes-one, Changes-each_below, each_below-same, items_to-append, items_to-cons, items_to-items_of, no_other, NonePass}
use Rattle.dob_history.proofs.Copies.{last_now-agree, last_now-none, last_now-append, agree_after}
use Rattle.dob_history.proofs.Splits.{IsMade, IsFrom, made_from, AreNumbered, AreNumbered-left, AreNumbered-right, chained_numbered, none_of_later}

none_after : (items : List Item) (p q copy number : ℕ) (ss : List Settlement) → AreNumbered number ss →
    ((m : ℕ) → number ≤ m → items_to items m p ≡ 0) → NonePass (λ s. eqb s.class q && ltb copy (items_to items s.number p)) ss
none_after items p q copy number [] numbered none = tt
none_after items p q copy number (s ∷ ss) numbered none =
    (grind (arith, nat_tests, none s.number), none_after items p q copy (suc number) ss numbered.1 (λ m above. none m (omega arith)))

-- ---- one more item

-- one item counts where it is for the class
one_item : (s : Settlement) (item : Item) (p : ℕ) → item.number ≡ s.number → items_to (item ∷ []) s.number p ≡ cond (eqb item.to p) 1 0
one_item s item p same = grind (arith, nat_tests, items_to-cons item [] s.number p)

part_alone : (targets : ℕ → List ℕ) (n node : ℕ) (s : Settlement) (xs ys : List Item) → items_of targets n node s ≡ xs ++ ys →
    (number p : ℕ) → number ≢ s.number → items_to xs number p ≡ 0
part_alone targets n node s xs ys is number p other =
    omega (
      arith,
      items_to-append xs ys number p,
      no_other s number p (filter (λ to. eqb (owner_of n to) node) (targets s.class)) (λ e. other (sym e)),
      ap (λ items. items_to items number p) is,
    )

other_copy : (copy at : ℕ) → copy ≢ at → ltb copy at ≡ ltb copy (suc at)
other_copy copy at other = grind (arith, nat_tests)

module _ (targets : ℕ → List ℕ) (classes n : ℕ) (histories : ℕ → List Settlement) (applied after : ℕ → List Item) (i j : ℕ) (item : Item)
    (chained : IsChained classes n i (histories i)) (made : IsMade targets n j (histories i) (applied i) item)
    (grown : after i ≡ applied i ++ item ∷ []) (same_else : (k : ℕ) → k ≢ i → after k ≡ applied k) where
  abbrev pub s : Settlement
  s = made.s

  abbrev more : List Item
  more = made.part ++ item ∷ []

  pub next : IsNext classes n i made.before s
  next = chained made.before s made.behind made.history_is

  pub source : IsFrom n j s item
  source = made_from targets n j s made.part item made.rest made.block_is

  number_is : item.number ≡ s.number
  number_is = ap (λ (r : Item). r.number) source.is

  longer : items_of targets n j s ≡ more ++ made.rest
  longer = made.block_is ∙ sym (append_assoc made.part (item ∷ []) made.rest)

  numbered : AreNumbered 0 (made.before ++ s ∷ made.behind)
  numbered = subst (AreNumbered 0) made.history_is (chained_numbered classes n i (histories i) chained)

  -- what a copy knows where a part of the items of s is applied, behind all items of what came before
  knows : (given : ℕ → List Item) (part rest : List Item) → given i ≡ items_from targets n j made.before ++ part →
      items_of targets n j s ≡ part ++ rest → (p q copy : ℕ) → owner_of n p ≡ j → owner_of n q ≡ i → copy < copies targets p q →
      known (histories (owner_of n q)) (given (owner_of n q)) p q copy
      ≡ cond (eqb s.class q && ltb copy (items_to part s.number p)) s.now (value_of made.before q)
  knows given part rest is block_is p q copy own owned below =
      let earlier = items_from targets n j made.before in
      let test : Settlement → Bool = λ r. eqb r.class q && ltb copy (items_to (earlier ++ part) r.number p) in
      let early : last_now test Draw made.before ≡ value_of made.before q =
      last_now-agree test (λ r. eqb r.class q) Draw made.before (agree_after targets n j p q copy [] part made.before own below) in
      let none : (m : ℕ) → length made.before ≤ m → items_to earlier m p ≡ 0 =
      (λ m above. none_of_later targets n j 0 m p made.before (AreNumbered-left 0 made.before (s ∷ made.behind) numbered) (omega arith)) in
      let sum : (m : ℕ) → items_to (earlier ++ part) m p ≡ items_to earlier m p + items_to part m p = (λ m. items_to-append earlier part m p) in
      let place : s.number ≡ length made.before = next.number in
      let own_items : items_to (earlier ++ part) s.number p ≡ items_to part s.number p = omega (arith, none s.number (omega arith), sum s.number) in
      let tail : NonePass test made.behind =
      none_after (earlier ++ part) p q copy (suc (0 + length made.before)) made.behind (AreNumbered-right 0 made.before (s ∷ made.behind) numbered).1
      (λ m above. omega (arith, none m (omega arith), sum m, part_alone targets n j s part rest block_is m p (λ e. absurd (omega (arith, e))))) in
      ap (λ k. known (histories k) (given k) p q copy) owned
      ∙ ap (λ h. known h (given i) p q copy) made.history_is
      ∙ ap (λ items. known (made.before ++ s ∷ made.behind) items p q copy) is
      ∙ last_now-append test Draw made.before (s ∷ made.behind)
      ∙ last_now-none test (cond (test s) s.now (last_now test Draw made.before)) made.behind tail
      ∙ ap (λ v. cond (test s) s.now v) early
      ∙ ap (λ m. cond (eqb s.class q && ltb copy m) s.now (value_of made.before q)) own_items

  -- before the item, and after it
  knows_before : (p q copy : ℕ) → owner_of n p ≡ j → owner_of n q ≡ i → copy < copies targets p q →
      known (histories (owner_of n q)) (applied (owner_of n q)) p q copy
      ≡ cond (eqb s.class q && ltb copy (items_to made.part s.number p)) s.now (value_of made.before q)
  knows_before = knows applied made.part (item ∷ made.rest) made.applied_is made.block_is

  knows_after : (p q copy : ℕ) → owner_of n p ≡ j → owner_of n q ≡ i → copy < copies targets p q →
      known (histories (owner_of n q)) (after (owner_of n q)) p q copy
      ≡ cond (eqb s.class q && ltb copy (items_to more s.number p)) s.now (value_of made.before q)
  knows_after = knows after more made.rest (grown ∙ ap (λ items. items ++ item ∷ []) made.applied_is
      ∙ append_assoc (items_from targets n j made.before) made.part (item ∷ [])) longer

  -- the two rows of a class
  abbrev row : (ℕ → List Item) → ℕ → ℕ → List Value
  row items p q = each_below (λ (copy : ℕ). known (histories (owner_of n q)) (items (owner_of n q)) p q copy ∷ []) (copies targets p q)

  -- where the item is for another class, or the edge goes into another class, nothing changes
  same_copy : (p q copy : ℕ) → owner_of n p ≡ j → owner_of n q ≡ i → copy < copies targets p q →
      (eqb s.class q && ltb copy (items_to made.part s.number p)) ≡ (eqb s.class q && ltb copy (items_to more s.number p)) →
      known (histories (owner_of n q)) (applied (owner_of n q)) p q copy ≡ known (histories (owner_of n q)) (after (owner_of n q)) p q copy
  same_copy p q copy own owned below same =
      knows_before p q copy own owned below
      ∙ ap (λ b. cond b s.now (value_of made.before q)) same
      ∙ sym (knows_after p q copy own owned below)

  same_row : (p q : ℕ) → owner_of n p ≡ j → (p ≢ item.to) ⊎ (q ≢ s.class) → row applied p q ≡ row after p q
  same_row p q own other = elim (cases_eq (owner_of n q) i) [
    | inl owned ↦ each_below-same (λ (copy : ℕ). known (histories (owner_of n q)) (applied (owner_of n q)) p q copy ∷ [])
        (λ (copy : ℕ). known (histories (owner_of n q)) (after (owner_of n q)) p q copy ∷ []) (copies targets p q)
        (λ copy below. ap (λ v. v ∷ []) (same_copy p q copy own owned below (tests copy)))
    | inr elsewhere ↦ ap (λ items. each_below (λ (copy : ℕ). known (histories (owner_of n q)) items p q copy ∷ []) (copies targets p q))
        (sym (same_else (owner_of n q) elsewhere))
  ]
    where
      no_more : p ≢ item.to → items_to made.part s.number p ≡ items_to more s.number p
      no_more apart = grind (arith, nat_tests, items_to-append made.part (item ∷ []) s.number p, one_item s item p number_is)

      tests : (copy : ℕ) → (eqb s.class q && ltb copy (items_to made.part s.number p)) ≡ (eqb s.class q && ltb copy (items_to more s.number p))
      tests copy = elim other [
        | inl apart ↦ ap (λ m. eqb s.class q && ltb copy m) (no_more apart)
        | inr differs ↦ grind (arith, nat_tests)
      ]

  -- in the row of the settled class one copy learns
  abbrev pub taught : ℕ
  taught = items_to made.part s.number item.to

  one_more : items_to more s.number item.to ≡ suc taught
  one_more = grind (arith, nat_tests, items_to-append made.part (item ∷ []) s.number item.to, one_item s item item.to number_is)

  pub has_copy : taught < copies targets item.to s.class
  has_copy = omega (
    arith,
    items_to-items_of targets n j s item.to source.own,
    ap (λ items. items_to items s.number item.to) longer,
    items_to-append more made.rest s.number item.to,
    one_more,
  )

  row_learns : Changes (row applied item.to s.class) (row after item.to s.class) item.was item.now
  row_learns =
      let p = item.to in
      let q = s.class in
      let own = source.own in
      Changes-each_below (λ (copy : ℕ). known (histories (owner_of n q)) (applied (owner_of n q)) p q copy ∷ [])
      (λ (copy : ℕ). known (histories (owner_of n q)) (after (owner_of n q)) p q copy ∷ []) (copies targets p q) taught item.was item.now has_copy
      (Changes-one (known (histories (owner_of n q)) (applied (owner_of n q)) p q taught) (known (histories (owner_of n q)) (after (owner_of n q)) p q taught)
      item.was item.now
      (knows_before p q taught own next.own has_copy ∙ grind (arith, nat_tests, next.was, ap (λ (r : Item). r.was) source.is))
      (knows_after p q taught own next.own has_copy ∙ grind (arith, nat_tests, one_more, ap (λ (r : Item). r.now) source.is)))
      (λ copy below apart. ap (λ v. v ∷ []) (same_copy p q copy own next.own below
      (ap (λ b. eqb s.class q && b) (other_copy copy taught apart) ∙ ap (λ m. eqb s.class q && ltb copy m) (sym one_more))))

  -- the class that the item is for learns what it says
  pub learnt : Changes (all_known targets classes n histories applied item.to) (all_known targets classes n histories after item.to) item.was item.now
  unfolding all_known
  learnt = Changes-each_below (λ (q : ℕ). row applied item.to q) (λ (q : ℕ). row after item.to q) classes s.class item.was item.now next.below
      row_learns (λ q below apart. same_row item.to q source.own (inr apart))

  -- and no other class of the node learns anything
  pub nothing_learnt : (p : ℕ) → owner_of n p ≡ j → p ≢ item.to →
      all_known targets classes n histories applied p ≡ all_known targets classes n histories after p
  unfolding all_known
  nothing_learnt p own apart =
      each_below-same (λ (q : ℕ). row applied p q) (λ (q : ℕ). row after p q) classes (λ q below. same_row p q own (inl apart))
