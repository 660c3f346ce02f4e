-- A runner that has nothing left to do cut enough batches for what its classes have to tell another node.
use Rattle.dob_run.proofs.Common.{◌*◌, ◌++◌, ◌+◌, ◌<◌, ◌∙◌, ◌∷◌, ◌≡◌, ◌≢◌, ◌≤◌, Bool, List, Some, [], ap, arith, cond, eqb, false, get_or, inl, inr, length}
use Rattle.dob_run.proofs.Common.{length-append, refl, rules, subst, suc, sym, true, zero, ℕ, cases_Bool, cases_eq, cases_lt, eq-eqb, eqb-true, ne_eqb}
use Rattle.dob_run.proofs.Common.{append-nil, get_or_past, length-map, take_all, slice_get-get_or, All, count_by, filter, range_with_len, sum_by, slice_get}
use Rattle.dob_run.proofs.Common.{Family, classes_of, Value, Draw, owner_of, HasValueNow, Item, Settlement, BatchView, items_of_batches, item_for, items_from}
use Rattle.dob_run.proofs.Common.{items_of, last_now, value_of, IsIdle, Node, IsLawfulRunner, SendsRight, offered, Endpoint, Outlet, edges_to, needed}
use Rattle.dob_run.proofs.Common.{predecessors}
use Rattle.std.proofs.lemmas.List.Concat.{length-flat_map}
use Rattle.std.proofs.lemmas.List.Sums.{sum_by-cons, sum_by-le, sum_by-le-sum_by, length-filter}
use Rattle.dob_distance.specs.Entries.{is_draw}

-- ---- sums over numbers that follow one another
sum_both : (f g : ℕ → ℕ) (a n : ℕ) →
    sum_by (λ k. f k + g k) (range_with_len a n) ≡ sum_by f (range_with_len a n) + sum_by g (range_with_len a n)
sum_both f g a zero = refl
sum_both f g a (suc n) = search (rules, sum_by-cons, (sum_both f g (a + 1) n))

-- what is counted of one number alone
abbrev only : (ℕ → ℕ) → ℕ → ℕ → ℕ
only f c k = cond {A = ℕ} (eqb c k) (f k) 0

none_before : (f : ℕ → ℕ) (c a n : ℕ) → c < a → sum_by (only f c) (range_with_len a n) ≡ 0
none_before f c a zero low = refl
none_before f c a (suc n) low = grind (arith, sum_by-cons, (none_before f c (a + 1) n (omega arith)))

-- is no more than what it has
only_once : (f : ℕ → ℕ) (c a n : ℕ) → sum_by (only f c) (range_with_len a n) ≤ f c
only_once f c a zero = omega arith
only_once f c a (suc n) =
    let one = sum_by-cons (only f c) a (range_with_len (a + 1) n) in
    elim (cases_eq c a) [
      | inl same ↦
          let here : only f c a ≡ f c = ap (λ b. cond {A = ℕ} b (f a) 0) (eq-eqb c a same) ∙ ap f (sym same) in
          let rest = none_before f c (a + 1) n (omega (arith, same)) in
          omega (arith, here, rest, one)
      | inr apart ↦
          let here : only f c a ≡ 0 = ap (λ b. cond {A = ℕ} b (f a) 0) (ne_eqb c a apart) in
          let rest = only_once f c (a + 1) n in
          omega (arith, here, rest, one)
    ]

-- ---- the classes of which a history tells

-- whether it tells of the class
abbrev tells : List Settlement → ℕ → Bool
tells [] class = false
tells (s ∷ history) class = cond (eqb s.class class) true (tells history class)

-- what is counted of the classes of which it tells
abbrev of_told : (ℕ → ℕ) → List Settlement → ℕ → ℕ
of_told f history class = cond {A = ℕ} (tells history class) (f class) 0

of_first : (f : ℕ → ℕ) (s : Settlement) (history : List Settlement) (class : ℕ) →
    of_told f (s ∷ history) class ≤ only f s.class class + of_told f history class
of_first f s history class = grind arith

-- A sum over the classes of which a history tells is no more than that over its settlements.
listed_once : (f : ℕ → ℕ) (history : List Settlement) (a n : ℕ) →
    sum_by (of_told f history) (range_with_len a n) ≤ sum_by (λ (s : Settlement). f s.class) history
listed_once f [] a n = let none = sum_by-le (of_told f []) 0 (range_with_len a n) (λ k d low. omega arith) in omega (arith, none)
listed_once f (s ∷ history) a n =
    let rest = listed_once f history a n in
    let first = only_once f s.class a n in
    let parts = sum_by-le-sum_by (of_told f (s ∷ history)) (λ class. only f s.class class + of_told f history class) (range_with_len a n)
    (of_first f s history) in
    let both = sum_both (only f s.class) (of_told f history) a n in
    let whole = sum_by-cons (λ (r : Settlement). f r.class) s history in
    omega (arith, rest, first, parts, both, whole)

-- a class of which it doesn't tell keeps its value
unlisted_still : (history : List Settlement) (class : ℕ) (before : Value) → tells history class ≡ false →
    last_now (λ s. eqb s.class class) before history ≡ before
unlisted_still [] class before none = refl
unlisted_still (s ∷ history) class before none = grind (arith, (unlisted_still history class before))

-- ---- the items that a history makes
length-items_of : (targets : ℕ → List ℕ) (n to : ℕ) (s : Settlement) →
    length (items_of targets n to s) ≡ count_by (λ from. eqb (owner_of n from) to) (targets s.class)
length-items_of targets n to s =
    length-map (filter (λ from. eqb (owner_of n from) to) (targets s.class)) (item_for s)
    ∙ length-filter (λ from. eqb (owner_of n from) to) (targets s.class)

length-items_from : (targets : ℕ → List ℕ) (n to : ℕ) (history : List Settlement) →
    length (items_from targets n to history)
    ≡ sum_by (λ (s : Settlement). count_by (λ from. eqb (owner_of n from) to) (targets s.class)) history
length-items_from targets n to [] = refl
length-items_from targets n to (s ∷ history) =
    let here = length-items_of targets n to s in
    let rest = length-items_from targets n to history in
    let sum = length-append (items_of targets n to s) (items_from targets n to history) in
    let whole = sum_by-cons (λ (r : Settlement). count_by (λ from. eqb (owner_of n from) to) (targets r.class)) s history in
    omega (arith, here, rest, sum, whole)

-- batches of a size have no more items than so many of the size
few_items : (size : ℕ) (batches : List BatchView) →
    ((k : ℕ) (batch : BatchView) → slice_get batches k ≡ Some batch → length batch.items ≤ size) →
    length (items_of_batches batches) ≤ length batches * size
few_items size batches small =
    let sum = length-flat_map (λ (b : BatchView). b.items) batches in
    let each : All (λ (b : BatchView). length b.items ≤ size) batches =
    λ k d low. small k (get_or batches k d) (slice_get-get_or batches k d low) in
    let all = sum_by-le (λ (b : BatchView). length b.items) size batches each in
    omega (arith, sum, all)

-- ---- what is needed

module _ (family : Family) (n i j : ℕ) (history : List Settlement) (values : List Value) (whole : length values ≡ classes_of family)
    (is : (class : ℕ) (value : Value) → class < classes_of family → owner_of n class ≡ i → slice_get values class ≡ Some value →
    value ≡ value_of history class) where
  -- what a class has to tell, and what it adds
  abbrev has : ℕ → ℕ
  has class = cond {A = ℕ} (is_draw (get_or values class Draw)) 0 (edges_to family n j class)

  abbrev adds : ℕ → ℕ
  adds class = cond {A = ℕ} (eqb (owner_of n class) i) (has class) 0

  own_emitted : (class : ℕ) → owner_of n class ≡ i → has class ≤ of_told (edges_to family n j) history class
  own_emitted class own = elim (cases_Bool (tells history class)) [
    | inl emitted ↦
        let right : of_told (edges_to family n j) history class ≡ edges_to family n j class =
        ap (λ b. cond {A = ℕ} b (edges_to family n j class) 0) emitted in
        let left = no_more (is_draw (get_or values class Draw)) (edges_to family n j class) in
        omega (arith, right, left)
    | inr unlisted ↦
        let drawn : get_or values class Draw ≡ Draw = elim (cases_lt class (classes_of family)) [
          | inl low ↦ is class (get_or values class Draw) low own (slice_get-get_or values class Draw (subst (λ m. class < m) (sym whole) low))
              ∙ unlisted_still history class Draw unlisted
          | inr past ↦ get_or_past values class Draw (omega (arith, past, whole))
        ] in
        let left : has class ≡ 0 = ap (λ v. cond {A = ℕ} (is_draw v) 0 (edges_to family n j class)) drawn in
        omega (arith, left)
  ]
    where
      no_more : (b : Bool) (m : ℕ) → cond {A = ℕ} b 0 m ≤ m
      no_more true m = omega arith
      no_more false m = omega arith

  each_emitted : (class : ℕ) → adds class ≤ of_told (edges_to family n j) history class
  each_emitted class = elim (cases_Bool (eqb (owner_of n class) i)) [
    | inl own ↦
        let here : adds class ≡ has class = ap (λ b. cond {A = ℕ} b (has class) 0) own in
        let less = own_emitted class (eqb-true (owner_of n class) i own) in
        omega (arith, here, less)
    | inr other ↦
        let here : adds class ≡ 0 = ap (λ b. cond {A = ℕ} b (has class) 0) other in
        omega (arith, here)
  ]

  -- the items that the history makes are as many at least
  needed_made : needed family n values i j ≤ length (items_from (predecessors family) n j history)
  needed_made =
      let less = sum_by-le-sum_by adds (of_told (edges_to family n j) history) (range_with_len 0 (classes_of family)) each_emitted in
      let once = listed_once (edges_to family n j) history 0 (classes_of family) in
      let made = length-items_from (predecessors family) n j history in
      omega (arith, less, once, made)

-- A runner's node that has nothing left to expand or to send has offered room for all that its classes have to tell.
pub needed_fits : (family : Family) (n size i j : ℕ) (node : Node) (endpoint : Endpoint) (outlet : Outlet) (values : List Value) →
    IsLawfulRunner family size node endpoint → IsIdle node → node.id ≡ i → node.n ≡ n → i ≢ j → slice_get endpoint.outlets.items j ≡ Some outlet →
    length values ≡ classes_of family →
    ((class : ℕ) (value : Value) → class < classes_of family → owner_of n class ≡ i → slice_get values class ≡ Some value →
    HasValueNow node.share class value) →
    needed family n values i j ≤ length (offered outlet) * size
needed_fits family n size i j node endpoint outlet values law idle id_is n_is apart there whole shown =
    let made = needed_made family n i j node.history.settlements values whole values_are in
    let many = ap length all_items in
    let few = few_items size (offered outlet) sends.small in
    omega (arith, made, many, few)
  where
    sends : SendsRight node size j (offered outlet)
    sends = law.sends j outlet (λ e. apart (sym (e ∙ sym law.of.1 ∙ id_is))) there

    values_are : (class : ℕ) (value : Value) → class < classes_of family → owner_of n class ≡ i → slice_get values class ≡ Some value →
        value ≡ value_of node.history.settlements class
    values_are class value low own at = law.knows.values class value (subst (λ (s : Family). class < classes_of s) (sym law.of.0) low)
        (ap (λ m. owner_of m class) n_is ∙ own ∙ sym id_is) (shown class value low own at)

    all_items : items_from (predecessors family) n j node.history.settlements ≡ items_of_batches (offered outlet)
    all_items =
        (λ q. items_from (predecessors (sym law.of.0 q)) (sym n_is q) j
        (sym (take_all node.expanded node.history.settlements (let emitted = idle.expanded in omega (arith, emitted))) q))
        ∙ sends.items
        ∙ ap (λ (xs : List Item). items_of_batches (offered outlet) ++ xs) (idle.sent j)
        ∙ append-nil (items_of_batches (offered outlet))
