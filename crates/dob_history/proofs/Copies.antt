-- What the copies of an edge know. First lists made piece by piece, then how many items of each settlement a list has for a class.
use Rattle.dob_history.proofs.Common.{◌&&◌, ◌++◌, ◌+◌, ◌<◌, ◌∙◌, ◌∷◌, ◌≡◌, ◌≢◌, ◌≤◌, Bool, Changes, Contains, Contains-append_cases, Contains-append_left}
use Rattle.dob_history.proofs.Common.{Contains-append_right, Draw, Item, List, Settlement, Value, [], all_known, ap, append-nil, append_assoc, arith, cases_eq}
use Rattle.dob_history.proofs.Common.{cond, copies, count_by, each_below, eq-eqb, eqb, false, filter, inl, inr, item_for, items_from, items_of, items_to, known}
use Rattle.dob_history.proofs.Common.{last_now, ltb, map, nat_tests, owner_of, refl, subst, suc, sym, true, value_of, zero, ℕ}
use Rattle.std.proofs.lemmas.List.Sums.{sum_by-cons, sum_by-append}

-- ---- lists made piece by piece

-- what a piece contains, the whole does
pub in_each_below : {X : Type 0} (g : ℕ → List X) (n k : ℕ) (x : X) → k < n → Contains (g k) x → Contains (each_below g n) x
in_each_below g zero k x below there = absurd (omega arith)
in_each_below g (suc n) k x below there = elim (cases_eq k n) [
  | inl same ↦ Contains-append_right (each_below g n) (g n) x (subst (λ j. Contains (g j) x) same there)
  | inr other ↦ Contains-append_left (each_below g n) (g n) x (in_each_below g n k x (omega arith) there)
]

-- and what the whole contains, some piece does
pub from_each_below : {X : Type 0} (g : ℕ → List X) (n : ℕ) (x : X) → Contains (each_below g n) x → (k : ℕ) × (k < n) × Contains (g k) x
from_each_below g zero x there = let none : there.0 < 0 = there.1 in absurd (omega arith)
from_each_below g (suc n) x there = elim (Contains-append_cases (each_below g n) (g n) x there) [
  | inl earlier ↦ (let found = from_each_below g n x earlier in (found.0, (let low = found.1 in omega arith), found.2))
  | inr last ↦ (n, omega arith, last)
]

-- the one element of a list of one
pub only_one : {X : Type 0} (x y : X) → Contains (x ∷ []) y → x ≡ y
only_one x y (zero, below, is) = is
only_one x y (suc k, below, is) = let none : suc k < 1 = below in absurd (omega arith)

pub the_one : {X : Type 0} (x y : X) → x ≡ y → Contains (x ∷ []) y
the_one x y same = (0, omega arith, same)

-- ---- lists that differ in one place
pub Changes-behind : (xs known after : List Value) (was now : Value) → Changes known after was now → Changes (xs ++ known) (xs ++ after) was now
Changes-behind xs known after was now change = record {
  before = xs ++ change.before;
  behind = change.behind;
  known_is = ap (λ ys. xs ++ ys) change.known_is ∙ sym (append_assoc xs change.before (was ∷ change.behind));
  after_is = ap (λ ys. xs ++ ys) change.after_is ∙ sym (append_assoc xs change.before (now ∷ change.behind));
}

pub Changes-before : (xs known after : List Value) (was now : Value) → Changes known after was now → Changes (known ++ xs) (after ++ xs) was now
Changes-before xs known after was now change = record {
  before = change.before;
  behind = change.behind ++ xs;
  known_is = ap (λ ys. ys ++ xs) change.known_is ∙ append_assoc change.before (was ∷ change.behind) xs;
  after_is = ap (λ ys. ys ++ xs) change.after_is ∙ append_assoc change.before (now ∷ change.behind) xs;
}

pub Changes-one : (known after was now : Value) → known ≡ was → after ≡ now → Changes (known ∷ []) (after ∷ []) was now
Changes-one known after was now known_is after_is = record {
  before = [];
  behind = [];
  known_is = ap (λ v. v ∷ []) known_is;
  after_is = ap (λ v. v ∷ []) after_is;
}

pub each_below-same : (f g : ℕ → List Value) (n : ℕ) → ((k : ℕ) → k < n → f k ≡ g k) → each_below f n ≡ each_below g n
each_below-same f g zero same = refl
each_below-same f g (suc n) same = rw (each_below-same f g n (λ k below. same k (omega arith)), same n (omega arith)) refl

-- a change in one piece is a change in the whole
pub Changes-each_below : (f g : ℕ → List Value) (n k : ℕ) (was now : Value) → k < n → Changes (f k) (g k) was now →
    ((m : ℕ) → m < n → m ≢ k → f m ≡ g m) → Changes (each_below f n) (each_below g n) was now
Changes-each_below f g zero k was now below change same = absurd (omega arith)
Changes-each_below f g (suc n) k was now below change same = elim (cases_eq k n) [
  | inl is ↦
      let earlier : each_below f n ≡ each_below g n = each_below-same f g n (λ m low. same m (omega arith) (λ e. absurd (omega (arith, e)))) in
      subst (λ xs. Changes (each_below f n ++ f n) (xs ++ g n) was now) earlier
      (Changes-behind (each_below f n) (f n) (g n) was now (subst (λ m. Changes (f m) (g m) was now) is change))
  | inr other ↦
      let last : f n ≡ g n = same n (omega arith) (λ e. other (sym e)) in
      subst (λ xs. Changes (each_below f n ++ f n) (each_below g n ++ xs) was now) last
      (Changes-before (f n) (each_below f n) (each_below g n) was now
      (Changes-each_below f g n k was now (omega arith) change (λ m at. same m (omega arith))))
]

-- ---- items
pub items_to-append : (xs ys : List Item) (number to : ℕ) → items_to (xs ++ ys) number to ≡ items_to xs number to + items_to ys number to
items_to-append xs ys number to = sum_by-append (λ (item : Item). cond (eqb item.number number && eqb item.to to) 1 0) xs ys

pub items_to-cons : (x : Item) (xs : List Item) (number to : ℕ) →
    items_to (x ∷ xs) number to ≡ cond (eqb x.number number && eqb x.to to) 1 0 + items_to xs number to
items_to-cons x xs number to = sum_by-cons (λ (item : Item). cond (eqb item.number number && eqb item.to to) 1 0) x xs

-- the items for those targets of a settlement that a test lets through
abbrev pub block : (ℕ → Bool) → Settlement → List ℕ → List Item
block test s ts = map (item_for s) (filter test ts)

-- as many of them are for a class that passes the test as it stands among the targets
pub items_to-block : (test : ℕ → Bool) (s : Settlement) (p : ℕ) (ts : List ℕ) → test p ≡ true →
    items_to (block test s ts) s.number p ≡ count_by (λ (to : ℕ). eqb to p) ts
items_to-block test s p [] own = refl
items_to-block test s p (t ∷ ts) own =
    grind (
      arith,
      nat_tests,
      items_to-block test s p ts own,
      items_to-cons (item_for s t) (block test s ts) s.number p,
      sum_by-cons (λ (to : ℕ). cond (eqb to p) 1 0) t ts,
    )

-- a settlement makes an item for each edge
pub items_to-items_of : (targets : ℕ → List ℕ) (n node : ℕ) (s : Settlement) (p : ℕ) → owner_of n p ≡ node →
    items_to (items_of targets n node s) s.number p ≡ copies targets p s.class
items_to-items_of targets n node s p own =
    items_to-block (λ to. eqb (owner_of n to) node) s p (targets s.class) (eq-eqb (owner_of n p) node own)

-- and none of another number
pub no_other : (s : Settlement) (number p : ℕ) (ts : List ℕ) → s.number ≢ number → items_to (map (item_for s) ts) number p ≡ 0
no_other s number p [] other = refl
no_other s number p (t ∷ ts) other =
    grind (arith, nat_tests, items_to-cons (item_for s t) (map (item_for s) ts) number p, no_other s number p ts other)

-- ---- what one copy knows

-- two tests agree on each settlement of a list
abbrev pub Agree : (Settlement → Bool) → (Settlement → Bool) → List Settlement → Type 0
Agree test other [] = Unit {0}
Agree test other (s ∷ ss) = (test s ≡ other s) × Agree test other ss

pub last_now-agree : (test other : Settlement → Bool) (v : Value) (ss : List Settlement) → Agree test other ss → last_now test v ss ≡ last_now other v ss
last_now-agree test other v [] same = refl
last_now-agree test other v (s ∷ ss) same =
    ap (λ b. last_now test (cond b s.now v) ss) same.0 ∙ last_now-agree test other (cond (other s) s.now v) ss same.1

-- no settlement of a list passes the test
abbrev pub NonePass : (Settlement → Bool) → List Settlement → Type 0
NonePass test [] = Unit {0}
NonePass test (s ∷ ss) = (test s ≡ false) × NonePass test ss

pub last_now-none : (test : Settlement → Bool) (v : Value) (ss : List Settlement) → NonePass test ss → last_now test v ss ≡ v
last_now-none test v [] none = refl
last_now-none test v (s ∷ ss) none =
    ap (λ b. last_now test (cond b s.now v) ss) none.0 ∙ last_now-none test v ss none.1

pub last_now-append : (test : Settlement → Bool) (v : Value) (xs ys : List Settlement) → last_now test v (xs ++ ys) ≡ last_now test (last_now test v xs) ys
last_now-append test v [] ys = refl
last_now-append test v (x ∷ xs) ys = last_now-append test (cond (test x) x.now v) xs ys

-- where all items of the settlements are applied, after some and before more, each copy passes as if it asked for the class alone
pub agree_after : (targets : ℕ → List ℕ) (n node p q copy : ℕ) (before more : List Item) (ss : List Settlement) → owner_of n p ≡ node →
    copy < copies targets p q →
    Agree (λ s. eqb s.class q && ltb copy (items_to (before ++ (items_from targets n node ss ++ more)) s.number p)) (λ s. eqb s.class q) ss
agree_after targets n node p q copy before more [] own below = tt
agree_after targets n node p q copy before more (s ∷ ss) own below =
    let items = items_of targets n node s in
    let rest = items_from targets n node ss ++ more in
    let is : (before ++ items) ++ rest ≡ before ++ ((items ++ items_from targets n node ss) ++ more) = simp append_assoc in
    let full : copies targets p s.class ≤ items_to ((before ++ items) ++ rest) s.number p =
    omega (arith, items_to-append (before ++ items) rest s.number p, items_to-append before items s.number p, items_to-items_of targets n node s p own) in
    subst (λ xs. Agree (λ r. eqb r.class q && ltb copy (items_to xs r.number p)) (λ r. eqb r.class q) (s ∷ ss)) is
    (grind (arith, nat_tests), agree_after targets n node p q copy (before ++ items) more ss own below)

-- so they know the value, of a history that is wholly expanded and applied
pub all_applied : (targets : ℕ → List ℕ) (n node : ℕ) (history : List Settlement) (p q copy : ℕ) → owner_of n p ≡ node → copy < copies targets p q →
    known history (items_from targets n node history) p q copy ≡ value_of history q
all_applied targets n node history p q copy own below =
    ap (λ items. known history items p q copy) (sym (append-nil (items_from targets n node history)))
    ∙ last_now-agree _ (λ s. eqb s.class q) Draw history (agree_after targets n node p q copy [] [] history own below)

-- ---- what all copies know

-- what all know some copy knows
pub known_by : (targets : ℕ → List ℕ) (classes n : ℕ) (histories : ℕ → List Settlement) (applied : ℕ → List Item) (p : ℕ) (v : Value) →
    Contains (all_known targets classes n histories applied p) v → (q : ℕ) × (q < classes) × (copy : ℕ) × (copy < copies targets p q)
    × (known (histories (owner_of n q)) (applied (owner_of n q)) p q copy ≡ v)
unfolding all_known
known_by targets classes n histories applied p v there =
    let knows : ℕ → ℕ → Value = λ q copy. known (histories (owner_of n q)) (applied (owner_of n q)) p q copy in
    let at = from_each_below (λ (q : ℕ). each_below (λ (copy : ℕ). knows q copy ∷ []) (copies targets p q)) classes v there in
    let row = from_each_below (λ (copy : ℕ). knows at.0 copy ∷ []) (copies targets p at.0) v at.2 in
    (at.0, at.1, row.0, row.1, only_one (knows at.0 row.0) v row.2)

-- where each copy knows what it knew, all do
pub all_known-each : (targets : ℕ → List ℕ) (classes n : ℕ) (histories after : ℕ → List Settlement) (applied items : ℕ → List Item) (p : ℕ) →
    ((q copy : ℕ) → known (after (owner_of n q)) (items (owner_of n q)) p q copy ≡ known (histories (owner_of n q)) (applied (owner_of n q)) p q copy) →
    all_known targets classes n after items p ≡ all_known targets classes n histories applied p
unfolding all_known
all_known-each targets classes n histories after applied items p same =
    let row : (ℕ → List Settlement) → (ℕ → List Item) → ℕ → ℕ → List Value =
    λ hs taken q copy. known (hs (owner_of n q)) (taken (owner_of n q)) p q copy ∷ [] in
    each_below-same (λ q. each_below (row after items q) (copies targets p q)) (λ q. each_below (row histories applied q) (copies targets p q)) classes
    (λ q below. each_below-same (row after items q) (row histories applied q) (copies targets p q) (λ copy low. ap (λ v. v ∷ []) (same q copy)))
