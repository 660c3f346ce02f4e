-- One more settlement of a history: what it leaves, and what it makes.
use Rattle.dob_history.proofs.Common.{◌&&◌, ◌++◌, ◌+◌, ◌∙◌, ◌∷◌, ◌≡◌, ◌≤◌, Draw, IsChained, IsNext, Item, List, Settlement, Some, [], add-one, ap, append-nil}
use Rattle.dob_history.proofs.Common.{append_assoc, arith, cond, drop, eqb, get_or_from_slice_get, inl, inr, items_from, items_of, items_to, known, length, ltb}
use Rattle.dob_history.proofs.Common.{nat_tests, refl, slice_get, slice_get_within, sym, take, take-append-drop, take-append-le, take-suc, value_of, ℕ}
use Rattle.dob_history.proofs.Copies.{items_to-append, last_now-append}
use Rattle.dob_history.proofs.Splits.{append_split, nothing_in, chained_numbered, none_of_later}

-- ---- a history with one more settlement is chained

-- a list of one is divided before its element
one_split : {X : Type 0} (x : X) (more : List X) (y : X) (behind : List X) → x ∷ [] ≡ more ++ y ∷ behind → (more ≡ []) × (x ≡ y)
one_split x [] y behind same = (refl, cc)
one_split x (a ∷ more) y behind same = let tail : [] ≡ more ++ y ∷ behind = cc in absurd (nothing_in more y behind tail)

pub chained_more : (classes n node : ℕ) (history : List Settlement) (s : Settlement) → IsChained classes n node history →
    IsNext classes n node history s → IsChained classes n node (history ++ s ∷ [])
chained_more classes n node history s chained next before r behind is = elim (append_split history (s ∷ []) before r behind is) [
  | inl there ↦ chained before r there.0 there.1
  | inr later ↦ let at = one_split s later.0 r behind later.2 in rw (later.1, at.0, append-nil, ← at.1) next
]

pub chained_none : (classes n node : ℕ) → IsChained classes n node []
chained_none classes n node [] s behind is = cc
chained_none classes n node (b ∷ before) s behind is = cc

-- ---- values
pub value_of-more : (history : List Settlement) (s : Settlement) (q : ℕ) →
    value_of (history ++ s ∷ []) q ≡ cond (eqb s.class q) s.now (value_of history q)
value_of-more history s q = last_now-append (λ r. eqb r.class q) Draw history (s ∷ [])

-- ---- items
pub items_from-append : (targets : ℕ → List ℕ) (n node : ℕ) (xs ys : List Settlement) →
    items_from targets n node (xs ++ ys) ≡ items_from targets n node xs ++ items_from targets n node ys
items_from-append targets n node [] ys = refl
items_from-append targets n node (x ∷ xs) ys =
    ap (λ items. items_of targets n node x ++ items) (items_from-append targets n node xs ys)
    ∙ sym (append_assoc (items_of targets n node x) (items_from targets n node xs) (items_from targets n node ys))

-- what was a beginning of a history's items is one of those of a history that goes on
pub still_begun : (targets : ℕ → List ℕ) (n node : ℕ) (xs ys : List Settlement) (applied rest : List Item) →
    items_from targets n node xs ≡ applied ++ rest →
    items_from targets n node (xs ++ ys) ≡ applied ++ (rest ++ items_from targets n node ys)
still_begun targets n node xs ys applied rest is =
    items_from-append targets n node xs ys ∙ ap (λ items. items ++ items_from targets n node ys) is
    ∙ append_assoc applied rest (items_from targets n node ys)

-- ---- items of the settlements before a place of a history

-- of one settlement more
pub emitted_more : (targets : ℕ → List ℕ) (n node : ℕ) (h : List Settlement) (e : ℕ) (s : Settlement) → slice_get h e ≡ Some s →
    items_from targets n node (take (e + 1) h) ≡ items_from targets n node (take e h) ++ items_of targets n node s
emitted_more targets n node h e s there = rw (add-one, take-suc h e s (slice_get_within h e s there), get_or_from_slice_get h e s s there)
    (items_from-append targets n node (take e h) (s ∷ []) ∙ ap (λ xs. items_from targets n node (take e h) ++ xs) (append-nil (items_of targets n node s)))

-- where the history goes on
pub emitted_grown : (targets : ℕ → List ℕ) (n node : ℕ) (h more g : List Settlement) (e : ℕ) → e ≤ length h → g ≡ h ++ more →
    items_from targets n node (take e g) ≡ items_from targets n node (take e h)
emitted_grown targets n node h more g e within is =
    ap (λ xs. items_from targets n node (take e xs)) is ∙ ap (λ xs. items_from targets n node xs) (take-append-le e h more within)

-- those and the others are all
pub emitted_all : (targets : ℕ → List ℕ) (n node : ℕ) (h : List Settlement) (e : ℕ) →
    items_from targets n node h ≡ items_from targets n node (take e h) ++ items_from targets n node (drop e h)
emitted_all targets n node h e =
    ap (λ xs. items_from targets n node xs) (sym (take-append-drop e h)) ∙ items_from-append targets n node (take e h) (drop e h)

-- ---- what the copies of an edge know

-- No item applied is of a settlement that comes next in the history of node i: no copy of node j learns anything by it.
pub known_more : (targets : ℕ → List ℕ) (classes n i j : ℕ) (history : List Settlement) (s : Settlement) (applied rest : List Item) (p q copy : ℕ) →
    IsChained classes n i history → IsNext classes n i history s → items_from targets n j history ≡ applied ++ rest →
    known (history ++ s ∷ []) applied p q copy ≡ known history applied p q copy
known_more targets classes n i j history s applied rest p q copy chained next begun =
    let none : items_to applied s.number p ≡ 0 = omega (
      arith,
      next.number,
      none_of_later targets n j 0 s.number p history (chained_numbered classes n i history chained) (omega (arith, next.number)),
      ap (λ items. items_to items s.number p) begun,
      items_to-append applied rest s.number p,
    ) in
    last_now-append (λ r. eqb r.class q && ltb copy (items_to applied r.number p)) Draw history (s ∷ []) ∙ grind (arith, nat_tests)
