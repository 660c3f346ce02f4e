-- Where an item stands among the items of a history: the settlement that made it, and what was made before.
use Rattle.dob_history.proofs.Common.{◌++◌, ◌+◌, ◌∙◌, ◌∷◌, ◌≡◌, ◌≤◌, ◌⊎◌, All, All-contains, Contains, Contains-append_right, IsChained, Item, List, Settlement}
use Rattle.dob_history.proofs.Common.{[], ap, append_assoc, arith, eqb, eqb-true, filter, head_in, inl, inr, item_for, items_from, items_of, items_to, length}
use Rattle.dob_history.proofs.Common.{length-append, owner_of, refl, subst, suc, sym, ℕ}
use Rattle.std.proofs.lemmas.List.Elements.{All-map, filter_passes}
use Rattle.dob_history.proofs.Copies.{items_to-append, no_other}

-- ---- two ways to divide a list

-- an element of two lists joined is in the one or in the other
pub append_split : {X : Type 0} (xs ys ls : List X) (x : X) (rest : List X) → xs ++ ys ≡ ls ++ x ∷ rest →
    ((left : List X) × (xs ≡ ls ++ x ∷ left) × (rest ≡ left ++ ys)) ⊎ ((more : List X) × (ls ≡ xs ++ more) × (ys ≡ more ++ x ∷ rest))
append_split [] ys ls x rest same = inr (ls, refl, same)
append_split (y ∷ xs) ys [] x rest same = inl (xs, (cc), (cc))
append_split {X = X} (y ∷ xs) ys (a ∷ ls) x rest same = elim (append_split xs ys ls x rest (cc)) [
  | inl there ↦ inl (there.0, cc (there.1, same), there.2)
  | inr later ↦ inr (later.0, cc (later.1, same), later.2)
]

pub nothing_in : {X : Type 0} (ls : List X) (x : X) (rest : List X) → [] ≡ ls ++ x ∷ rest → ⊥
nothing_in [] x rest same = cc
nothing_in (a ∷ ls) x rest same = cc

-- ---- the settlement of an item

-- The settlement s of a history made the item, after the items of what comes before it and part of its own.
pub record IsMade (targets : ℕ → List ℕ) (n node : ℕ) (history : List Settlement) (applied : List Item) (item : Item) : Type 0 where
  pub before : List Settlement
  pub s : Settlement
  pub behind : List Settlement
  pub part : List Item
  pub rest : List Item
  pub history_is : history ≡ before ++ s ∷ behind
  pub block_is : items_of targets n node s ≡ part ++ item ∷ rest
  pub applied_is : applied ≡ items_from targets n node before ++ part

later : (targets : ℕ → List ℕ) (n node : ℕ) (s : Settlement) (ss : List Settlement) (more applied : List Item) (item : Item) →
    applied ≡ items_of targets n node s ++ more → IsMade targets n node ss more item → IsMade targets n node (s ∷ ss) applied item
later targets n node s ss more applied item is made = record {
  before = s ∷ made.before;
  s = made.s;
  behind = made.behind;
  part = made.part;
  rest = made.rest;
  history_is = ap (λ h. s ∷ h) made.history_is;
  block_is = made.block_is;
  applied_is = is ∙ ap (λ m. items_of targets n node s ++ m) made.applied_is
      ∙ sym (append_assoc (items_of targets n node s) (items_from targets n node made.before) made.part);
}

pub split : (targets : ℕ → List ℕ) (n node : ℕ) (history : List Settlement) (applied : List Item) (item : Item) (rest : List Item) →
    items_from targets n node history ≡ applied ++ item ∷ rest → IsMade targets n node history applied item
split targets n node [] applied item rest same = absurd (nothing_in applied item rest same)
split targets n node (s ∷ ss) applied item rest same =
    elim (append_split (items_of targets n node s) (items_from targets n node ss) applied item rest same) [
      | inl here ↦ record {
        before = [];
        s = s;
        behind = ss;
        part = applied;
        rest = here.0;
        history_is = refl;
        block_is = here.1;
        applied_is = refl;
      }
      | inr there ↦ later targets n node s ss there.0 applied item there.1 (split targets n node ss there.0 item rest there.2)
    ]

-- what an item of a settlement says, and to whom
pub record IsFrom (n node : ℕ) (s : Settlement) (item : Item) : Type 0 where
  pub is : item ≡ item_for s item.to
  pub own : owner_of n item.to ≡ node

pub made_from : (targets : ℕ → List ℕ) (n node : ℕ) (s : Settlement) (part : List Item) (item : Item) (rest : List Item) →
    items_of targets n node s ≡ part ++ item ∷ rest → IsFrom n node s item
made_from targets n node s part item rest same = All-contains (IsFrom n node s) (items_of targets n node s) item
    (All-map (IsFrom n node s) (item_for s) (filter (λ to. eqb (owner_of n to) node) (targets s.class)) all)
    (subst (λ xs. Contains xs item) (sym same) (Contains-append_right part (item ∷ rest) item (head_in item rest)))
  where
    all : All (λ (to : ℕ). IsFrom n node s (item_for s to)) (filter (λ to. eqb (owner_of n to) node) (targets s.class))
    all k d below = record { is = refl; own = eqb-true _ node (filter_passes (λ to. eqb (owner_of n to) node) (targets s.class) k d below) }

-- ---- numbers

-- numbered in order
abbrev pub AreNumbered : ℕ → List Settlement → Type 0
AreNumbered number [] = Unit {0}
AreNumbered number (s ∷ ss) = (s.number ≡ number) × AreNumbered (suc number) ss

pub AreNumbered-left : (number : ℕ) (xs ys : List Settlement) → AreNumbered number (xs ++ ys) → AreNumbered number xs
AreNumbered-left number [] ys numbered = tt
AreNumbered-left number (x ∷ xs) ys numbered = (numbered.0, AreNumbered-left (suc number) xs ys numbered.1)

pub AreNumbered-right : (number : ℕ) (xs ys : List Settlement) → AreNumbered number (xs ++ ys) → AreNumbered (number + length xs) ys
AreNumbered-right number [] ys numbered = subst (λ k. AreNumbered k ys) (let e : number ≡ number + 0 = omega arith in e) numbered
AreNumbered-right number (x ∷ xs) ys numbered =
    subst (λ k. AreNumbered k ys) (let e : suc number + length xs ≡ number + length (x ∷ xs) = omega arith in e)
    (AreNumbered-right (suc number) xs ys numbered.1)

numbered_after : (classes n node : ℕ) (history before behind : List Settlement) → IsChained classes n node history → history ≡ before ++ behind →
    AreNumbered (length before) behind
numbered_after classes n node history before [] chained is = tt
numbered_after classes n node history before (s ∷ ss) chained is = (
  (chained before s ss is).number,
  subst (λ k. AreNumbered k ss) (let e : length (before ++ s ∷ []) ≡ suc (length before) = omega (arith, length-append before (s ∷ [])) in e)
      (numbered_after classes n node history (before ++ s ∷ []) ss chained (is ∙ sym (append_assoc before (s ∷ []) ss))),
)

-- a chained history is numbered
pub chained_numbered : (classes n node : ℕ) (history : List Settlement) → IsChained classes n node history → AreNumbered 0 history
chained_numbered classes n node history chained = numbered_after classes n node history [] history chained refl

-- what settlements below a number make isn't of it
pub none_of_later : (targets : ℕ → List ℕ) (n node from number p : ℕ) (ss : List Settlement) → AreNumbered from ss → from + length ss ≤ number →
    items_to (items_from targets n node ss) number p ≡ 0
none_of_later targets n node from number p [] numbered below = refl
none_of_later targets n node from number p (s ∷ ss) numbered below =
    let own : s.number ≡ from = numbered.0 in
    omega (
      arith,
      items_to-append (items_of targets n node s) (items_from targets n node ss) number p,
      no_other s number p (filter (λ to. eqb (owner_of n to) node) (targets s.class)) (omega arith),
      none_of_later targets n node (suc from) number p ss numbered.1 (omega arith),
    )
