-- Lists of parts: what is taken from their front, and what is left behind it.
use Rattle.dob_update.proofs.Common.{◌++◌, ◌+◌, ◌-◌, ◌<◌, ◌∙◌, ◌∷◌, ◌≡◌, ◌≤◌, [], AreWhole, List, PartView, Settlement, ap, append-nil, arith, drop, drop_all}
use Rattle.dob_update.proofs.Common.{front, get_or, items_in_all, left_after, length, nat_tests, refl, skip_after, sym, take, with_number, ℕ}

-- ---- what stands in front
pub front-zero : (parts : List PartView) → front 0 parts ≡ []
front-zero [] = refl
front-zero (part ∷ parts) = refl

front-within : (k : ℕ) (part : PartView) (parts : List PartView) → 0 < k → k < part.items → front k (part ∷ parts) ≡ with_number part k ∷ []
front-within k part parts some within = grind (arith, nat_tests, front-zero parts)

-- the parts in front have gone over to the list so far
pub record IsMoving (k rest : ℕ) (old parts first list : List PartView) : Type 0 where
  pub so_far : list ++ front rest parts ≡ first ++ front k old

-- the last one goes over in part
pub moved_last : (k rest : ℕ) (old parts first list more : List PartView) (part : PartView) → 0 < rest → rest < part.items → rest ≤ items_in_all parts → part ≡ get_or parts 0 part
    → IsMoving k rest old parts first list → more ≡ list ++ with_number part rest ∷ [] → more ≡ first ++ front k old
moved_last k rest old [] first list more part some within there read l e = absurd (omega (arith, some, there))
moved_last k rest old (next ∷ left) first list more part some within there read l e =
    e ∙ ap (λ (ps : List PartView). list ++ ps) (sym (front-within rest part left some within)) ∙ ap (λ (p : PartView). list ++ front rest (p ∷ left)) read ∙ l.so_far

pub moved_all : (k rest : ℕ) (old parts first list : List PartView) → rest ≡ 0 → IsMoving k rest old parts first list → list ≡ first ++ front k old
moved_all k rest old parts first list none l = grind (arith, append-nil list, front-zero parts, l.so_far)

-- the parts in front are kept in place so far
pub record IsKeeping (k rest index : ℕ) (old parts : List PartView) : Type 0 where
  pub so_far : take index parts ++ front rest (drop index parts) ≡ front k old
  pub within : index ≤ length parts

pub keeping_done : (k rest index : ℕ) (old parts : List PartView) → rest ≡ 0 → IsKeeping k rest index old parts → take index parts ≡ front k old
keeping_done k rest index old parts e l = grind (arith, append-nil (take index parts), front-zero (drop index parts))

pub keeping_all : (k rest index : ℕ) (old parts : List PartView) → length parts ≤ index → IsKeeping k rest index old parts → take index parts ≡ front k old
keeping_all k rest index old parts past l = grind (arith, append-nil (take index parts), drop_all index parts past)

-- ---- what is left behind
pub left_after-within : (k : ℕ) (part : PartView) (parts : List PartView) → k < part.items → left_after k (part ∷ parts) ≡ with_number part (part.items - k) ∷ parts
left_after-within k part parts lt = grind (arith, nat_tests)

pub left_after-past : (k : ℕ) (part : PartView) (parts : List PartView) → part.items ≤ k → left_after k (part ∷ parts) ≡ left_after (k - part.items) parts
left_after-past k part parts le = grind (arith, nat_tests)

pub skip-within : (skip k : ℕ) (part : PartView) (parts : List PartView) → k < part.items → skip_after skip k (part ∷ parts) ≡ skip + k
skip-within skip k part parts lt = grind (arith, nat_tests)

pub skip-past : (skip k : ℕ) (part : PartView) (parts : List PartView) → part.items ≤ k → skip_after skip k (part ∷ parts) ≡ skip_after 0 (k - part.items) parts
skip-past skip k part parts le = grind (arith, nat_tests)

-- what is left to be dropped from the parts is what was left before
pub record IsDropping (k skip rest before : ℕ) (old parts : List PartView) : Type 0 where
  pub count : Settlement → ℕ
  pub whole : AreWhole count before parts
  pub within : rest ≤ items_in_all parts
  pub after_is : left_after rest parts ≡ left_after k old
  pub skip_is : skip_after before rest parts ≡ skip_after skip k old
