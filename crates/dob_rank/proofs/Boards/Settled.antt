-- Layers settled one after another: each choice comes back, and so does each list of layers.
use Rattle.dob_rank.proofs.Common.{◌-◌, ◌<◌, ◌∷◌, ◌≡◌, ◌≤◌, ◌⊎◌, List, [], arith, cond, inl, inr, ltb, refl, suc, zero, ℕ, le-ltb, lt-ltb, ne_eqb, choice}
use Rattle.dob_rank.proofs.Common.{choose, count, count_from, order, settle, with_first, Empty, nat_tests}
use Rattle.dob_rank.proofs.Boards.Choices.{count_other, count_at, choice-below, with_first-suc}

-- a layer that is shown only if it is below t
abbrev pub hidden : ℕ → ℕ → ℕ
hidden t l = cond (ltb l t) l (order Empty)

-- the layers below t, and empty squares elsewhere
abbrev pub hide : ℕ → List ℕ → List ℕ
hide t [] = []
hide t (l ∷ ls) = hidden t l ∷ hide t ls

-- each layer is one of those that there are
abbrev pub AreLayers : List ℕ → Type 0
AreLayers [] = Unit {0}
AreLayers (l ∷ ls) = (l ≤ order Empty) × AreLayers ls

pub hidden_lower : (t l : ℕ) → l < t → hidden t l ≡ l
hidden_lower t l h = rw (lt-ltb l t h) refl

pub hidden_later : (t l : ℕ) → t ≤ l → hidden t l ≡ order Empty
hidden_later t l h = rw (le-ltb l t h) refl

-- one step of `settle`
pub settle_kept : (t pieces number l : ℕ) (ls : List ℕ) → (l ≡ order Empty → ⊥) → settle t pieces number (l ∷ ls) ≡ l ∷ settle t pieces number ls
settle_kept t pieces number l ls h = rw (ne_eqb l (order Empty) h) refl

pub settle_left : (t pieces number : ℕ) (ls : List ℕ) → with_first (count (order Empty) ls) pieces ≤ number
    → settle t pieces number (order Empty ∷ ls) ≡ order Empty ∷ settle t pieces (number - with_first (count (order Empty) ls) pieces) ls
settle_left t pieces number ls h = rw (le-ltb number (with_first (count (order Empty) ls) pieces) h) refl

-- the empty squares of a list that hides the layers from t on
pub count-hide : (t : ℕ) (ls : List ℕ) → t ≤ order Empty → AreLayers ls → count (order Empty) (hide t ls) ≡ count_from t ls
count-hide t [] h a = refl
count-hide t (l ∷ ls) h a = grind (arith, nat_tests, count-hide t ls h a.1)

cons : (x y : ℕ) (xs ys : List ℕ) → x ≡ y → xs ≡ ys → x ∷ xs ≡ y ∷ ys
cons x y xs ys e f = cc

-- a layer's choice settles the layer again
pub settle-choice : (t : ℕ) (ls : List ℕ) → t < order Empty → AreLayers ls → settle t (count t ls) (choice t ls) (hide t ls) ≡ hide (suc t) ls
settle-choice t [] h a = refl
settle-choice t (l ∷ ls) h a =
    let empty : count (order Empty) (hide t ls) ≡ count_from t ls = count-hide t ls (omega arith) a.1 in
    let low : choice t ls < choose (count (order Empty) (hide t ls)) (count t ls) = rw empty (choice-below t ls) in
    grind (arith, nat_tests, settle-choice t ls h a.1, empty, low, with_first-suc (count (order Empty) (hide t ls)) (count t ls) (count t (l ∷ ls)))

-- only layers below t, and empty squares
abbrev pub AreShown : ℕ → List ℕ → Type 0
AreShown t [] = Unit {0}
AreShown t (l ∷ ls) = ((l < t) ⊎ (l ≡ order Empty)) × AreShown t ls

-- what settling a layer by a number leaves
pub record IsSettled (t pieces number : ℕ) (ls rs : List ℕ) : Type 0 where
  pub number_is : choice t rs ≡ number
  pub count_is : count t rs ≡ pieces
  pub open_is : count_from t rs ≡ count (order Empty) ls
  pub hide_is : hide t rs ≡ ls
  pub shown : AreShown (suc t) rs

kept_step : (t pieces number l : ℕ) (ls rs : List ℕ) → t < order Empty → l < t → IsSettled t pieces number ls rs → IsSettled t pieces number (l ∷ ls) (l ∷ rs)
kept_step t pieces number l ls rs h lt i = grind (arith, nat_tests, i.shown)

taken_step : (t k number : ℕ) (ls rs : List ℕ) → t < order Empty → IsSettled t k number ls rs → IsSettled t (suc k) number (order Empty ∷ ls) (t ∷ rs)
taken_step t k number ls rs h i = grind (arith, nat_tests, i.shown)

left_step : (t pieces number : ℕ) (ls rs : List ℕ) → t < order Empty → with_first (count (order Empty) ls) pieces ≤ number
    → IsSettled t pieces (number - with_first (count (order Empty) ls) pieces) ls rs → IsSettled t pieces number (order Empty ∷ ls) (order Empty ∷ rs)
left_step t pieces number ls rs h le i = grind (arith, nat_tests, i.shown)

-- an empty square in front is taken or left
settled_empty : (t pieces number : ℕ) (ls : List ℕ) → t < order Empty → number < choose (suc (count (order Empty) ls)) pieces
    → ((p m : ℕ) → m < choose (count (order Empty) ls) p → IsSettled t p m ls (settle t p m ls))
    → IsSettled t pieces number (order Empty ∷ ls) (settle t pieces number (order Empty ∷ ls))
settled_empty t zero number ls h n again =
    rw (settle_left t 0 number ls (omega arith)) (left_step t 0 number ls _ h (omega arith) (again 0 (number - 0) (omega arith)))
settled_empty t (suc p) number ls h n again =
    grind (arith, nat_tests, again p number, again (suc p) (number - choose (count (order Empty) ls) p), taken_step, left_step)

-- a number below the number of choices settles the layer by just that choice
pub settle-settles : (t pieces number : ℕ) (ls : List ℕ) → t < order Empty → AreShown t ls → number < choose (count (order Empty) ls) pieces
    → IsSettled t pieces number ls (settle t pieces number ls)
settle-settles t zero number [] h a n = record { number_is = omega arith; count_is = refl; open_is = refl; hide_is = refl; shown = tt }
settle-settles t (suc pieces) number [] h a n = absurd (omega arith)
settle-settles t pieces number (l ∷ ls) h a n = elim a.0 [
  | inl lt ↦ rw (settle_kept t pieces number l ls (omega arith)) (kept_step t pieces number l ls _ h lt
      (settle-settles t pieces number ls h a.1 (rw (count_other (order Empty) l ls (omega arith)) at n)))
  | inr e ↦ rw e (settled_empty t pieces number ls h (rw (count_at (order Empty) l ls e) at n) (λ p m. settle-settles t p m ls h a.1))
]

-- ---- what earlier and later layers say of one another
pub hide-hide : (s t : ℕ) (ls : List ℕ) → s ≤ t → t ≤ order Empty → hide s (hide t ls) ≡ hide s ls
hide-hide s t [] h k = refl
hide-hide s t (l ∷ ls) h k = grind (arith, nat_tests, hide-hide s t ls h k)

pub count_hide_next : (t : ℕ) (ls : List ℕ) → t < order Empty → count t (hide (suc t) ls) ≡ count t ls
count_hide_next t [] h = refl
count_hide_next t (l ∷ ls) h = grind (arith, nat_tests, count_hide_next t ls h)

pub count_from_hide_next : (t : ℕ) (ls : List ℕ) → t < order Empty → count_from t (hide (suc t) ls) ≡ count_from t ls
count_from_hide_next t [] h = refl
count_from_hide_next t (l ∷ ls) h = grind (arith, nat_tests, count_from_hide_next t ls h)

pub choice_hide_next : (t : ℕ) (ls : List ℕ) → t < order Empty → choice t (hide (suc t) ls) ≡ choice t ls
choice_hide_next t [] h = refl
choice_hide_next t (l ∷ ls) h = grind (arith, nat_tests, choice_hide_next t ls h, count_hide_next t ls h, count_from_hide_next t ls h)
