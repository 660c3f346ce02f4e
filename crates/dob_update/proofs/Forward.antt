-- Lists whose elements from some place on come to the front, one after the other.
use Rattle.dob_update.proofs.Common.{◌+◌, ◌<◌, ◌∙◌, ◌≡◌, ◌≤◌, List, ap, arith, drop, get_or, length, length-drop, length-take-le, refl, sym, take, ℕ}
use Rattle.std.proofs.lemmas.List.{get_or-drop, get_or-take, same_lists}

-- so many of those from the k-th on have come, and those further behind are as they were
pub record IsComing {X : Type 0} (k count : ℕ) (old list : List X) : Type 0 where
  pub whole : length list ≡ length old
  pub come : (i : ℕ) (d : X) → i < count → get_or list i d ≡ get_or old (i + k) d
  pub behind : (i : ℕ) (d : X) → count + k ≤ i → get_or list i d ≡ get_or old i d

pub coming_none : {X : Type 0} (k : ℕ) (old : List X) → IsComing k 0 old old
coming_none k old = record { whole = refl; come = λ i d low. absurd (omega arith); behind = λ i d high. refl }

pub coming_all : {X : Type 0} (k count : ℕ) (old list : List X) → count + k ≡ length old → IsComing k count old list → take count list ≡ drop k old
coming_all k count old list all is =
    let whole = is.whole in
    let many = length-take-le count list (omega (arith, whole, all)) in
    let left = length-drop k old in
    same_lists (take count list) (drop k old) (omega (arith, many, left, all)) (λ i d low.
    let before : i < count = omega (arith, many, low) in
    get_or-take count list i d before ∙ is.come i d before ∙ ap (λ (m : ℕ). get_or old m d) (omega arith) ∙ sym (get_or-drop k old i d))
