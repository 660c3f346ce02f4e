-- What stands where in a list, also after one thing more, after one was exchanged, and in a function of all its things.
use Rattle.dob_endpoint.proofs.Common.{◌++◌, ◌+◌, ◌<◌, ◌∙◌, ◌∷◌, ◌≡◌, List, Some, [], ap, append_assoc, arith, inl, inr, length, length-append, map, refl}
use Rattle.dob_endpoint.proofs.Common.{subst, suc, sym, zero, ℕ, append-nil, same_Some, slice_get, at_end, middle}

pub none_at : {A L : Type 0} → (l : List A) (k : ℕ) (a : A) → l ≡ [] → slice_get l k ≡ Some a → L
none_at {A} l k a none e = absurd (let nothing : slice_get [] k ≡ Some a = ap (λ (xs : List A). slice_get xs k) (sym none) ∙ e in cc)

-- what is so of each thing and its place is so with one thing more
pub each_more : {A : Type 0} → (Q : ℕ → A → Type 0) (l more : List A) (a : A) (k : ℕ) → length l ≡ k → more ≡ l ++ a ∷ [] →
    ((j : ℕ) (b : A) → slice_get l j ≡ Some b → Q j b) → Q k a → (j : ℕ) (b : A) → slice_get more j ≡ Some b → Q j b
each_more {A} Q l more a k long is each here j b e = elim (at_end l a b j (ap (λ (xs : List A). slice_get xs j) (sym is) ∙ e)) [
  | inl before ↦ each j b before
  | inr last ↦ subst (λ (p : ℕ × A). Q p.0 p.1) (λ i. ((sym long ∙ sym last.0) i, last.1 i)) here
]

-- what a function of a thing at a place is
pub get_map : {A B : Type 0} → (f : A → B) (xs : List A) (k : ℕ) (x : A) → slice_get xs k ≡ Some x → slice_get (map f xs) k ≡ Some (f x)
get_map f [] k x e = absurd (cc)
get_map f (y ∷ xs) zero x e = cc
get_map f (y ∷ xs) (suc k) x e = get_map f xs k x e

-- what stands at a place of a function of all things is that of the thing there
pub map_got : {A B : Type 0} → (f : A → B) (xs : List A) (k : ℕ) (y : B) → slice_get (map f xs) k ≡ Some y → (x : A) × (slice_get xs k ≡ Some x) × (f x ≡ y)
map_got f [] k y e = absurd (cc)
map_got f (x ∷ xs) zero y e = (x, refl, same_Some (f x) y e)
map_got f (x ∷ xs) (suc k) y e = map_got f xs k y e

pub one_longer : {A : Type 0} {more : List A} (l : List A) (a : A) → more ≡ l ++ a ∷ [] → length more ≡ length l + 1
one_longer {A} {more} l a is = omega (arith, ap length is, length-append l (a ∷ []))

-- Of all things the first so many went, and these are left.
pub record HaveGone {A : Type 0} (all left : List A) (done : ℕ) : Type 0 where
  pub gone : List A
  pub split : all ≡ gone ++ left
  pub many : length gone ≡ done

abbrev pub none_gone : {A : Type 0} {all left : List A} {done : ℕ} → left ≡ all → done ≡ 0 → HaveGone all left done
none_gone {A} {all} {left} {done} same none = record { gone = []; split = sym same; many = sym none }

module _ {A : Type 0} {all left : List A} {done : ℕ} (on : HaveGone all left done) where
  -- the one that goes next
  pub next_at : {after : List A} {x : A} → left ≡ x ∷ after → slice_get all done ≡ Some x
  next_at {after} {x} is = ap (slice_get all) (sym on.many) ∙ ap (λ (l : List A). slice_get l (length on.gone))
      (on.split ∙ ap (λ (l : List A). on.gone ++ l) is)
      ∙ middle on.gone after x

  abbrev pub one_gone : {after : List A} {x : A} {more : ℕ} → left ≡ x ∷ after → more ≡ done + 1 → HaveGone all after more
  one_gone {after} {x} {more} is one = record {
    gone = on.gone ++ x ∷ [];
    split = on.split ∙ ap (λ (l : List A). on.gone ++ l) is ∙ sym (append_assoc on.gone (x ∷ []) after);
    many = omega (arith, length-append on.gone (x ∷ []), on.many, one);
  }

  -- where nothing is left, all things went
  pub gone_all : length left ≡ 0 → done ≡ length all
  gone_all none = omega (arith, ap length on.split, length-append on.gone left, on.many, none)

  pub gone_are : length left ≡ 0 → on.gone ≡ all
  gone_are none = sym (on.split ∙ ap (λ (l : List A). on.gone ++ l) (nothing left none) ∙ append-nil on.gone)
    where
      nothing : (l : List A) → length l ≡ 0 → l ≡ []
      nothing [] is = refl
      nothing (x ∷ l) is = absurd (omega (arith, is))

  -- while a thing is left, its place is one of all
  pub place_left : {after : List A} {x : A} → left ≡ x ∷ after → done < length all
  place_left is = omega (arith, ap length on.split, length-append on.gone left, on.many, ap length is)

-- a function of all things is that of those that went, and then that of those that are left
module _ {A B : Type 0} (f : A → B) where
  pub moves_on : (all done grown : List B) (rest after : List A) (x : A) (y : B) → all ≡ done ++ map f rest → rest ≡ x ∷ after → y ≡ f x →
      grown ≡ done ++ y ∷ [] → all ≡ grown ++ map f after
  moves_on all done grown rest after x y so_far is y_is grown_is =
      so_far ∙ ap (λ (r : List A). done ++ map f r) is ∙ ap (λ (z : B). done ++ z ∷ map f after) (sym y_is)
      ∙ sym (append_assoc done (y ∷ []) (map f after)) ∙ ap (λ (g : List B). g ++ map f after) (sym grown_is)

  pub ends_up : (all done : List B) (rest : List A) → all ≡ done ++ map f rest → length rest ≡ 0 → done ≡ all
  ends_up all done [] so_far none = sym (so_far ∙ append-nil done)
  ends_up all done (x ∷ xs) so_far none = absurd (omega (arith, none))

-- behind the first list
pub behind : {A : Type 0} (xs ys : List A) (k : ℕ) → slice_get (xs ++ ys) (length xs + k) ≡ slice_get ys k
behind [] ys k = let same : 0 + k ≡ k = omega arith in ap (slice_get ys) same
behind (x ∷ xs) ys k = let same : length (x ∷ xs) + k ≡ suc (length xs + k) = omega arith in ap (slice_get (x ∷ (xs ++ ys))) same ∙ behind xs ys k
