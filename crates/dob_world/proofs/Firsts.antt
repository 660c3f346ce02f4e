-- First elements, lists that have some, and calls that can't have failed.
use Rattle.std.proofs.Common.{◌≡◌, ◌<◌, refl, sym, ap, ◌∙◌, arith, ℕ, List, [], ◌∷◌, ◌++◌, length, take, Some, None, slice_get, Result, Ok, Err, OnOk, OnErr}
use Rattle.std.proofs.lemmas.List.{append-nil, take_at}

pub none_first : {X : Type 0} (xs : List X) → slice_get xs 0 ≡ None → xs ≡ []
none_first [] is = refl
none_first (x ∷ xs) is = cc

-- the one that is there, and those behind it
pub with_first : {X : Type 0} (xs : List X) (x : X) → slice_get xs 0 ≡ Some x → (rest : List X) × (xs ≡ x ∷ rest)
with_first [] x is = absurd (cc)
with_first (y ∷ xs) x is = (xs, cc)

pub first_same : {X : Type 0} (xs rest : List X) (x y : X) → slice_get xs 0 ≡ Some x → xs ≡ y ∷ rest → x ≡ y
first_same xs rest x y there is = let e : Some x ≡ Some y = sym there ∙ ap (λ zs. slice_get zs 0) is in cc

pub some_first : {X : Type 0} (xs : List X) (x : X) → slice_get xs 0 ≡ Some x → xs ≡ [] → ⊥
some_first xs x there is = let e : Some x ≡ None = sym there ∙ ap (λ zs. slice_get zs 0) is in cc

pub none_some : {X : Type 0} (xs : List X) → xs ≡ [] → 0 < length xs → ⊥
none_some xs is some = let e : length xs ≡ 0 = ap length is in omega arith

pub not_none : {X : Type 0} (xs : List X) → (xs ≡ [] → ⊥) → 0 < length xs
not_none [] some = absurd (some refl)
not_none (x ∷ xs) some = omega arith

pub nothing_in : {X : Type 0} (xs : List X) → (0 < length xs → ⊥) → xs ≡ []
nothing_in [] none = refl
nothing_in (x ∷ xs) none = absurd (none (omega arith))

pub some_of : {X : Type 0} {xs rest : List X} {x : X} → xs ≡ x ∷ rest → 0 < length xs
some_of is = let e = ap length is in omega arith

pub went_well : {T E : Type 0} (r : Result T E) (A B : Type 0) → OnOk r A → OnErr r B → (B → ⊥) → A
went_well (Ok v) A B good bad not = good
went_well (Err e) A B good bad not = absurd (not bad)

pub ok_is : {T E : Type 0} (a b : T) → ◌≡◌ {A = Result T E} (Ok a) (Ok b) → a ≡ b
ok_is a b e = cc

-- the first so many of a list, where it is told what they are
pub front_is : {X : Type 0} (xs front behind : List X) (x : X) (count : ℕ) → xs ≡ front ++ x ∷ behind → length front ≡ count → take count xs ≡ front
front_is xs front behind x count is counted = ap (take count) is ∙ take_at front (x ∷ behind) count counted

-- all of a list of two parts, where nothing is in the second
pub front_alone : {X : Type 0} {whole front behind : List X} → whole ≡ front ++ behind → behind ≡ [] → whole ≡ front
front_alone {front = front} e none = e ∙ ap (λ xs. front ++ xs) none ∙ append-nil front
