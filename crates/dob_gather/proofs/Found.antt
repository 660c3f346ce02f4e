-- What was found of each class, in the order of the classes, and the values that the nodes show.
use Rattle.dob_gather.proofs.Common.{◌++◌, ◌+◌, ◌-◌, ◌<◌, ◌∙◌, ◌∷◌, ◌≡◌, ◌≤◌, ◌⊎◌, List, Some, [], ap, arith, inl, inr, length, length-append, map, refl}
use Rattle.dob_gather.proofs.Common.{subst, suc, sym, zero, ℕ, ⊎_elim, length-map, same_Some, slice_get-get_or, All, AllZip, range_with_len, slice_get, slice_index_or, some_at}
use Rattle.dob_gather.proofs.Common.{as_many, each_is, Family, classes_of, IsEntry, Value, owner_of, Share, below_owner, AreOwners, AreShownBelow, IsCodeShown}
use Rattle.dob_gather.proofs.Common.{IsShownByOwner, AreFrom, value_of_code, values_of_codes}
use Rattle.std.specs.Option.{option_map}
use Rattle.std.proofs.lemmas.Option.{slice_get-map, slice_get_within}

-- ---- what was found of each class, in the order of the classes

-- what stands in two lists joined stands in one of them
at_either : {A : Type 0} → (xs ys : List A) (k : ℕ) (x : A) → slice_get (xs ++ ys) k ≡ Some x →
    (slice_get xs k ≡ Some x) ⊎ ((j : ℕ) × (k ≡ length xs + j) × (slice_get ys j ≡ Some x))
at_either [] ys k x e = inr (k, omega arith, e)
at_either (y ∷ xs) ys zero x e = inl e
at_either (y ∷ xs) ys (suc k) x e = ⊎_elim (λ l. inl l) (λ r. let place = r.1 in inr (r.0, omega arith, r.2)) (at_either xs ys k x e)

-- what the threads found of each class stands in the classes' order
pub found_are : {X : Type 0} → (IsFound : ℕ → X → Type 0) (first upto : ℕ) (items : List X) → first ≤ upto →
    AllZip IsFound (range_with_len first (upto - first)) items → AreFrom IsFound first upto items
found_are IsFound first upto items order are = grind (arith, as_many, each_is)

-- what was found below a number, and from there on
pub found_joined : {X : Type 0} → (IsFound : ℕ → X → Type 0) (begin first upto : ℕ) (before more : List X) → AreFrom IsFound begin first before →
    AreFrom IsFound first upto more → AreFrom IsFound begin upto (before ++ more)
found_joined IsFound begin first upto before more are next = record {
  whole = omega (arith, length-append before more, are.whole, next.whole);
  each = λ place item there. elim (at_either before more place item there) [
    | inl earlier ↦ are.each place item earlier
    | inr later ↦ (
        let here : first + later.0 ≡ begin + place = omega (arith, are.whole, later.1) in
        subst (λ (class : ℕ). IsFound class item) here (next.each later.0 item later.2))
  ];
}

-- ---- the values that the nodes show

-- what a class's owner shows is such a value as a table can have
pub shown_entry : (family : Family) (shares : List Share) (class : ℕ) (value : Value) → 0 < length shares → AreOwners family (length shares) shares →
    class < classes_of family → IsShownByOwner (length shares) shares class value → IsEntry value
shown_entry family shares class value some owners low shown =
    let owner = some_at shares (owner_of (length shares) class) (below_owner (length shares) class some) in
    (owners (owner_of (length shares) class) owner.0 owner.1).entries class value low refl (shown owner.0 owner.1)

-- codes of what the nodes show are those of a table, and their values what the nodes show
module _ (n count : ℕ) (shares : List Share) (codes : List ℕ) (are : AreFrom (IsCodeShown n shares) 0 count codes) where
  pub codes_fit : All (λ (code : ℕ). code < 65536) codes
  codes_fit = λ k d low. (are.each k (slice_index_or codes k d) (slice_get-get_or codes k d low)).0

  pub values_shown : AreShownBelow n count shares (values_of_codes codes)
  values_shown = record {
    whole = omega (arith, length-map codes value_of_code, are.whole);
    each = λ class value at.
        let code = some_at codes class (omega (arith, slice_get_within (map value_of_code codes) class value at, length-map codes value_of_code)) in
        let is : value_of_code code.0 ≡ value = same_Some (value_of_code code.0) value
        (ap (option_map value_of_code) (sym code.1) ∙ sym (slice_get-map value_of_code codes class) ∙ at) in
        let here : 0 + class ≡ class = omega arith in
        subst (λ (p : ℕ × Value). IsShownByOwner n shares p.0 p.1) (λ i. (here i, is i)) (are.each class code.0 code.1).1;
  }
