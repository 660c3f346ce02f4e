-- Lists side by side, each item of the one with its item of the other.
use Rattle.dob_pieces.proofs.Common.{◌++◌, ◌+◌, ◌<◌, ◌∙◌, ◌∷◌, ◌≡◌, Contains, Err, IfOk, List, Ok, Some, [], arith, length, map, refl, subst, suc, sym, zero, ℕ}
use Rattle.dob_pieces.proofs.Common.{get_or-range_with_len, length-range_with_len, AllZip, range_with_len, MatchResult, Result, Vec, slice_get}
use Rattle.std.proofs.lemmas.Option.{get_or_from_slice_get, same_Some, slice_get_within}

module _ {X Y : Type 0} (R : X → Y → Type 0) where
  -- with one more in each
  pub zip_one : (xs : List X) (ys : List Y) (x : X) (y : Y) → AllZip R xs ys → R x y → AllZip R (xs ++ x ∷ []) (ys ++ y ∷ [])
  zip_one [] [] x y are is = (is, tt)
  zip_one [] (b ∷ ys) x y are is = absurd are
  zip_one (a ∷ xs) [] x y are is = absurd are
  zip_one (a ∷ xs) (b ∷ ys) x y are is = (are.0, zip_one xs ys x y are.1 is)

  -- what stands at a place has its other at that place
  pub zip_at : (xs : List X) (ys : List Y) (k : ℕ) (y : Y) → AllZip R xs ys → slice_get ys k ≡ Some y → (x : X) × (slice_get xs k ≡ Some x) × R x y
  zip_at [] [] k y are at = absurd (cc)
  zip_at [] (b ∷ ys) k y are at = absurd are
  zip_at (a ∷ xs) [] k y are at = absurd are
  zip_at (a ∷ xs) (b ∷ ys) zero y are at = (a, refl, subst (R a) (same_Some b y at) are.0)
  zip_at (a ∷ xs) (b ∷ ys) (suc k) y are at = zip_at xs ys k y are.1 at

  pub zip_long : (xs : List X) (ys : List Y) → AllZip R xs ys → length ys ≡ length xs
  zip_long [] [] are = refl
  zip_long [] (b ∷ ys) are = absurd are
  zip_long (a ∷ xs) [] are = absurd are
  zip_long (a ∷ xs) (b ∷ ys) are = let h = zip_long xs ys are.1 in omega (arith, h)

  -- answers that are all Ok, in order
  all_ok : (E : Type 0) (xs : List X) (ys : List Y) → AllZip (λ (x : X) (r : Result Y E). IfOk r (R x)) xs (map Ok ys) → AllZip R xs ys
  all_ok E [] [] are = tt
  all_ok E [] (y ∷ ys) are = absurd are
  all_ok E (x ∷ xs) [] are = absurd are
  all_ok E (x ∷ xs) (y ∷ ys) are = (are.0, all_ok E xs ys are.1)

  -- things that were made side by side, all of them or none
  pub made_all : {E Z : Type 0} (xs : List X) (given : List (Result Y E)) (result : Result (Vec Y Z) E) →
      AllZip (λ (x : X) (r : Result Y E). IfOk r (R x)) xs given →
      MatchResult result (λ made. (ys : List Y) × (given ≡ map Ok ys) × (made.items ≡ ys)) (λ why. Contains given (Err why)) →
      IfOk result (λ made. AllZip R xs made.items)
  made_all {E} xs given (Ok made) are is = subst (AllZip R xs) (sym is.2)
      (all_ok E xs is.0 (subst (λ (l : List (Result Y E)). AllZip (λ (x : X) (r : Result Y E). IfOk r (R x)) xs l) is.1 are))
  made_all xs given (Err why) are is = tt

-- one for each number of a range
module _ {Y : Type 0} (R : ℕ → Y → Type 0) (from count : ℕ) (ys : List Y) (are : AllZip R (range_with_len from count) ys) where
  pub as_many : length ys ≡ count
  as_many = zip_long R (range_with_len from count) ys are ∙ length-range_with_len from count

  pub each_is : (k : ℕ) (y : Y) → slice_get ys k ≡ Some y → R (from + k) y
  each_is k y at =
      let number = zip_at R (range_with_len from count) ys k y are at in
      let within : k < count = subst (λ n. k < n) as_many (slice_get_within ys k y at) in
      let same : number.0 ≡ from + k = sym (get_or_from_slice_get (range_with_len from count) k number.0 0 number.1)
      ∙ get_or-range_with_len from count k 0 within in
      subst (λ n. R n y) same number.2
