-- The tally of a list from tallies of its parts.
use Rattle.dob_lines.proofs.Common.{◌++◌, ◌+◌, ◌<◌, ◌^◌, ◌∷◌, ◌≡◌, List, Some, [], ap, arith, length, refl, subst, sym, ℕ, append_assoc, length-append}
use Rattle.dob_lines.proofs.Common.{AllZip, range_with_len, slice_get, Value, IsTally, IsTallyAt, Tally}
use Rattle.dob_lines.specs.Tallies.{AreAddedUp}
use Rattle.dob_pieces.proofs.Elements.{middle}

-- the tally of one value each, place by place
abbrev AreOnes : List Value → List Tally → Type 0
AreOnes = AllZip (λ (value : Value) (tally : Tally). IsTally (value ∷ []) tally)

-- the tally of the values of which each has one of these tallies
abbrev pub IsWhole : List Tally → Tally → Type 0
IsWhole ones whole = (values : List Value) → length values < 2 ^ 64 → AreOnes values ones → IsTally values whole

-- the values in two parts, of which one has the first tallies
record AreParts (ones more : List Tally) (values : List Value) : Type 0 where
  pub first : List Value
  pub second : List Value
  pub joined : values ≡ first ++ second
  pub left : AreOnes first ones
  pub right : AreOnes second more

parts_of : (ones more : List Tally) (values : List Value) → AreOnes values (ones ++ more) → AreParts ones more values
parts_of [] more values are = record { first = []; second = values; joined = refl; left = tt; right = are }
parts_of (one ∷ ones) more [] are = absurd are
parts_of (one ∷ ones) more (value ∷ values) are =
    let rest = parts_of ones more values are.1 in record {
      first = value ∷ rest.first;
      second = rest.second;
      joined = ap (λ (l : List Value). value ∷ l) rest.joined;
      left = (are.0, rest.left);
      right = rest.right;
    }

-- of two parts
pub both_whole : (ones more : List Tally) (left right both : Tally) → IsWhole ones left → IsWhole more right → AreAddedUp left right both
    → IsWhole (ones ++ more) both
both_whole ones more left right both of_left of_right added values few are =
    let parts = parts_of ones more values are in
    let all = rw parts.joined at few in
    rw parts.joined (added parts.first parts.second all (of_left parts.first (omega (arith, all, length-append parts.first parts.second)) parts.left)
    (of_right parts.second (omega (arith, all, length-append parts.first parts.second)) parts.right))

-- of no values
pub none_whole : (none : Tally) → IsTally [] none → IsWhole [] none
none_whole none is [] few are = is
none_whole none is (value ∷ values) few are = absurd are

-- of one value
pub one_whole : (one : Tally) → IsWhole (one ∷ []) one
one_whole one [] few are = absurd are
one_whole one (value ∷ []) few are = are.0
one_whole one (value ∷ next ∷ values) few are = absurd are.1

-- the values at the places from one on
at_length : (before rest : List Value) (value found : Value) → slice_get (before ++ value ∷ rest) (length before) ≡ Some found → found ≡ value
at_length before rest value found e = cc (middle before rest value)

pub ones_at : (before rest : List Value) (ones : List Tally) → AllZip (IsTallyAt (before ++ rest)) (range_with_len (length before) (length rest)) ones
    → AreOnes rest ones
ones_at before [] [] are = tt
ones_at before (value ∷ rest) (one ∷ ones) are =
    let whole = append_assoc before (value ∷ []) rest in
    let next : length (before ++ value ∷ []) ≡ length before + 1 = length-append before (value ∷ []) in (
      subst (λ (v : Value). IsTally (v ∷ []) one) (at_length before rest value are.0.0 are.0.1) are.0.2,
      ones_at (before ++ value ∷ []) rest ones
          (subst (λ (n : ℕ). AllZip (IsTallyAt ((before ++ value ∷ []) ++ rest)) (range_with_len n (length rest)) ones) (sym next)
          (subst (λ (l : List Value). AllZip (IsTallyAt l) (range_with_len (length before + 1) (length rest)) ones) (sym whole) are.1)),
    )
ones_at before rest ones are = absurd are
