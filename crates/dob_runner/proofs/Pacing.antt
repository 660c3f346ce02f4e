-- The least level of the others, node by node.
use Rattle.std.proofs.Common.{◌≡◌, ◌≢◌, ◌+◌, ◌∙◌, ℕ, List, sym, ap, inl, inr, slice_get, arith}
use Rattle.std.specs.Prelude.{Some, min}
use Rattle.std.proofs.lemmas.Bool.{cases_eq, cases_lt}
use Rattle.std.proofs.lemmas.Option.{same_Some}
use Rattle.dob_runner.specs.Paces.{IsLeastOther}

-- the own level counts for nothing
pub least_own : (node k : ℕ) (told : List ℕ) (least : ℕ) → IsLeastOther node k told least → k ≡ node → IsLeastOther node (k + 1) told least
least_own node k told least so_far own = record {
  low = λ j level below other at. so_far.low j level (omega (arith, below, λ (same : j ≡ k). other (same ∙ own))) other at;
  is = elim so_far.is [
    | inl last ↦ inl last
    | inr one ↦ inr (one.0, omega (arith, one.1), one.2, one.3)
  ];
}

pub least_more : (node k level : ℕ) (told : List ℕ) (least : ℕ) → IsLeastOther node k told least → k ≢ node → slice_get told k ≡ Some level →
    IsLeastOther node (k + 1) told (min least level)
least_more node k level told least so_far other at = record {
  low = λ j found below apart there. elim (cases_eq j k) [
    | inl here ↦ (let same = same_Some level found (sym at ∙ (ap (λ i. slice_get told i) (sym here) ∙ there)) in omega (arith, same))
    | inr before ↦ (let low = so_far.low j found (omega (arith, below, before)) apart there in omega (arith, low))
  ];
  is = elim (cases_lt level least) [
    | inl less ↦ (let is : min least level ≡ level = omega (arith, less) in inr (k, omega arith, other, at ∙ ap Some (sym is)))
    | inr least_is ↦ (let is : min least level ≡ least = omega (arith, least_is) in elim so_far.is [
      | inl last ↦ inl (is ∙ last)
      | inr one ↦ inr (one.0, omega (arith, one.1), one.2, one.3 ∙ ap Some (sym is))
    ])
  ];
}
