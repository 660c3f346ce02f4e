-- The deepest pair, one pair more each time.
use Rattle.std.proofs.Common.{Contains, false}
use Rattle.dob_zugzwang.proofs.Common.{◌++◌, ◌∙◌, ◌∷◌, ◌≡◌, List, None, Option, Some, [], arith, inl, inr, refl, subst, sym, true, true≢false, IsDeeper}
use Rattle.dob_zugzwang.proofs.Common.{IsDeepest, is_lost_by_both, Zugzwang}
use Rattle.std.proofs.lemmas.List.Elements.{Contains-append_left, Contains-push, Contains-push_cases}

-- no pair is deeper than itself
pub not_itself : (pair : Zugzwang) → ¬ IsDeeper pair pair
not_itself pair (inl less) = absurd (omega (arith, less))
not_itself pair (inr (_, inl less)) = absurd (omega (arith, less))
not_itself pair (inr (_, inr (_, less))) = absurd (omega (arith, less))

-- what is deeper than a deeper one is deeper
pub deeper_still : (a b c : Zugzwang) → IsDeeper a b → IsDeeper b c → IsDeeper a c
deeper_still a b c (inl x) (inl y) = inl (omega (arith, x, y))
deeper_still a b c (inl x) (inr (y, _)) = inl (omega (arith, x, y))
deeper_still a b c (inr (x, _)) (inl y) = inl (omega (arith, x, y))
deeper_still a b c (inr (x, inl s)) (inr (y, inl t)) = inr (omega (arith, x, y), inl (omega (arith, s, t)))
deeper_still a b c (inr (x, inl s)) (inr (y, inr (t, _))) = inr (omega (arith, x, y), inl (omega (arith, s, t)))
deeper_still a b c (inr (x, inr (s, _))) (inr (y, inl t)) = inr (omega (arith, x, y), inl (omega (arith, s, t)))
deeper_still a b c (inr (x, inr (s, u))) (inr (y, inr (t, w))) = inr (omega (arith, x, y), inr (omega (arith, s, t), omega (arith, u, w)))

pub none_yet : IsDeepest [] None
none_yet pair there = absurd (omega (arith, there.1))

module _ (done : List Zugzwang) (pair : Zugzwang) where
  -- what holds of the pairs so far and of one more holds of all
  each_more : (Holds : Zugzwang → Type 0) → ((other : Zugzwang) → Contains done other → Holds other) → Holds pair
      → (other : Zugzwang) → Contains (done ++ pair ∷ []) other → Holds other
  each_more Holds each last other there = elim (Contains-push_cases done pair other there) [
    | inl earlier ↦ each other earlier
    | inr same ↦ subst Holds same last
  ]

  abbrev NotDeeper : Zugzwang → Zugzwang → Type 0
  NotDeeper best other = is_lost_by_both other ≡ true → ¬ IsDeeper other best

  -- one that isn't changes nothing
  pub passed_over : (best : Option Zugzwang) → is_lost_by_both pair ≡ false → IsDeepest done best → IsDeepest (done ++ pair ∷ []) best
  passed_over None not_lost none = each_more (λ other. is_lost_by_both other ≡ false) none not_lost
  passed_over (Some best) not_lost is = (
    Contains-append_left done (pair ∷ []) best is.0,
    is.1,
    each_more (NotDeeper best) is.2 (λ lost. absurd (true≢false (sym lost ∙ not_lost))),
  )

  -- the first one that is
  pub begun : (best : Option Zugzwang) → ((other : Zugzwang) → ¬ (best ≡ Some other)) → is_lost_by_both pair ≡ true → IsDeepest done best
      → IsDeepest (done ++ pair ∷ []) (Some pair)
  begun (Some best) fresh is_lost is = absurd (fresh best refl)
  begun None fresh is_lost none = (
    Contains-push done pair,
    is_lost,
    each_more (NotDeeper pair) (λ other earlier lost. absurd (true≢false (sym lost ∙ none other earlier))) (λ lost. not_itself pair),
  )

  -- a deeper one takes the place of the best, and another one doesn't
  pub replaced : (best : Zugzwang) → is_lost_by_both pair ≡ true → IsDeeper pair best → IsDeepest done (Some best) → IsDeepest (done ++ pair ∷ []) (Some pair)
  replaced best is_lost deeper is = (
    Contains-push done pair,
    is_lost,
    each_more (NotDeeper pair) (λ other earlier lost still. is.2 other earlier lost (deeper_still other pair best still deeper)) (λ lost. not_itself pair),
  )
