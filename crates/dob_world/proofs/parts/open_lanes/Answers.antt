-- One lane more is opened.
use Rattle.dob_world.proofs.Common.{◌++◌, ◌+◌, ◌∙◌, ◌∷◌, ◌≡◌, [], AreEmptyLanes, IsEmptyLane, Lane, List, ap, at_end, inl, inr, length-append, subst, sym, ℕ}
use Rattle.dob_world.proofs.parts.open_lanes.Goals as goal

lanes_more : (capacity m : ℕ) (lanes new : List Lane) (lane : Lane) → AreEmptyLanes capacity m lanes → IsEmptyLane capacity lane → new ≡ lanes ++ lane ∷ []
    → AreEmptyLanes capacity (m + 1) new
lanes_more capacity m lanes new lane are empty is = subst (λ xs. AreEmptyLanes capacity (m + 1) xs) (sym is) (record {
  whole = length-append lanes (lane ∷ []) ∙ ap (λ (k : ℕ). k + 1) are.whole;
  each = λ place x there. elim (at_end lanes lane x place there) [
    | inl before ↦ are.each place x before
    | inr last ↦ subst (IsEmptyLane capacity) last.1 empty
  ];
})

pub loop-place-preserved : goal.loop-place-preserved
loop-place-preserved c =
    let opened = c.in_ok-open.ensures in
    lanes_more c.args.capacity c.loop-place._place c.loop-place.lanes.items c.push.new.self.items c.in_ok-open.field-0 c.loop-place.invariant
    (record { link = opened.link; sent = opened.sent; applied = opened.applied }) c.in_ok-push.ensures.items
