-- The parts in their places, each looked at by itself.
use Rattle.dob_reach.proofs.Common.{◌-◌, ◌∙◌, AllZip, AllZip-weaken, IfOk, IsPartAt, IsPlace, List, FrontierPart, Result, ap, arith, range_with_len, subst, ℕ}
use Rattle.rayon.specs.Numbers.{nat_range}
use Rattle.rayon.proofs.ToStd.{nat_range-All}
use Rattle.dob_pieces.proofs.Zips.{made_all}
use Rattle.dob_pieces.specs.declared.memory.Memory.{Memory}
use Rattle.dob_reach.proofs.parts.parts_between.Goals as goal

pub collect-requires-clause-ready : goal.collect-requires-clause-ready
collect-requires-clause-ready g c κs within =
    let inside = nat_range-All (λ place. IsPlace c.args.classes.now.family c.args.marks.now.words.items c.args.front.now place) c.args.first c.args.end
    (λ place low high. record { members = c.requires.members; bits = c.requires.bits; begins = omega (arith, high, c.requires.within) }) in
    rw (c.map.ensures.base, c.map.ensures.f, c.into_par_iter.ensures.0, c.into_par_iter.ensures.1) (λ k d lt. (inside k d lt, λ given made. tt))

pub returns : goal.returns
returns g c =
    let family = c.args.classes.now.family in
    let words = c.args.marks.now.words.items in
    let front = c.args.front.now in
    let done = c.in_ok-collect.ensures in
    let ends = c.into_par_iter.ensures in
    let places = done.1.1 ∙ ap (λ it. nat_range it.start it.end) c.map.ensures.base ∙ (λ i. nat_range (ends.0 i) (ends.1 i)) in
    let each = AllZip-weaken _ (λ (place : ℕ) (given : Result FrontierPart Memory). IfOk given (IsPartAt family words front place))
    (λ place given h. (rw c.map.ensures.f at h)) done.1.0 done.0 done.1.2 in
    let are = subst (λ (l : List ℕ). AllZip (λ (place : ℕ) (given : Result FrontierPart Memory). IfOk given (IsPartAt family words front place)) l done.0) places each in
    made_all (IsPartAt family words front) (range_with_len c.args.first (c.args.end - c.args.first)) done.0 c.in_ok-collect.field-0 are done.2
