-- The tallies of the values in their places, of which each part that a thread adds up has the tally of its values.
use Rattle.dob_lines.proofs.Common.{◌-◌, ◌<◌, ◌∙◌, ◌∷◌, ◌≡◌, List, [], ap, arith, length, subst, ℕ, AllZip, range_with_len, IsTallyAt}
use Rattle.rayon.specs.Numbers.{nat_range}
use Rattle.rayon.proofs.Reducing.{Reduces-elim}
use Rattle.rayon.proofs.ToStd.{nat_range-All}
use Rattle.dob_lines.proofs.Tallies.{IsWhole, both_whole, none_whole, one_whole, ones_at}
use Rattle.dob_lines.proofs.tally.tally_of.Goals as goal

pub reduce-requires-clause-ready : goal.reduce-requires-clause-ready
reduce-requires-clause-ready g c = λ κs within.
    let inside =
    nat_range-All (λ i. i < length c.args.table.now.values) 0 c.class_count.result (λ i low high. omega (arith, high, c.class_count.ensures.length)) in
    rw (c.map.ensures.base, c.map.ensures.f, c.into_par_iter.ensures.0, c.into_par_iter.ensures.1) (λ k d lt. (inside k d lt, λ y p. tt))

pub returns : goal.returns
returns g c =
    let values = c.args.table.now.values in
    let done = c.reduce.ensures in
    let ends = c.into_par_iter.ensures in
    let whole : c.class_count.result - 0 ≡ length values = omega (arith, c.class_count.ensures.length) in
    let chain = rw (c.map.ensures.base, c.map.ensures.f) at done.1 in
    let places = chain.1 ∙ (λ i. nat_range (ends.0 i) (ends.1 i)) ∙ ap (range_with_len 0) whole in
    let ones = subst (λ (classes : List ℕ). AllZip (IsTallyAt values) classes done.0) places chain.2 in
    Reduces-elim _ _ IsWhole none_whole
    (λ before left one both is added. both_whole before (one ∷ []) left one both is (one_whole one) added)
    both_whole done.0 c.reduce.result done.2 values (omega (arith, c.class_count.ensures.length, c.class_count.type_inv)) (ones_at [] values done.0 ones)
