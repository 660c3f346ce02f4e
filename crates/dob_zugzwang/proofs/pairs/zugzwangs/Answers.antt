-- What is found of each class, in order, is all pairs.
use Rattle.dob_zugzwang.proofs.Common.{◌-◌, ◌<◌, ◌∙◌, ◌≡◌, List, ap, arith, length, subst, sym, ℕ, Family, classes_of, ArePairs, IsPairAt}
use Rattle.std.specs.List.{AllZip, range_with_len}
use Rattle.rayon.specs.Numbers.{nat_range}
use Rattle.rayon.proofs.ListFacts.{AllZip-weaken}
use Rattle.rayon.proofs.ToStd.{nat_range-All}
use Rattle.dob_zugzwang.proofs.Listing.{all_found, pair_within}
use Rattle.dob_zugzwang.proofs.pairs.zugzwangs.Goals as goal

pub collect-requires-clause-ready : goal.collect-requires-clause-ready
collect-requires-clause-ready g c κs within =
    let ends = c.into_par_iter.ensures in
    let values = c.args.table.now.values in
    let count : c.class_count.result ≡ length values
    = c.class_count.ensures.number ∙ ap (λ (family : Family). classes_of family) c.classes.ensures.family ∙ c.classes.ensures.count in
    let inside = nat_range-All (λ i. i < length values) 0 c.class_count.result (λ i low high. omega (arith, high, count)) in
    rw (c.filter_map.ensures.base, c.filter_map.ensures.f, ends.0, ends.1) (λ k d lt. (inside k d lt, λ pair made. tt))

pub returns : goal.returns
returns g c =
    let table = c.args.table.now in
    let done = c.in_ok-pairs.ensures in
    let ends = c.into_par_iter.ensures in
    let count : c.class_count.result - 0 ≡ length table.values
    = (let all = c.class_count.ensures.number ∙ ap (λ (family : Family). classes_of family) c.classes.ensures.family ∙ c.classes.ensures.count in omega (arith, all)) in
    let chain = rw (c.filter_map.ensures.base, c.filter_map.ensures.f) at done.1 in
    let places = chain.2 ∙ (λ i. nat_range (ends.0 i) (ends.1 i)) ∙ ap (range_with_len 0) count in
    let found : AllZip (IsPairAt table) (range_with_len 0 (length table.values)) chain.1
    = subst (λ (classes : List ℕ). AllZip (IsPairAt table) classes chain.1) places (AllZip-weaken _ (IsPairAt table) (λ class pair h. h) chain.0 chain.1 chain.3) in
    subst (ArePairs table) (sym (done.2 ∙ chain.4)) (all_found table (length table.values) chain.1 (pair_within table) found)
