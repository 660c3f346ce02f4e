-- The threads go over each class number of the part, and the list has the opening of each, in order.
use Rattle.dob_gather.proofs.Common.{◌-◌, ◌<◌, ◌∙◌, List, arith, subst, sym, ℕ, AllZip, range_with_len, classes_of}
use Rattle.rayon.specs.Numbers.{nat_range}
use Rattle.rayon.proofs.ToStd.{nat_range-All}
use Rattle.dob_rank.specs.Families.{class_setup}
use Rattle.dob_share.specs.declared.opening.Opening.{Opening}
use Rattle.dob_history.specs.Openings.{IsOpening}
use Rattle.dob_gather.specs.Scans.{AreOpeningsFrom}
use Rattle.dob_gather.proofs.Found.{found_are}
use Rattle.dob_gather.proofs.scans.scan_part.Goals as goal

pub collect-requires-clause-ready : goal.collect-requires-clause-ready
collect-requires-clause-ready g c = λ κs lives.
    let ends = c.into_par_iter.ensures in
    let inside = nat_range-All (λ i. i < classes_of c.args.classes.now.family) c.args.first c.args.end (λ i low high. omega (arith, high, c.requires.within)) in
    rw (c.map.ensures.base, c.map.ensures.f, ends.0, ends.1) (λ k d lt. (inside k d lt, λ y p. tt))

pub returns : goal.returns
returns g c =
    let family = c.args.classes.now.family in
    let first = c.args.first in
    let end = c.args.end in
    let done = c.in_ok-openings.ensures in
    let ends = c.into_par_iter.ensures in
    let chain = rw (c.map.ensures.base, c.map.ensures.f) at done.1 in
    let places = chain.1 ∙ (λ i. nat_range (ends.0 i) (ends.1 i)) in
    let are : AllZip (λ (class : ℕ) (given : Opening). IsOpening family.profile (class_setup family class) given) (range_with_len first (end - first)) done.0 =
    subst (λ (classes : List ℕ). AllZip (λ (class : ℕ) (given : Opening). IsOpening family.profile (class_setup family class) given) classes done.0) places chain.2 in
    subst (AreOpeningsFrom family first end) (sym done.2) (found_are (λ class given. IsOpening family.profile (class_setup family class) given) first end done.0 c.requires.order are)
