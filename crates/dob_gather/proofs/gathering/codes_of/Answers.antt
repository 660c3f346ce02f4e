-- The threads go over each class number of the part, and the list has the code of each, in order.
use Rattle.dob_gather.proofs.Common.{◌-◌, ◌<◌, ◌∙◌, List, arith, length, subst, sym, ℕ, AllZip, range_with_len, classes_of, IsCodeShown, AreFrom}
use Rattle.rayon.specs.Numbers.{nat_range}
use Rattle.rayon.proofs.ToStd.{nat_range-All}
use Rattle.dob_gather.proofs.Found.{found_are}
use Rattle.dob_gather.proofs.gathering.codes_of.Goals as goal

pub collect-requires-clause-ready : goal.collect-requires-clause-ready
collect-requires-clause-ready g c = λ κs lives.
    let ends = c.into_par_iter.ensures in
    let owned = c.requires.owned in
    let inside = nat_range-All (λ i. i < classes_of owned.0) c.args.first c.args.end (λ i low high. omega (arith, high, owned.1)) in
    rw (c.map.ensures.base, c.map.ensures.f, ends.0, ends.1) (λ k d lt. ((c.requires.some, (owned.0, inside k d lt, owned.2)), λ y p. tt))

pub returns : goal.returns
returns g c =
    let shares = c.args.shares.now in
    let first = c.args.first in
    let end = c.args.end in
    let done = c.in_ok-codes.ensures in
    let ends = c.into_par_iter.ensures in
    let chain = rw (c.map.ensures.base, c.map.ensures.f) at done.1 in
    let places = chain.1 ∙ (λ i. nat_range (ends.0 i) (ends.1 i)) in
    let are : AllZip (IsCodeShown (length shares) shares) (range_with_len first (end - first)) done.0 =
    subst (λ (classes : List ℕ). AllZip (IsCodeShown (length shares) shares) classes done.0) places chain.2 in
    subst (AreFrom (IsCodeShown (length shares) shares) first end) (sym done.2) (found_are (IsCodeShown (length shares) shares) first end done.0 c.requires.order are)
