-- The parts in their places, each counted by itself.
use Rattle.dob_check.proofs.Common.{◌-◌, ◌<◌, ◌∙◌, ◌≡◌, List, ap, arith, subst, ℕ, AllZip, range_with_len, IfOk, Result, AllZip-weaken, nat_range-All}
use Rattle.dob_check.proofs.Common.{nat_range, made_all, IsPart, IsPlace, part_count}
use Rattle.dob_pieces.specs.declared.memory.Memory.{Memory}
use Rattle.dob_check.specs.declared.counts.SlotPart.{SlotPart}
use Rattle.dob_check.proofs.Places.{part_begins}
use Rattle.dob_check.proofs.counts.slots_of_parts.Goals as goal

pub collect-requires-clause-ready : goal.collect-requires-clause-ready
collect-requires-clause-ready g c κs within =
    let ends = c.into_par_iter.ensures in
    let values = c.args.table.now.values in
    let inside = nat_range-All (λ place. IsPlace values place) 0 c.part_count.result
    (λ place low high. record { begins = part_begins values place (subst (λ (n : ℕ). place < n) c.part_count.ensures high) }) in
    rw (c.map.ensures.base, c.map.ensures.f, ends.0, ends.1) (λ k d lt. (inside k d lt, λ given made. tt))

pub returns : goal.returns
returns g c =
    let values = c.args.table.now.values in
    let done = c.in_ok-collect.ensures in
    let ends = c.into_par_iter.ensures in
    let none : c.part_count.result - 0 ≡ c.part_count.result = omega arith in
    let count = none ∙ c.part_count.ensures in
    let places = done.1.1 ∙ ap (λ it. nat_range it.start it.end) c.map.ensures.base ∙ (λ i. nat_range (ends.0 i) (ends.1 i)) ∙ ap (range_with_len 0) count in
    let each = AllZip-weaken _ (λ (place : ℕ) (given : Result SlotPart Memory). IfOk given (IsPart values place))
    (λ place given h. (rw c.map.ensures.f at h)) done.1.0 done.0 done.1.2 in
    let are = subst (λ (l : List ℕ). AllZip (λ (place : ℕ) (given : Result SlotPart Memory). IfOk given (IsPart values place)) l done.0) places each in
    made_all (IsPart values) (range_with_len 0 (part_count values)) done.0 c.in_ok-collect.field-0 are done.2
