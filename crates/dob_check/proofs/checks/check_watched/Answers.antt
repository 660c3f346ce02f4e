-- The verdicts of the parts in order, and the first fault among them.
use Rattle.dob_check.proofs.Common.{◌-◌, ◌<◌, ◌∙◌, ◌≡◌, List, ap, arith, subst, sym, ℕ, AllZip, range_with_len, AllZip-weaken, nat_range-All, nat_range}
use Rattle.dob_check.proofs.Common.{Verdict, answered, IsPlace, IsToldIn, part_count}
use Rattle.dob_check.proofs.Places.{part_begins, placed}
use Rattle.dob_check.proofs.Found.{IsFirstFault, IsPartVerdict, PartFollows, each_has, first_found, table_answered}
use Rattle.dob_check.proofs.checks.check_watched.Goals as goal

pub find_first-first_fault-requires-clause-items : goal.find_first-first_fault-requires-clause-items
find_first-first_fault-requires-clause-items g c = λ κs lives.
    let ends = c.into_par_iter.ensures in
    let values = c.args.table.now.values in
    let inside = nat_range-All (λ place. IsPlace values place) 0 c.part_count.result
    (λ place low high. record { begins = part_begins values place (subst (λ (n : ℕ). place < n) c.part_count.ensures high) }) in
    rw (c.map.ensures.base, c.map.ensures.f, c.with_min_len.ensures.base, ends.0, ends.1) (λ k d lt. (inside k d lt, λ y e b same. tt))

-- the verdict of each part, and what was told of it
abbrev pub Says : (g : _) (c : goal.After-unwrap_or g) → ℕ → Verdict → Type 0
Says g c place v = IsPartVerdict c.args.table.now place v × IsToldIn (g.W.Watch.told c.args.watch.now) c.args.table.now.values place

all_say : (g : _) (c : goal.After-unwrap_or g) → AllZip (Says g c) (range_with_len 0 (part_count c.args.table.now.values)) c.find_first-first_fault.ensures.0
all_say g c =
    let done = c.find_first-first_fault.ensures in
    let ends = c.into_par_iter.ensures in
    let none : c.part_count.result - 0 ≡ c.part_count.result = omega arith in
    let chain = rw (c.map.ensures.base, c.map.ensures.f, c.with_min_len.ensures.base) at done.2 in
    let places = chain.1 ∙ (λ i. nat_range (ends.0 i) (ends.1 i)) ∙ ap (range_with_len 0) (none ∙ c.part_count.ensures) in
    subst (λ (places : List ℕ). AllZip (Says g c) places done.0) places (AllZip-weaken _ (Says g c) (λ place verdict h. (h.0, h.1)) chain.0 done.0 chain.2)

-- what was found
found_is : (g : _) (c : goal.After-unwrap_or g) → IsFirstFault c.args.table.now c.find_first-first_fault.result
found_is g c =
    let table = c.args.table.now in
    let done = c.find_first-first_fault.ensures in
    let verdicts = AllZip-weaken _ (IsPartVerdict table) (λ place verdict h. h.0) (range_with_len 0 (part_count table.values)) done.0 (all_say g c) in
    subst (IsFirstFault table) (sym done.4)
    (first_found (PartFollows table) (IsPartVerdict table) (λ place x is. is) 0 (part_count table.values) done.0 done.1 verdicts done.3)

pub returns : goal.returns
returns g c =
    let table = c.args.table.now in
    let verdict = table_answered table c.find_first-first_fault.result c.unwrap_or.result c.unwrap_or.ensures (found_is g c) in
    let answer = answered table c.unwrap_or.result c.family-family.ensures.table verdict in record {
      consistent = answer.consistent;
      right = answer.right;
      fault = answer.fault;
      passed = answer.passed;
      told = λ class within.
          let at = placed table.values class within in
          let found = c.find_first-first_fault.ensures.0 in
          each_has (IsToldIn (g.W.Watch.told c.args.watch.now) table.values) 0 (part_count table.values) found
          (AllZip-weaken _ _ (λ place verdict h. h.1) (range_with_len 0 (part_count table.values)) found (all_say g c)) at.0 (omega arith)
          (omega (arith, at.1)) class at.2 at.3;
    }
