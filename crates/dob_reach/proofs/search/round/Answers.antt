-- Some parts more each time, and then all of them.
use Rattle.dob_reach.proofs.Common.{◌++◌, ◌+◌, ◌-◌, ◌≡◌, ◌≤◌, AreExpanded, List, FrontierPart, ap, arith, length, opens_of, outcomes_of, parts_before, subst, sym, ℕ}
use Rattle.dob_reach.proofs.Stepping.{all_parts, opens_fit, parts_expanded, parts_have_bits, round_met, expanded_kept}
use Rattle.dob_reach.proofs.search.round.Goals.{After-deref}
use Rattle.dob_reach.proofs.search.round.Goals as goal

-- what is found so far, and in the window
found_are : (g : _) (c : After-deref g) → AreExpanded c.args.classes.now.family c.windows.marks.words.items
    (parts_before c.args.front.now (c.windows.first + c.min.result)) (c.windows.invariant.0 ++ outcomes_of c.in_ok-found.found.items)
    (c.windows.opens + opens_of c.in_ok-found.found.items)
found_are g c =
    let size : c.windows.first + c.min.result - c.windows.first ≡ c.min.result = omega arith in
    parts_expanded c.args.classes.now.family c.windows.marks.words.items c.args.front.now c.windows.first c.min.result c.windows.invariant.0 c.windows.opens
    c.in_ok-found.found.items c.windows.invariant.2 (rw size at c.in_ok-found.ensures)

opens_are : (g : _) (c : After-deref g) → c.windows.opens + opens_of c.deref.result.now ≤ length c.args.front.now
opens_are g c = omega (arith, opens_fit c.args.front.now _ (found_are g c), ap opens_of c.deref.ensures.value)

pub opens_of-opens-requires : goal.opens_of-opens-requires
opens_of-opens-requires g c = (let fit = opens_are g (goal.at.opens_of-opens-requires g c).After-deref in omega (arith, fit))

pub overflow_add-opens : goal.overflow_add-opens
overflow_add-opens g c = (let fit = opens_are g (goal.at.overflow_add-opens g c).After-deref in omega (arith, fit, c.opens_of-opens.ensures))

pub mark_parts-requires : goal.mark_parts-requires
mark_parts-requires g c = rw c.deref-in-windows.ensures.value (parts_have_bits c.windows.invariant.0 (outcomes_of c.in_ok-found.found.items)
    (found_are g (goal.at.mark_parts-requires g c).After-deref) (omega (arith, c.windows.invariant.1.keeps.long, c.requires.bits)))

pub windows-preserved : goal.windows-preserved
windows-preserved g c =
    let family = c.args.classes.now.family in
    let new = c.mark_parts.new.marks.words.items in
    let done : List ℕ = c.windows.invariant.0 in
    let opens : ℕ = c.windows.opens in
    let found = c.in_ok-found.found.items in
    let before = parts_before c.args.front.now (c.windows.first + c.min.result) in
    let all = c.deref-in-windows.ensures.value in
    let count : opens + opens_of found ≡ opens + c.opens_of-opens.result = (let same = ap opens_of c.deref.ensures.value in omega (arith, same, c.opens_of-opens.ensures)) in (
      done ++ outcomes_of c.deref-in-windows.result.now,
      c.in_ok-mark_parts.ensures.marked c.args.marks.now.words.items done c.windows.invariant.1,
      subst (λ (n : ℕ). AreExpanded family new before (done ++ outcomes_of c.deref-in-windows.result.now) n) count
          (subst (λ (parts : List FrontierPart). AreExpanded family new before (done ++ outcomes_of parts) (opens + opens_of found)) (sym all)
          (expanded_kept (found_are g (goal.at.windows-preserved g c).After-deref) c.in_ok-mark_parts.ensures.keeps)),
    )

pub returns-clause-met : goal.returns-clause-met
returns-clause-met g c =
    let all = all_parts c.args.front.now c.windows.first (omega (arith, c.windows-test.false, c.part_count-parts.ensures)) in
    round_met (rw all at c.windows.invariant.2) c.windows.invariant.1
