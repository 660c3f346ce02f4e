-- How many representatives stand before a place of a run: the same for each hand, and by a walk.
use Rattle.dob_index.proofs.Common.{◌%◌, ◌+◌, ◌<◌, ◌∙◌, ◌≡◌, ◌≤◌, ap, arith, refl, ℕ, Family, marks_below-upto, marks_below, block_bases, product, lion_pairs}
use Rattle.dob_index.proofs.Common.{run_kind, run_size, runs_in, Mixed, in_run_before, classes_to_place, classes_to_run, is_there, local_marks_in, IsWalk}
use Rattle.dob_index.proofs.Common.{marks_before, MixedRun, StretchCursor}
use Rattle.dob_classes.proofs.MarksOfRuns.FamilyMarks.{lower_run, size_by_lions, alike_by_lions}

-- ---- by a walk

-- those before the run and those before the place at which the walk stands
pub walked : (run : MixedRun) (walk : StretchCursor) (place : ℕ) → IsWalk run walk → walk.place ≡ place
    → classes_to_run run.family run.block run.run + marks_before run walk.number ≡ classes_to_place run.family run.block run.run place
walked run walk place is stands =
    in_run_before run.family run.block run.run walk.place (marks_before run walk.number) run.within run.there is.upto (ap (marks_before run) is.number_is)
    ∙ ap (classes_to_place run.family run.block run.run) stands

-- ---- by the lions

-- as many of a run as of the first hand's run of its lions
pub by_lions : (family : Family) (block run place marks : ℕ) → block < product (block_bases family.set) → run < runs_in family.set block
    → place < run_size family.set block → run_kind (run % lion_pairs) ≡ Mixed
    → classes_to_run family block (run % lion_pairs) + marks ≡ classes_to_place family block (run % lion_pairs) place
    → classes_to_run family block run + marks ≡ classes_to_place family block run place
by_lions family block run place marks within below low kind first =
    let upto : place ≤ run_size family.set block = omega (arith, low) in
    let of_first = in_run_before family block (run % lion_pairs) place
    (marks_below (local_marks_in family block (run % lion_pairs)) (marks_below (is_there family block (run % lion_pairs)) place))
    within (lower_run run (runs_in family.set block) below) upto refl in
    let same : marks ≡ marks_below (local_marks_in family block (run % lion_pairs)) (marks_below (is_there family block (run % lion_pairs)) place)
    = omega (arith, first, of_first) in
    in_run_before family block run place marks within below upto
    (same ∙ ap (marks_below (local_marks_in family block (run % lion_pairs))) (size_by_lions family block run within below place upto)
    ∙ (alike_by_lions family block run within below kind).before_is (marks_below (is_there family block run) place)
    (marks_below-upto (is_there family block run) place (run_size family.set block) upto))
