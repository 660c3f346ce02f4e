-- What a step of a walk passes, and that a walk counts few.
use Rattle.dob_classes.proofs.Common.{◌<◌, ◌^◌, ◌∙◌, ◌≡◌, ◌≤◌, Bool, arith, min, ℕ, run_size-small, marks_below-le, marks_below_none, marks_below, run_size}
use Rattle.dob_classes.proofs.Common.{is_there, local_marks, IsStretchIn, IsWalk, marks_before}
use Rattle.dob_classes.specs.declared.class_walks.MixedRun.{MixedRun}
use Rattle.dob_classes.specs.declared.class_walks.StretchCursor.{StretchCursor}
use Rattle.dob_classes.proofs.MarksOfRuns.FamilyMarks.{stretch_in}

-- the positions up to where a stretch ends, or to a place before that
pub passed : (run : MixedRun) (walk : StretchCursor) (place end upto next : ℕ) (on : Bool) → IsWalk run walk → walk.place < place
    → place ≤ run_size run.family.set run.block → walk.place < end → upto ≡ min end place → next ≡ marks_below (is_there run.family run.block run.run) upto
    → ((k : ℕ) → walk.place ≤ k → k < end → local_marks run.family.set run.block run.run k ≡ on)
    → IsStretchIn run.family run.block run.run walk.number next on
passed run walk place end upto next on is low within some upto_is next_is same =
    stretch_in run.family run.block run.run run.within run.there walk.place upto walk.number next on (omega (arith, upto_is, within)) is.number_is next_is
    (omega (arith, upto_is, low, some)) (λ k a b. same k a (omega (arith, b, upto_is)))

pub walked_few : (run : MixedRun) (walk : StretchCursor) → IsWalk run walk → marks_before run walk.number ≤ 2 ^ 36
walked_few run walk is = grind (arith, marks_below-le, run_size-small)

-- a walk from the run's first place
pub walk_starts : (run : MixedRun) (walk : StretchCursor) → IsWalk run walk → walk.place ≡ 0 → walk.number ≡ 0
walk_starts run walk is first =
    rw first at is.number_is ∙ marks_below_none (is_there run.family run.block run.run)
