-- The first digit in which the image differs decides for all places that have the same digits up to there.
use Rattle.dob_classes.proofs.Common.{◌*◌, ◌+◌, ◌/◌, ◌<◌, ap, arith, leb, refl, subst, sym, ℕ, div-le_self, All, run_size-small, product}
use Rattle.dob_classes.proofs.MarksOfRuns.MixedRuns.{IsStretchFrom, stretch_told, local_bases-positive, run_size-bases}
use Rattle.dob_classes.proofs.stretches.stretch_from.Goals as goal
use Rattle.dob_classes.proofs.stretches.stretch_from.Goals.{After-width_of-width}

pub width_of-width-requires : goal.width_of-width-requires
width_of-width-requires c =
    let small = run_size-small c.args.set c.args.block c.requires.block in
    let size = run_size-bases c.args.set c.args.block in
    let same = ap product c.requires.shape.bases_are in
    record {
      positive = subst (All (λ (b : ℕ). 0 < b)) (sym c.requires.shape.bases_are) (local_bases-positive c.args.set c.args.block c.requires.block);
      fits = omega (arith, small, size, same);
    }

told : (c : After-width_of-width) → IsStretchFrom c.args.set c.args.block c.args.run c.args.local
    ((c.args.local / c.width_of-width.result + 1) * c.width_of-width.result) (leb c.args.local c.image_place-other.result)
told c =
    let at = c.image_place-other.ensures in
    stretch_told c.args.set c.args.block c.args.run c.args.local c.image_place-other.result c.width_of-width.result c.args.shape.now.bases at.0 _
    (record { block_below = c.requires.block; run_below = c.requires.run; local_below = c.requires.local })
    c.requires.kind at.1.0 refl at.1.1 c.requires.shape.bases_are c.width_of-width.ensures

pub overflow_add-result : goal.overflow_add-result
overflow_add-result c =
    omega (arith, div-le_self c.args.local c.width_of-width.result, run_size-small c.args.set c.args.block c.requires.block, c.requires.local)

pub overflow_mul-result : goal.overflow_mul-result
overflow_mul-result c =
    omega (arith, (told (goal.at.overflow_mul-result c).After-width_of-width).within, run_size-small c.args.set c.args.block c.requires.block)

pub returns : goal.returns
returns c = (let at = told (goal.at.returns c).After-width_of-width in record { some = at.some; within = at.within; marks = at.marks })
