-- Each hand has as many classes as the first one.
use Rattle.dob_classes.proofs.Common.{◌%◌, ◌*◌, ◌+◌, ◌-◌, ◌/◌, ◌<◌, ◌≤◌, arith, lion_pairs, mod_below, refl, ℕ, digits_of, product, block_bases}
use Rattle.dob_classes.proofs.Common.{classes_to_block, BlockClasses}
use Rattle.dob_rank.proofs.InRuns.RunPlaces.{runs_few}
use Rattle.dob_rank.proofs.InRuns.RunSums.{runs_by_hand}
use Rattle.dob_rank.proofs.Positions.Blocks.{hand_bases}
use Rattle.dob_classes.proofs.Counting.RunOfClass.{IsRunOf, run_of_class, some}
use Rattle.dob_classes.proofs.Tables.FamilyBlocks.{new_block}
use Rattle.dob_classes.proofs.block_classes.BlockClasses.run_at.Goals as goal
use Rattle.dob_classes.proofs.block_classes.BlockClasses.run_at.Goals.{After-before_lions-before}

abbrev hands : BlockClasses → ℕ
hands block = product (hand_bases block.family.set (digits_of (block_bases block.family.set) block.number))

inside : (block : BlockClasses) (class : ℕ) → class < block.after → class < classes_to_block block.family (block.number + 1)
inside block class high = (let end = (new_block block.family block.number block refl refl).after_is in omega (arith, end, high))

positive : (block : BlockClasses) (class : ℕ) → block.before ≤ class → class < block.after → 0 < block.hand
positive block class low high =
    some block.family block.number (hands block) block.before block.hand class block.within (runs_by_hand block.family.set block.number) block.starts
    block.hands low (inside block class high)

pub nonzero_rem-of_hand : goal.nonzero_rem-of_hand
nonzero_rem-of_hand c = positive c.args.self.now c.args.class c.requires.low c.requires.high

pub nonzero_div-result : goal.nonzero_div-result
nonzero_div-result c = positive c.args.self.now c.args.class c.requires.low c.requires.high

pub lions_at-lions-requires : goal.lions_at-lions-requires
lions_at-lions-requires c =
    let block = c.args.self.now in
    mod_below (c.args.class - block.before) block.hand (positive block c.args.class c.requires.low c.requires.high)

found : (c : After-before_lions-before) → let block = c.args.self.now in
    IsRunOf block.family block.number ((c.args.class - block.before) / block.hand * lion_pairs + c.lions_at-lions.result)
    ((c.args.class - block.before) % block.hand - c.before_lions-before.result) c.args.class
found c =
    let block = c.args.self.now in
    let lions = c.lions_at-lions.ensures in
    run_of_class block.family block.number (hands block) block.before block.hand c.args.class block.within (runs_by_hand block.family.set block.number)
    block.starts block.hands c.requires.low (inside block c.args.class c.requires.high) c.lions_at-lions.result c.before_lions-before.result
    lions.lions (omega (arith, c.before_lions-before.ensures, block.starts)) lions.low lions.high

pub overflow_mul-result : goal.overflow_mul-result
overflow_mul-result c =
    let block = c.args.self.now in
    omega (arith, (found (goal.at.overflow_mul-result c).After-before_lions-before).run_below, runs_few block.family.set block.number block.within)

pub overflow_add-result : goal.overflow_add-result
overflow_add-result c =
    let block = c.args.self.now in
    omega (arith, (found (goal.at.overflow_add-result c).After-before_lions-before).run_below, runs_few block.family.set block.number block.within)

pub returns : goal.returns
returns c =
    let at = found (goal.at.returns c).After-before_lions-before in
    record { run = at.run_below; left = at.left_is; high = at.high }
