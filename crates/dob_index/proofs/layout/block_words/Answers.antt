-- Nine runs of a block have entries, each as many.
use Rattle.dob_index.proofs.Common.{arith, lion_pairs}
use Rattle.dob_index.proofs.Places.{block_few, nine_mixed}
use Rattle.dob_index.proofs.layout.block_words.Goals as goal

pub returns : goal.returns
returns c = omega (arith, nine_mixed c.args.set c.args.block, c.entries_in.ensures)

pub overflow_mul-result : goal.overflow_mul-result
overflow_mul-result c =
    omega (arith, nine_mixed c.args.set c.args.block, c.entries_in.ensures, block_few c.args.set c.args.block lion_pairs c.requires (omega arith))
