-- Past the last block no rank is left.
use Rattle.dob_rank.proofs.Common.{arith, sym, is_present}
use Rattle.dob_rank.proofs.Marked.Words.{marks_below_none}
use Rattle.dob_rank.proofs.OfFamilies.Present.{none_beyond}
use Rattle.dob_rank.proofs.starts.find_block.Goals as goal

pub loop-block-init : goal.loop-block-init
loop-block-init c = record { start_is = sym (marks_below_none (is_present c.args.family)); upto = omega arith }

pub returns : goal.returns
returns c =
    absurd (none_beyond c.args.family c.args.rank c.loop-block.start c.loop-block.block _ c.requires c.blocks-blocks.ensures.value c.loop-block-test.false
    c.loop-block.auto.block-end c.loop-block.invariant.start_is c.loop-block.invariant.upto)
