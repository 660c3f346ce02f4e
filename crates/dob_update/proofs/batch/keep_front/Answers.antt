-- All parts in front are kept where no item is left or no part.
use Rattle.std.proofs.Common.{arith, ◌∙◌}
use Rattle.dob_update.proofs.PartLists.{keeping_done, keeping_all}
use Rattle.dob_update.proofs.batch.keep_front.Goals as goal
use Rattle.dob_update.proofs.batch.keep_front.Goals.{then-loop-rest-test+else-index-len, else-loop-rest-test}

pub returns : goal.returns
returns c =
    c.truncate.ensures.items
    ∙ elim c.loop-rest-test.branch [
      | then-loop-rest-test+else-index-len w ↦ keeping_all c.args.k c.loop-rest.rest c.loop-rest.index c.args.parts.now.items c.loop-rest.parts.items (omega (arith, w.len.ensures, w.if-index-len.false)) c.loop-rest.invariant
      | else-loop-rest-test w ↦ keeping_done c.args.k c.loop-rest.rest c.loop-rest.index c.args.parts.now.items c.loop-rest.parts.items (omega (arith, w.loop-rest-test.false)) c.loop-rest.invariant
    ]
