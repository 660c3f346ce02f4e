-- The square is cleared, and the hand has one more.
use Rattle.dob_unmove.proofs.BitUndone.{drop_undone}
use Rattle.dob_unmove.proofs.bits_before.bits_before_put.Goals as goal

pub returns : goal.returns
returns c = λ after can twelve are.
    drop_undone after c.args.kind c.args.to twelve can c.args.board _ _ are c.without.ensures c.with_one_more.ensures
