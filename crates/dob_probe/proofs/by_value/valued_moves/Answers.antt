-- By a consistent table the moves have the right values.
use Rattle.dob_probe.proofs.Common.{consistent_is_right}
use Rattle.dob_probe.proofs.ByValue.{valued_rightly}
use Rattle.dob_probe.proofs.by_value.valued_moves.Goals as goal

pub returns-clause-right : goal.returns-clause-right
returns-clause-right c = λ consistent.
    let table = c.args.table.now in
    valued_rightly table (consistent_is_right table.family table.values consistent) c.args.position.now.setup
    (rw c.family.ensures.family at c.in_ok-check_member.ensures.member) c.in_ok-moves_of_set.field-0.items c.in_ok-moves_of_set.ensures
