-- Before the first that is worse the list stays sorted, and has one move more.
use Rattle.dob_probe.proofs.ByValue.{insert_has, insert_sorted}
use Rattle.dob_probe.proofs.by_value.insert_by_value.Goals as goal

pub returns-clause-ordered : goal.returns-clause-ordered
returns-clause-ordered c =
    let place = rw c.deref.ensures.value at c.index_for-index.ensures in
    rw c.in_ok-insert.ensures.items (insert_sorted c.args.list.now.items c.index_for-index.result c.args.more place.within c.requires.ordered c.requires.later
    place.before place.first)

pub returns-clause-items : goal.returns-clause-items
returns-clause-items c = λ other.
    let place = rw c.deref.ensures.value at c.index_for-index.ensures in
    rw c.in_ok-insert.ensures.items (insert_has c.args.list.now.items c.index_for-index.result c.args.more place.within other)
