-- Its board shows the position.
use Rattle.dob_value.proofs.table.Table.value_of.Goals as goal

pub value_on-requires : goal.value_on-requires
value_on-requires c = rw c.of.ensures c.requires

pub returns : goal.returns
returns c = rw c.of.ensures at c.value_on.ensures
