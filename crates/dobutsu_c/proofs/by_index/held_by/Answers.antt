-- What is held by an index's numbers.
use Rattle.dobutsu_c.proofs.by_index.held_by.Goals as goal

pub returns-in-Index : goal.returns-in-Index
returns-in-Index c = rw c.in-Index.is c.held_with.ensures
