-- The file's fault is the first that holds, and not its digest's.
use Rattle.dobutsu_c.proofs.by_index.fault_of.Goals as goal

pub returns-in-Err : goal.returns-in-Err
returns-in-Err c = (c.held_family.ensures.fault c.in-Err.fault).0 c.in-Err.is
