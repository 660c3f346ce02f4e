-- The slice is the list.
use Rattle.dob_certificate.proofs.entries.Entries.find.Goals as goal

pub returns-clause-none : goal.returns-clause-none
returns-clause-none c = rw c.as_slice.ensures.entries at c.find_in.ensures.none

pub returns-clause-alone : goal.returns-clause-alone
returns-clause-alone c = rw c.as_slice.ensures.entries at c.find_in.ensures.alone
