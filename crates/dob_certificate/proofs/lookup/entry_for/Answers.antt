-- A position has one class, and a class one entry at most.
use Rattle.dob_certificate.proofs.Orders.{none_for, alone_for}
use Rattle.dob_certificate.proofs.lookup.entry_for.Goals as goal

pub returns-clause-none : goal.returns-clause-none
returns-clause-none c = none_for _ c.args.entries.now _ _ c.class_of.ensures.class c.find.result c.find.ensures.none

pub returns-clause-alone : goal.returns-clause-alone
returns-clause-alone c = alone_for _ c.args.entries.now _ _ c.class_of.ensures.class c.find.result c.find.ensures.alone
