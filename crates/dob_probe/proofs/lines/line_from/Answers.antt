-- A table has one value for each position of its family.
use Rattle.dob_probe.proofs.Entries.{one_given}
use Rattle.dob_probe.proofs.Ways.{fault_of_line}
use Rattle.dob_probe.proofs.lines.line_from.Goals as goal

pub line_by-requires-clause-single : goal.line_by-requires-clause-single
line_by-requires-clause-single c = λ held. rw c.classes.ensures.family (one_given c.args.table.now)

pub line_by-requires-clause-member : goal.line_by-requires-clause-member
line_by-requires-clause-member c = rw c.classes.ensures.family c.requires.member

pub returns-in-Ok-clause-line : goal.returns-in-Ok-clause-line
returns-in-Ok-clause-line c = rw c.classes.ensures.family at (c.in-Ok.ensures.line tt tt c.requires.value)

pub returns-in-Err-clause-fault : goal.returns-in-Err-clause-fault
returns-in-Err-clause-fault c =
    rw c.fault_of.ensures (fault_of_line c.args.table.now c.args.position.setup c.in-Err.gap c.requires.member
    (rw c.classes.ensures.family at (c.in-Err.ensures.fault tt tt c.requires.value)))
