-- The first line.
use Rattle.std.proofs.Common.{◌+◌}
use Rattle.std.proofs.lemmas.List.{take_rest}
use Rattle.dob_shelf.proofs.FirstLine.{line_found, line_last}
use Rattle.dob_shelf.proofs.input_lines.first_line.Goals as goal

pub returns-in-Some-clause-line : goal.returns-in-Some-clause-line
returns-in-Some-clause-line c = rw c.without_return.ensures (line_found c.args.bytes.now _ c.in-Some.end c.in-Some.ensures (take_rest c.args.bytes.now (c.in-Some.end + 1)))

pub returns-in-None-clause-line : goal.returns-in-None-clause-line
returns-in-None-clause-line c = line_last c.args.bytes.now c.in-None.ensures c.if-is_empty.ensures
