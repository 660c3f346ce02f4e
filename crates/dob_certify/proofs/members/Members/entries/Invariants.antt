-- Each entry so far says what the table does.
use Rattle.std.specs.Prelude.{All}
use Rattle.dob_certify.specs.Lists.{IsByTable}
use Rattle.dob_certify.proofs.members.Members.entries.Given as goal

abbrev pub invariant-loop-class : goal.invariant-loop-class
invariant-loop-class l = All (IsByTable l.table l.kind) l.entries.items
