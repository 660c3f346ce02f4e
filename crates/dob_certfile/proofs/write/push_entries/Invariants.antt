-- What was written and what is left are the whole.
use Rattle.dob_certfile.proofs.Common.{◌++◌, entries_bytes}
use Rattle.dob_certfile.proofs.Lists.{AreWritten}
use Rattle.dob_certfile.proofs.write.push_entries.Given as goal

abbrev pub invariant-loop-entry : goal.invariant-loop-entry
invariant-loop-entry l = AreWritten l.entries l.entry-index l.least l.bytes.items (l.fn.bytes.items ++ entries_bytes 0 l.entries)
