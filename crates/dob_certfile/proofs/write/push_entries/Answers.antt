-- One entry more.
use Rattle.dob_certfile.proofs.Common.{◌++◌, entries_bytes}
use Rattle.dob_certfile.proofs.Lists.{written_more, written_all}
use Rattle.dob_certfile.proofs.write.push_entries.Goals as goal

pub loop-entry-preserved : goal.loop-entry-preserved
loop-entry-preserved c =
    written_more c.args.entries.now c.loop-entry.entry-index c.loop-entry.least _ c.loop-entry.bytes.items c.push_entry.new.bytes.items (c.args.bytes.now.items ++ entries_bytes 0 c.args.entries.now)
    c.loop-entry-test.true c.requires c.in_ok-push_entry.ensures c.loop-entry.invariant

pub returns : goal.returns
returns c = written_all c.args.entries.now c.loop-entry.entry-index c.loop-entry.least c.loop-entry.bytes.items (c.args.bytes.now.items ++ entries_bytes 0 c.args.entries.now) c.loop-entry-test.false c.loop-entry.invariant
