-- The stream ends or fails after so many bytes.
use Rattle.std.proofs.Common.{arith}
use Rattle.dob_device.proofs.Streams.{cut-front}
use Rattle.dob_device.proofs.mem_source.MemSource.failing_after.Goals as goal

pub returns-clause-stream : goal.returns-clause-stream
returns-clause-stream c = rw c.truncate.ensures.items (cut-front c.args.count c.args.self.start c.args.self.bytes.items c.args.self.fails (omega arith))
