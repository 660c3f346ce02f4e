-- All that is held is one piece.
use Rattle.std.proofs.Common.{string_bytes}
use Rattle.dob_files.proofs.EachLine.{put_one}
use Rattle.dob_files.proofs.talk.LineAnswers.tell.Goals as goal

pub returns-in-Ok-clause-done : goal.returns-in-Ok-clause-done
returns-in-Ok-clause-done g c =
    put_one (g.O.Sink.state c.args.out.now) (g.O.Sink.state c.put_all-told.new.sink) (string_bytes c.args.self.now.lines)
    (rw c.as_bytes.ensures.value at c.in-Ok.ensures.done)
