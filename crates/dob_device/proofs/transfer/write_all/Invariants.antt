-- As many first bytes as are done have gone into the same sink, unflushed and unfailed; fewer are left each time.
use Rattle.dob_device.proofs.Common.{◌-◌, ◌≤◌, length, take, IsNotFlushed, IsSame, SinkWorks, TakesPiece, change}
use Rattle.dob_device.proofs.transfer.write_all.Given as goal

-- so many bytes have gone in, and nothing has failed or been flushed
abbrev pub invariant-loop-done : goal.invariant-loop-done
invariant-loop-done g l =
    (l.done ≤ length l.bytes)
    × TakesPiece (change (g.W.Sink.state l.initial.sink) (g.W.Sink.state l.sink)) (take l.done l.bytes)
    × IsNotFlushed (change (g.W.Sink.state l.initial.sink) (g.W.Sink.state l.sink))
    × SinkWorks (change (g.W.Sink.state l.initial.sink) (g.W.Sink.state l.sink))
    × IsSame (change (g.W.Sink.state l.initial.sink) (g.W.Sink.state l.sink))

abbrev pub decreases-loop-done : goal.decreases-loop-done
decreases-loop-done g l = length l.bytes - l.done
