-- A piece more goes in after the first bytes; where the sink fails, it has just the bytes that went in before.
use Rattle.dob_device.proofs.Common.{◌∙◌, arith, length-drop, take_rest}
use Rattle.std.proofs.KnownBytes.{Keeps-trans}
use Rattle.dob_device.proofs.Sinks.{Appends-take, stops_after, works_on}
use Rattle.dob_device.proofs.transfer.write_all.Goals as goal

pub loop-done-preserved : goal.loop-done-preserved
loop-done-preserved g c =
    let bytes = c.args.bytes.now in
    let done = c.loop-done.done in
    let bound = rw (take_rest bytes done) at c.in-Ok.ensures.within in
    let more = rw (take_rest bytes done) at c.in-Ok.ensures.bytes in (
      omega (arith, bound, length-drop done bytes),
      Appends-take _ _ _ bytes done c.in-Ok.count c.loop-done.invariant.1 more,
      Keeps-trans _ _ _ c.loop-done.invariant.2 c.in-Ok.ensures.flushes,
      works_on (g.W.Sink.state c.args.sink.now) (g.W.Sink.state c.loop-done.sink)
          (g.W.Sink.state c.write.new.self) c.loop-done.invariant.3 c.in-Ok.ensures.failed,
      c.in-Ok.ensures.same ∙ c.loop-done.invariant.4,
    )

pub returns-in-Err-clause-part : goal.returns-in-Err-clause-part
returns-in-Err-clause-part g c =
    stops_after (g.W.Sink.state c.args.sink.now) (g.W.Sink.state c.loop-done.sink) (g.W.Sink.state c.write.new.self) c.args.bytes.now c.loop-done.done
    c.loop-done.invariant.0 c.loop-done.invariant.1 c.loop-done.invariant.2 c.loop-done.invariant.4
    c.in-Err.ensures.bytes c.in-Err.ensures.flushes c.in-Err.ensures.same c.in-Err.ensures.failed
