-- some senders have ended, and the others are left
use Rattle.std.specs.Vec.Iter.{into_iter_items}
use Rattle.dob_chan.proofs.Rejoinings.{IsEnding}
use Rattle.dob_chan.proofs.rejoins.end_all.Given as goal

abbrev pub invariant-loop-send : goal.invariant-loop-send
invariant-loop-send l = IsEnding l.fn.sends.items (into_iter_items l.send-iterator) l.initial.pass l.pass
