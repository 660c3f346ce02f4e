-- The room filled so far has the stream's next bytes.
use Rattle.dob_device.proofs.Common.{◌-◌, ◌≡◌, ◌≤◌, length, take, Stream, after}
use Rattle.dob_device.proofs.transfer.read_full.Given as goal

-- the front of the room is the front of the stream, and nothing has failed
abbrev pub invariant-loop-done : goal.invariant-loop-done
invariant-loop-done g l =
    (l.done ≤ length l.room)
    × (g.R.Source.has_failed l.source ≡ g.R.Source.has_failed l.initial.source)
    × ((stream : Stream) → g.R.Source.shows l.initial.source stream → g.R.Source.shows l.source stream)
    × ((stream : Stream) → g.R.Source.gives l.initial.source stream →
    (l.done ≤ length stream.bytes) × (take l.done l.room ≡ take l.done stream.bytes) × g.R.Source.gives l.source (after l.done stream))

abbrev pub decreases-loop-done : goal.decreases-loop-done
decreases-loop-done g l = length l.room - l.done
