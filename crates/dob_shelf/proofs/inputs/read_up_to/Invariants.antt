-- What was read so far is the front of the stream, and the source gives what is behind it.
use Rattle.std.proofs.Common.{◌≡◌, ◌-◌, ◌^◌, length, take, vec_len}
use Rattle.dob_device.specs.Devices.{Stream, after}
use Rattle.dob_shelf.proofs.inputs.read_up_to.Given as goal

abbrev pub invariant-loop-room : goal.invariant-loop-room
invariant-loop-room g l =
    ((stream : Stream) → g.R.Source.gives l.fn.source stream → (l.bytes.items ≡ take (length l.bytes.items) stream.bytes)
    × g.R.Source.gives l.source (after (length l.bytes.items) stream))
    × (g.R.Source.has_failed l.source ≡ g.R.Source.has_failed l.fn.source)

abbrev pub decreases-loop-room : goal.decreases-loop-room
decreases-loop-room g l = 2 ^ 63 - vec_len l.bytes
