-- What the devices in memory give and hold.
use Rattle.std.specs.Prelude.{ℕ, ◌-◌, nat_lt, if◌then◌else◌, length, min, take, drop}
use Rattle.dob_device.specs.Devices.{Stream, broken}
use Rattle.dob_device.specs.declared.mem_sink.MemSink.{MemSink}
use Rattle.dob_device.specs.declared.mem_source.MemSource.{MemSource}

-- how many bytes of a piece the sink takes: the whole piece, but no more than it takes at once, and no more than it has room for
abbrev pub longest_piece : MemSink → ℕ → ℕ
longest_piece sink wanted = min wanted (min sink.longest sink.room)

-- how many bytes the source puts into so much room: what it still has, but no more than it gives at once
abbrev pub longest_read : MemSource → ℕ → ℕ
longest_read source room = min (length source.bytes.items - source.start) (min source.longest room)

-- what the source gives from here on
abbrev pub stream_of : MemSource → Stream
stream_of source = record { bytes = drop source.start source.bytes.items; fails = source.fails }

-- what it has from its first byte on
abbrev pub all_of : MemSource → Stream
all_of source = record { bytes = source.bytes.items; fails = source.fails }

-- the stream that fails after so many bytes, where it has so many
abbrev pub cut : ℕ → Stream → Stream
cut count stream = if nat_lt (length stream.bytes) count then stream else broken (take count stream.bytes)
