-- What a source still gives, and what one call of it does.
use Rattle.std.specs.Prelude.{◌≡◌, ℕ, ◌<◌, ◌≤◌, Bool, true, false, List, [], length, take, drop}

-- What a source gives from here on: these bytes, and then its end or, where it fails, a failure in the end's place.
pub record Stream : Type 0 where
  pub bytes : List ℕ
  pub fails : Bool

-- these bytes, and then the end
abbrev pub whole : List ℕ → Stream
whole bytes = record { bytes = bytes; fails = false }

-- these bytes, and then a failure
abbrev pub broken : List ℕ → Stream
broken bytes = record { bytes = bytes; fails = true }

-- what the stream gives after so many of its bytes
abbrev pub after : ℕ → Stream → Stream
after count stream = record { bytes = drop count stream.bytes; fails = stream.fails }

-- The first of the room are the stream's first bytes, so many; none of them only at the stream's end, or where there
-- is no room.
pub record GivesFirst (stream : Stream) (count : ℕ) (room : List ℕ) : Type 0 where
  pub within : count ≤ length stream.bytes
  pub same : take count room ≡ take count stream.bytes
  pub end : count ≡ 0 → 0 < length room → stream ≡ whole []

-- The front of the room is the front of the stream, so many bytes; where there is more room, they are all up to the
-- stream's end.
pub record Fills (stream : Stream) (count : ℕ) (room : List ℕ) : Type 0 where
  pub within : count ≤ length stream.bytes
  pub same : take count room ≡ take count stream.bytes
  pub end : count < length room → stream ≡ whole (take count room)
