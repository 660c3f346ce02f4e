-- What is known of a sink, and how calls change it.
use Rattle.std.specs.Prelude.{◌≡◌, ◌≤◌, ◌⊎◌, ℕ, Bool, true, List, [], ◌∷◌, Option, Some, take, length}
use Rattle.std.specs.Io.KnownBytes.{Appends, Keeps, append_known}

-- what is known of a sink
pub record SinkState : Type 0 where
  -- the bytes that it has received, where they are known
  pub received : Option (List ℕ)
  -- after how many bytes it was flushed, each time, where that is known
  pub flushes : Option (List ℕ)
  -- whether some call of it has failed
  pub has_failed : Bool
  -- the reference to the writer that it was lent, where it was lent one
  pub writer : Option ℕ

-- what was there, and what is there after
pub record Change : Type 0 where
  pub before : SinkState
  pub after : SinkState

abbrev pub change : SinkState → SinkState → Change
change before after = record { before = before; after = after }

-- nothing happened to it
abbrev pub IsUntouched : Change → Type 0
IsUntouched c = c.after ≡ c.before

-- it writes to the writer that it wrote to
abbrev pub IsSame : Change → Type 0
IsSame c = c.after.writer ≡ c.before.writer

-- no call failed
abbrev pub SinkWorks : Change → Type 0
SinkWorks c = c.after.has_failed ≡ c.before.has_failed

-- just the bytes came in
abbrev pub TakesPiece : Change → List ℕ → Type 0
TakesPiece c bytes = Appends c.before.received c.after.received bytes

-- it wasn't flushed
abbrev pub IsNotFlushed : Change → Type 0
IsNotFlushed c = Keeps c.before.flushes c.after.flushes

-- the place of the flush, where the sink's bytes are known, comes to those of the flushes before
abbrev pub AddsFlush : Option (List ℕ) → Option (List ℕ) → Option (List ℕ) → Type 0
AddsFlush received old new = (bytes : List ℕ) → received ≡ Some bytes → Appends old new (length bytes ∷ [])

-- all the bytes came in, it wasn't flushed, and no call failed
pub record Writes (c : Change) (bytes : List ℕ) : Type 0 where
  pub all : TakesPiece c bytes
  pub unflushed : IsNotFlushed c
  pub works : SinkWorks c
  pub same : IsSame c

-- all the bytes came in, it was flushed once after them, and no call failed
pub record Puts (c : Change) (bytes : List ℕ) : Type 0 where
  pub all : TakesPiece c bytes
  pub flushed : AddsFlush (append_known c.before.received bytes) c.before.flushes c.after.flushes
  pub works : SinkWorks c
  pub same : IsSame c

-- so many of the first bytes came in, it wasn't flushed, and a call failed
pub record StopsAfter (c : Change) (bytes : List ℕ) (count : ℕ) : Type 0 where
  pub within : count ≤ length bytes
  pub part : TakesPiece c (take count bytes)
  pub unflushed : IsNotFlushed c
  pub fails : c.after.has_failed ≡ true
  pub same : IsSame c

-- a beginning of the bytes came in, and a call failed
abbrev pub Stops : Change → List ℕ → Type 0
Stops c bytes = (count : ℕ) × StopsAfter c bytes count

-- all the bytes came in, or a call failed after a beginning of them
abbrev pub Says : Change → List ℕ → Type 0
Says c bytes = Writes c bytes ⊎ Stops c bytes
