-- What the steps of reading take from a stream.
use Rattle.std.specs.Prelude.{◌≡◌, ◌≢◌, ℕ, ◌+◌, ◌*◌, ◌≤◌, ◌<◌, ◌++◌, false, true, List, length, take, drop}
use Rattle.sha2.specs.Sha256.{sha256}
use Rattle.sha2.specs.Hashers.{Holds256}
use Rattle.sha2.specs.declared.Sha256.{Sha256}
use Rattle.dob_dbfile.specs.declared.fault.Fault.{Fault}
use Rattle.dob_dbfile.specs.declared.fault.Fault.TheVariants.{Truncated, Trailing, Digest, Memory, Io}
use Rattle.dob_device.specs.Devices.{Stream}
use Rattle.dob_dbfile.specs.Format.{code_bytes}

-- the room holds the next bytes of the stream
pub record TakesBytes (stream : Stream) (room : List ℕ) : Type 0 where
  pub within : length room ≤ length stream.bytes
  pub same : room ≡ take (length room) stream.bytes

-- the stream gives fewer bytes than are wanted; what failed says after how many, those before it counted
abbrev pub GivesFewer : ℕ → ℕ → Stream → Fault → Type 0
GivesFewer wanted before stream Truncated = (length stream.bytes < wanted) × (stream.fails ≡ false)
GivesFewer wanted before stream (Io count) = (length stream.bytes < wanted) × (stream.fails ≡ true) × (count ≡ before + length stream.bytes)
GivesFewer wanted before stream Memory = Unit {0}
GivesFewer wanted before stream _ = ⊥

-- the next bytes of the stream, so many, are records, whose codes are new at the end of the codes
pub record ReadsCodes (stream : Stream) (len : ℕ) (old new : List ℕ) : Type 0 where
  pub within : len ≤ length stream.bytes
  pub more : List ℕ
  pub grown : new ≡ old ++ more
  pub same : code_bytes more ≡ take len stream.bytes
  pub counted : 2 * length more ≡ len

-- the hasher has taken the next bytes of the stream, so many
abbrev pub HashesNext : Stream → ℕ → Sha256 → Sha256 → Type 0
HashesNext stream len old new = (message : List ℕ) → Holds256 old message → Holds256 new (message ++ take len stream.bytes)

-- after the header the stream gives the records of those codes and a digest, and ends
pub record EndsWith (front : List ℕ) (codes : List ℕ) (stream : Stream) : Type 0 where
  pub ends : stream.fails ≡ false
  pub whole : length stream.bytes ≡ 2 * length codes + 32
  pub records : code_bytes codes ≡ take (2 * length codes) stream.bytes
  pub digest : drop (2 * length codes) stream.bytes ≡ sha256 (front ++ take (2 * length codes) stream.bytes)

-- what is wrong after the header, where so many classes are wanted
abbrev pub HasRestFault : List ℕ → ℕ → Stream → Fault → Type 0
HasRestFault front count stream Trailing = 2 * count + 32 < length stream.bytes
HasRestFault front count stream Digest = (length stream.bytes ≡ 2 * count + 32) × (stream.fails ≡ false)
    × (drop (2 * count) stream.bytes ≢ sha256 (front ++ take (2 * count) stream.bytes))
HasRestFault front count stream (Io bytes) = (length stream.bytes ≤ 2 * count + 32) × (stream.fails ≡ true) × (bytes ≡ length front + length stream.bytes)
HasRestFault front count stream Truncated = (length stream.bytes < 2 * count + 32) × (stream.fails ≡ false)
HasRestFault front count stream Memory = Unit {0}
HasRestFault front count stream _ = ⊥

-- the stream is just the message's digest
pub record IsDigest (message : List ℕ) (stream : Stream) : Type 0 where
  pub ends : stream.fails ≡ false
  pub whole : length stream.bytes ≡ 32
  pub digest : stream.bytes ≡ sha256 message

-- what is wrong where a message's digest is wanted and the end
abbrev pub HasDigestFault : List ℕ → ℕ → Stream → Fault → Type 0
HasDigestFault message before stream Trailing = 32 < length stream.bytes
HasDigestFault message before stream Digest = (length stream.bytes ≡ 32) × (stream.fails ≡ false) × (stream.bytes ≢ sha256 message)
HasDigestFault message before stream (Io bytes) = (length stream.bytes ≤ 32) × (stream.fails ≡ true) × (bytes ≡ before + length stream.bytes)
HasDigestFault message before stream Truncated = (length stream.bytes < 32) × (stream.fails ≡ false)
HasDigestFault message before stream Memory = Unit {0}
HasDigestFault message before stream _ = ⊥

-- the stream isn't at its end: it gives a byte more, or fails
abbrev pub IsNoEnd : ℕ → Stream → Fault → Type 0
IsNoEnd before stream Trailing = 0 < length stream.bytes
IsNoEnd before stream (Io count) = (length stream.bytes ≡ 0) × (stream.fails ≡ true) × (count ≡ before)
IsNoEnd before stream _ = ⊥
