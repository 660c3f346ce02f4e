-- What a sink has of a file where writing stops.
use Rattle.std.specs.Prelude.{◌≡◌, ◌+◌, List, ℕ}
use Rattle.dob_device.specs.declared.device.FailedAfter.{FailedAfter}
use Rattle.dob_dbfile.specs.declared.fault.Fault.{Fault}
use Rattle.dob_dbfile.specs.declared.fault.Fault.TheVariants.{Memory, Io}
use Rattle.dob_device.specs.Sinks.{Change, IsUntouched, StopsAfter}

-- a sink that fails has received just so many bytes of those, and where memory is refused nothing happens to it
abbrev pub WriteStopsAt : Change → List ℕ → Fault → Type 0
WriteStopsAt c bytes (Io count) = StopsAfter c bytes count
WriteStopsAt c bytes Memory = IsUntouched c
WriteStopsAt c bytes _ = ⊥

-- it has received just the first of those bytes, as many as the failure says where so many were counted before
abbrev pub StopsPast : Change → ℕ → List ℕ → FailedAfter → Type 0
StopsPast c before bytes failed = (count : ℕ) × (failed.bytes ≡ before + count) × StopsAfter c bytes count
