-- What devices say when they fail.
use Rattle.std.specs.Prelude.{Option, Some, Result, Ok, Err}
use Rattle.std.specs.declared.io.Error.{Error}
use Rattle.dob_shelf.specs.declared.said.Device.{Device}
use Rattle.dob_shelf.specs.declared.said.Said.{Said}

-- what was said last, where that was said before this answer of that device: the reason of one that failed takes its place
abbrev pub said_after : {X : Type 0} → Option Said → Device → Result X Error → Option Said
said_after before place (Ok x) = before
said_after before place (Err reason) = Some (record { place = place; reason = reason })
