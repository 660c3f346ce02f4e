-- The numbers of statuses.
use Rattle.std.specs.Prelude.{ℕ}
use Rattle.dob_moves.specs.declared.position_status.Status.{Status}
use Rattle.dob_moves.specs.declared.position_status.Status.TheVariants.{Caught, Tried, Stuck, Open}

abbrev pub status_number : Status → ℕ
status_number Open = 0
status_number Caught = 1
status_number Tried = 2
status_number Stuck = 3
