-- What the header says is what the file says.
use Rattle.dob_device.specs.Devices.{whole}
use Rattle.dob_verdict.specs.Headers.{of_table}
use Rattle.dob_verdict.proofs.headers.table_lines.Goals as goal

pub returns-clause-ok : goal.returns-clause-ok
returns-clause-ok g c = (
  of_table c.in_ok-format.format c.in_ok-format.classes.family,
  λ bytes has. (has.1, c.in_ok-format.ensures.named (whole bytes) has.0),
  c.in_ok-table_told.ensures,
)
