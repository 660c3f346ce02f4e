-- What was told goes with its status, or with the fault.
use Rattle.std.proofs.Common.{◌∙◌, inl, inr, refl}
use Rattle.dob_cli.proofs.program.run_each.Goals as goal

pub returns-in-Ok-clause-done : goal.returns-in-Ok-clause-done
returns-in-Ok-clause-done g c = let told = c.in-Ok.ensures in (inl (c.in-Ok.is_refused, told.0, c.ending.ensures.status ∙ c.status_of_lines.ensures, refl), told.1)

pub returns-in-Err-clause-done : goal.returns-in-Err-clause-done
returns-in-Err-clause-done g c = let told = c.in-Err.ensures in (inr (c.in-Err.fault, told.0, c.tell_fault.ensures.told), told.1)
