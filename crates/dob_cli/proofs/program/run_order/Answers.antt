-- What is told goes with the lines, or with the fault.
use Rattle.dob_cli.proofs.Common.{inl, inr, refl, answered}
use Rattle.dob_cli.proofs.program.run_order.Goals as goal

pub returns-in-Ok-clause-done : goal.returns-in-Ok-clause-done
returns-in-Ok-clause-done g c =
    let lines = c.in-Ok.ensures in
    rw c.in-Lines.is (answered _ _ _ _ lines.0 (rw c.as_str.ensures.value at c.tell.ensures.told), lines.1)

pub returns-in-Err-clause-done : goal.returns-in-Err-clause-done
returns-in-Err-clause-done g c =
    let fault = c.in-Err.ensures in
    rw c.in-Lines.is (inr (inl (record { fault = _; holds = fault.0; told = c.tell_fault.ensures.told; silent = refl })), fault.1)

pub returns-in-EachLine-clause-done : goal.returns-in-EachLine-clause-done
returns-in-EachLine-clause-done g c = rw c.in-EachLine.is c.run_each.ensures.done
