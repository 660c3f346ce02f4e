-- The line of a device's fault is that of E24, whatever the device.
use Rattle.std.proofs.Common.{◌∙◌, List, subst, sym, ℕ}
use Rattle.dob_device.specs.Sinks.{Says, change}
use Rattle.dob_cli.proofs.Runs.{io_line}
use Rattle.dob_cli.proofs.program.tell_fault.Goals as goal

pub returns-in-Ok-clause-io : goal.returns-in-Ok-clause-io
returns-in-Ok-clause-io g c = λ is.
    subst (λ (bytes : List ℕ). Says (change (g.E.Sink.state c.args.err.now) (g.E.Sink.state c.say.new.err)) bytes)
    (c.as_bytes.ensures.value ∙ (c.in-Ok.ensures ∙ io_line c.args.fault (sym c.is_io.ensures ∙ is))) c.say.ensures
