-- A position of the table's has one value by it.
use Rattle.std.proofs.Common.{ap}
use Rattle.dob_verdict.proofs.Common.{◌∙◌}
use Rattle.dob_probe.proofs.Entries.{one_given}
use Rattle.dob_certify.specs.Made.{rounds_of}
use Rattle.dob_verdict.proofs.certifying.rounds_at.Goals as goal

pub returns-in-Ok : goal.returns-in-Ok
returns-in-Ok c is value given =
    c.rounds_of.ensures ∙ ap (λ v. rounds_of v c.args.is_exact) (one_given c.args.table.now c.args.position.now.setup c.in-Ok.value value is c.in-Ok.ensures.value given)
