-- What the setup's position is, or why it has none.
use Rattle.std.proofs.Common.{rules}
use Rattle.dob_text.proofs.Verdicts.{Reads, fault_as, reads_by, whole_as}
use Rattle.dob_text.proofs.read_positions.read_position_bytes.Goals as goal

pub returns-clause-read : goal.returns-clause-read
returns-clause-read c =
    reads_by c.args.profile c.args.text.now c.in_ok-setup.ensures.0 _ _ c.in_ok-setup.ensures.1 c.in_ok-setup.ensures.2 c.position_of.ensures

pub returns-clause-spelt : goal.returns-clause-spelt
returns-clause-spelt c = λ setup legal allowed spells.
    whole_as c.args.profile c.args.text.now _
    (reads_by c.args.profile c.args.text.now c.in_ok-setup.ensures.0 _ _ c.in_ok-setup.ensures.1 c.in_ok-setup.ensures.2 c.position_of.ensures)
    setup legal allowed spells.spelled

pub returns-clause-fault : goal.returns-clause-fault
returns-clause-fault c =
    fault_as c.args.profile c.args.text.now _
    (reads_by c.args.profile c.args.text.now c.in_ok-setup.ensures.0 _ _ c.in_ok-setup.ensures.1 c.in_ok-setup.ensures.2 c.position_of.ensures)

pub returns-in_err-setup-clause-spelt : goal.returns-in_err-setup-clause-spelt
returns-in_err-setup-clause-spelt c = λ setup legal allowed spells.
    let reads : Reads c.args.profile c.args.text.now c.from_residual.result = search rules in
    whole_as c.args.profile c.args.text.now c.from_residual.result reads setup legal allowed spells.spelled

pub returns-in_err-setup-clause-fault : goal.returns-in_err-setup-clause-fault
returns-in_err-setup-clause-fault c =
    let reads : Reads c.args.profile c.args.text.now c.from_residual.result = search rules in
    fault_as c.args.profile c.args.text.now c.from_residual.result reads
