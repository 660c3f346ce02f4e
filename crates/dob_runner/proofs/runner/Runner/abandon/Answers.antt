-- A runner that fails has a cause; it is lawful, as it was before.
use Rattle.dob_runner.proofs.Common.{inl, refl}
use Rattle.dob_endpoint.proofs.Keeping.{links_kept}
use Rattle.dob_runner.proofs.Lawfuls.{still_coloured}
use Rattle.dob_runner.proofs.runner.Runner.abandon.Goals as goal

pub invariant_of-self-clause-lawful : goal.invariant_of-self-clause-lawful
invariant_of-self-clause-lawful c = λ _. (let r = c.args.self.now in
    still_coloured r.family r.batch_size r.node r.endpoint c.fail_for.new.endpoint (r.lawful (inl c.requires)) c.fail_for.ensures.fails.keeps)

pub returns-clause-failed : goal.returns-clause-failed
returns-clause-failed c = (let fails = c.fail_for.ensures.fails in record {
  keeps = record { endpoint = links_kept c.args.self.now.endpoint c.fail_for.new.endpoint fails.keeps.links; family = refl; batch_size = refl; pace = refl };
  cause = fails.cause;
  stopped = fails.stopped;
})
