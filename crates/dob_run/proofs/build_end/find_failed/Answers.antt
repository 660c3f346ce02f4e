-- The first failure that is found is that of the runner at its place, and none before it has failed.
use Rattle.dob_run.proofs.Common.{rules, sym, some_at}
use Rattle.dob_run.proofs.build_end.find_failed.Goals as goal

pub returns-in-Some-clause-first : goal.returns-in-Some-clause-first
returns-in-Some-clause-first c =
    let at = some_at c.args.runners.now c.loop-node.node (search rules) in
    (at.0, at.1, sym (c.in-Some.ensures at.0 at.1), λ k other low there. c.loop-node.invariant k other low there)
