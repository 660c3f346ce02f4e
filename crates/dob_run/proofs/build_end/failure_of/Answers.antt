-- Each runner knows that this node failed the run.
use Rattle.dob_run.proofs.Common.{inl, rules, sym, some_at}
use Rattle.dob_run.proofs.build_end.failure_of.Goals as goal

pub returns : goal.returns
returns c =
    let at = some_at c.args.runners.now c.args.node (search rules) in
    record { runner = at.0; at = at.1; cause = sym (c.in-Some.ensures at.0 at.1); known = inl c.requires }
