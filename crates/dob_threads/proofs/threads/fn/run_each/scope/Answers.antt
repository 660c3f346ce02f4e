-- Runners that were all started and have all ended keep their places and are through with their turns.
use Rattle.dob_threads.proofs.Common.{rules, IfOk-weaker}
use Rattle.dob_threads.proofs.Threaded.{all_joinable, all_ended}
use Rattle.dob_threads.proofs.threads.fn.run_each.scope.Goals as goal

pub end_all-requires : goal.end_all-requires
end_all-requires g c = (all_joinable g.G.Gate.says _ _ _ c.in_ok-started.started.items c.in_ok-started.ensures, search rules)

pub returns : goal.returns
returns g c = IfOk-weaker c.end_all.result _ _
    (λ after ends. all_ended g.G.Gate.says _ _ _ c.in_ok-started.started.items after.items c.in_ok-started.ensures ends) c.end_all.ensures
