-- Each runner that is left suits the classes, and what is started is its start, one by one, until none is left.
use Rattle.dob_threads.proofs.Common.{◌++◌, ◌∷◌, ◌≡◌, [], ap, length, rules, subst, sym, AllZip, zip_one, Suits, IsStartOf}
use Rattle.dob_endpoint.proofs.Places.{gone_are, next_at, none_gone, one_gone, one_longer}
use Rattle.dob_threads.proofs.threads.start_all.Goals as goal

pub loop-runner-init : goal.loop-runner-init
loop-runner-init g c =
    let none : c.in_ok-started.started.items ≡ [] = search rules in record {
      gone = none_gone c.into_iter-runner-iterator.ensures.into_iter_gives.0 (ap length none);
      related = subst (AllZip (IsStartOf g.G.Gate.says c.args.gate.now c.args.until.now) []) (sym none) tt;
    }

pub start-requires : goal.start-requires
start-requires g c =
    let suits : Suits c.args.classes.now.family c.in-Some.runner = c.requires _ c.in-Some.runner
    (next_at c.loop-runner.invariant.gone c.in-Some.ensures.steps.0) in
    search rules

pub loop-runner-preserved : goal.loop-runner-preserved
loop-runner-preserved g c =
    let on = c.loop-runner.invariant in
    let more = c.in_ok-push.ensures.items in record {
      gone = one_gone on.gone c.in-Some.ensures.steps.0 (one_longer _ _ more);
      related = subst (AllZip (IsStartOf g.G.Gate.says c.args.gate.now c.args.until.now) (on.gone.gone ++ c.in-Some.runner ∷ [])) (sym more)
          (zip_one (IsStartOf g.G.Gate.says c.args.gate.now c.args.until.now) on.gone.gone c.loop-runner.started.items c.in-Some.runner c.start.result
          on.related c.start.ensures);
    }

pub returns : goal.returns
returns g c = subst (λ gone. AllZip (IsStartOf g.G.Gate.says c.args.gate.now c.args.until.now) gone c.loop-runner.started.items)
    (gone_are c.loop-runner.invariant.gone (search rules)) c.loop-runner.invariant.related
