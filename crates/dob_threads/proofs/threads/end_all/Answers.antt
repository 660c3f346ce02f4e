-- Each runner that ended is the end of the started one at its place, one by one, until none is left.
use Rattle.dob_threads.proofs.Common.{◌++◌, ◌∷◌, [], ap, length, rules, subst, sym, AllZip, zip_one, IsEndOf}
use Rattle.dob_endpoint.proofs.Places.{gone_are, next_at, none_gone, one_gone, one_longer}
use Rattle.dob_threads.proofs.threads.end_all.Goals as goal

pub loop-one-init : goal.loop-one-init
loop-one-init g c =
    let none = c.requires.1 in record {
      gone = none_gone c.into_iter-one-iterator.ensures.into_iter_gives.0 (ap length none);
      related = subst (AllZip (IsEndOf g.G.Gate.says) []) (sym none) tt;
    }

pub end-requires : goal.end-requires
end-requires g c = c.requires.0 _ c.in-Some.one (next_at c.loop-one.invariant.gone c.in-Some.ensures.steps.0)

pub loop-one-preserved : goal.loop-one-preserved
loop-one-preserved g c =
    let on = c.loop-one.invariant in
    let more = c.in_ok-push.ensures.items in record {
      gone = one_gone on.gone c.in-Some.ensures.steps.0 (one_longer _ _ more);
      related = subst (AllZip (IsEndOf g.G.Gate.says) (on.gone.gone ++ c.in-Some.one ∷ [])) (sym more)
          (zip_one (IsEndOf g.G.Gate.says) on.gone.gone c.loop-one.ended.items c.in-Some.one c.end.result on.related c.end.ensures);
    }

pub returns : goal.returns
returns g c = subst (λ gone. AllZip (IsEndOf g.G.Gate.says) gone c.loop-one.ended.items) (gone_are c.loop-one.invariant.gone (search rules))
    c.loop-one.invariant.related
