-- What each runner knows decides between a failure and the table.
use Rattle.dob_run.proofs.Common.{◌∙◌, ◌≡◌, List, refl, subst, slice_index, Memory, carried, Runner, IsFailureOf}
use Rattle.dob_run.proofs.CrewStopped.{all_know, built_is, ended_by, owners_are, IsNone}
use Rattle.dob_run.proofs.build_end.finish.Goals as goal
use Rattle.dob_run.proofs.build_end.finish.Goals.{In_default, In_ok-shares}

none : (g : _) (c : In_default g) → IsNone c.args.runners.items
none g c = subst IsNone c.deref.ensures.value c.in_default.ensures

ended : (g : _) (c : In_ok-shares g) → slice_index c.in_ok-shares.ended.closed.words.items 2 ≡ 1
ended g c = ended_by c.args.runners.items c.requires.crew c.requires.stopped.1 c.in_ok-shares.ensures.ended.words
    (subst IsNone c.deref.ensures.value c.in_default.ensures).0

pub returns-in-Some-clause-failed : goal.returns-in-Some-clause-failed
returns-in-Some-clause-failed g c = subst (λ (l : List Runner). IsFailureOf l c.in-Some.fault) c.deref.ensures.value c.in-Some.ensures

pub returns-in_err-shares-clause-failed : goal.returns-in_err-shares-clause-failed
returns-in_err-shares-clause-failed g c =
    carried (IsFailureOf c.args.runners.items) c.from_residual.result Memory c.from_residual.ensures.1
    (none g (goal.at.returns-in_err-shares-clause-failed g c).In_default).0

pub returns-in_err-table-clause-failed : goal.returns-in_err-table-clause-failed
returns-in_err-table-clause-failed g c =
    carried (IsFailureOf c.args.runners.items) c.from_residual-in_err-table.result Memory c.from_residual-in_err-table.ensures.1
    (none g (goal.at.returns-in_err-table-clause-failed g c).In_default).0

pub gather-requires-clause-owners : goal.gather-requires-clause-owners
gather-requires-clause-owners g c = λ κs lives.
    owners_are c.args.runners.items c.requires.crew c.requires.stopped.1 c.in_ok-shares.ensures.ended.words
    (ended g (goal.at.gather-requires-clause-owners g c).In_ok-shares)
    c.deref-2.result.now (c.deref-2.ensures.value ∙ c.in_ok-shares.ensures.shares)

pub returns-clause-built : goal.returns-clause-built
returns-clause-built g c = λ size stopped.
    built_is c.args.runners.items c.requires.crew stopped c.in_ok-shares.ensures.ended.words (ended g (goal.at.returns-clause-built g c).In_ok-shares)
    c.in_ok-shares.ended refl c.in_ok-shares.ensures.ended c.deref-2.result.now _ (c.deref-2.ensures.value ∙ c.in_ok-shares.ensures.shares)
    c.in_ok-table.ensures.family c.in_ok-table.ensures.values refl refl

pub returns-clause-unfailed : goal.returns-clause-unfailed
returns-clause-unfailed g c =
    (subst IsNone c.deref.ensures.value c.in_default.ensures).1
    (all_know c.args.runners.items c.requires.crew c.requires.stopped.1 c.in_ok-shares.ensures.ended.words
    (ended g (goal.at.returns-clause-unfailed g c).In_ok-shares))

pub returns-clause-words : goal.returns-clause-words
returns-clause-words g c = c.in_ok-shares.ensures.ended.words
