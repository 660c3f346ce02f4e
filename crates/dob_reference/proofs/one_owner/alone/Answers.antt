-- What is so of the node is so of its family.
use Rattle.std.proofs.Common.{Ok, ap, subst, ◌∙◌}
use Rattle.std.proofs.lemmas.Result.{err_from_is_err_and}
use Rattle.dob_pieces.specs.declared.profile.Family.{Family}
use Rattle.dob_reference.proofs.AloneSteps.{never_too_deep}
use Rattle.dob_reference.specs.Alone.{IsTooDeepWithin, IsUnderWay}
use Rattle.dob_reference.proofs.one_owner.alone.Goals as goal

pub returns-in_err-ended-clause-too_deep : goal.returns-in_err-ended-clause-too_deep
returns-in_err-ended-clause-too_deep c = λ same.
    let given = err_from_is_err_and c.from_residual-in_err-ended.result c.from_residual-in_err-ended.ensures.1 in
    subst (λ (family : Family). IsTooDeepWithin family c.args.limit) c.in_ok-node.ensures.family (c.in_err-ended.ensures.too_deep (cc))

pub returns-in_err-ended-clause-few : goal.returns-in_err-ended-clause-few
returns-in_err-ended-clause-few c = λ few same.
    let given = err_from_is_err_and c.from_residual-in_err-ended.result c.from_residual-in_err-ended.ensures.1 in
    never_too_deep c.args.family c.args.limit few
    (subst (λ (family : Family). IsTooDeepWithin family c.args.limit) c.in_ok-node.ensures.family (c.in_err-ended.ensures.too_deep (cc)))

pub returns-in_default-clause-none : goal.returns-in_default-clause-none
returns-in_default-clause-none c = λ is.
    subst (λ (family : Family). IsUnderWay family c.args.limit) c.in_ok-node.ensures.family (c.in_ok-ended.ensures.left (ap Ok c.in_default.is))

pub returns-clause-done : goal.returns-clause-done
returns-clause-done c =
    let out = c.in_ok-ended.ensures in
    let same = rw c.in-Some.is at out.family in
    let done = rw c.in-Some.is at out.done in
    record {
      node = c.in-Some.ended;
      of = same ∙ c.in_ok-node.ensures.family;
      steps = done.0;
      few = done.1;
      made = done.2;
      done = done.3;
    }
