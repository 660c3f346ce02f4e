-- An expanded settlement leaves the runner lawful, and so does lack of memory.
use Rattle.dob_runner.proofs.Common.{Ok, ap, inl, inr, refl, subst, sym, cases_Bool, Node, IsLawfulRunner, no_gate}
use Rattle.dob_endpoint.proofs.Keeping.{endpoint_same}
use Rattle.dob_runner.proofs.Keeping.{goes_by, broken_for, memory_reason, node_goes, agrees_going}
use Rattle.dob_runner.proofs.Lawfuls.{expanded_one, unchanged_failed}
use Rattle.dob_runner.proofs.TurnParts.{same_answer}
use Rattle.dob_runner.proofs.runner.Runner.expand_one.Goals as goal

pub expand-requires-clause-going : goal.expand-requires-clause-going
expand-requires-clause-going c = (let r = c.args.self.now in node_goes r.node.failed r.failed r.agrees c.requires.unfailed)

pub invariant_of-self-in-Err-clause-lawful : goal.invariant_of-self-in-Err-clause-lawful
invariant_of-self-in-Err-clause-lawful c = λ _. (let r = c.args.self.now in
    unchanged_failed r.family r.batch_size r.node c.expand.new.self r.endpoint c.fail_for.new.endpoint (r.lawful (inl c.requires.unfailed))
    c.in-Err.ensures.step.unchanged c.in-Err.ensures.keeps.sound c.fail_for.ensures.fails.keeps)

pub invariant_of-self : goal.invariant_of-self
invariant_of-self c =
    let r = c.args.self.now in
    record {
      going = r.going;
      own = r.own;
      agrees = agrees_going c.expand.new.self.failed _ c.in-Ok.ensures.keeps.going;
      lawful = λ _. (let law = r.lawful (inl c.requires.unfailed) in elim (cases_Bool c.in-Ok.expanded) [
        | inl did ↦ expanded_one r.family r.batch_size r.node c.expand.new.self r.endpoint law (c.in-Ok.ensures.step.expanded (ap Ok did)) c.in-Ok.ensures.keeps.sound
        | inr none_left ↦ subst (λ (n : Node). IsLawfulRunner r.family r.batch_size n r.endpoint) (sym (c.in-Ok.ensures.step.nothing (ap Ok none_left))) law
      ]);
    }

pub returns-in-Err : goal.returns-in-Err
returns-in-Err c = rw c.fail_for.ensures.given
    (broken_for c.args.self.now _ c.in-Err.why c.fail_for.ensures.fails refl refl refl (memory_reason no_gate _ c.in-Err.why c.in-Err.ensures.step.memory))

pub returns-in-Ok : goal.returns-in-Ok
returns-in-Ok c = record {
  goes = goes_by (endpoint_same c.args.self.now.endpoint) refl refl refl c.requires.unfailed refl refl;
  endpoint = refl;
  done = (λ none. c.in-Ok.ensures.step.done.0 (ap Ok none), λ none. same_answer _ _ (c.in-Ok.ensures.step.done.1 none));
  expanded = λ did. c.in-Ok.ensures.step.expanded (ap Ok did);
  nothing = λ none. c.in-Ok.ensures.step.nothing (ap Ok none);
}
