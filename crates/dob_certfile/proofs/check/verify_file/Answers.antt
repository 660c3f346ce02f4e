-- The position that is asked for is the root, and why its claim is refused is why the file is.
use Rattle.dob_certfile.proofs.Common.{subst, IfErr, IfErr-weaker, Family}
use Rattle.dob_certificate.specs.Refusals.{IsRefusal}
use Rattle.dob_certfile.specs.Roots.{IsRoot}
use Rattle.dob_certfile.proofs.check.verify_file.Goals as goal

pub returns-clause-refusal : goal.returns-clause-refusal
returns-clause-refusal c =
    let file = c.args.file.now in
    let p = c.class_at-root.result.setup in
    let same = c.requires.family in
    let root : IsRoot file.family file.root p = subst (λ (f : Family). IsRoot f file.root p) same
    (record { representative = c.class_at-root.ensures.representative; number = c.class_at-root.ensures.class }) in
    IfErr-weaker c.verify.result _ _ (λ refusal is. (p, root, is))
    (subst (λ (f : Family). IfErr c.verify.result (IsRefusal f file.certificate.lost file.certificate.held p file.claim)) same c.verify.ensures.refusal)
