-- Why a list isn't passed is why the certificate isn't.
use Rattle.std.proofs.lemmas.Result.{err_from_is_err_and}
use Rattle.dob_certificate.proofs.Firsts.{held_refused}
use Rattle.dob_check.proofs.certificates.verify_watched.Goals as goal

pub returns-in_err-check_list-2-clause-refusal : goal.returns-in_err-check_list-2-clause-refusal
returns-in_err-check_list-2-clause-refusal g c =
    let p = err_from_is_err_and c.from_residual-in_err-check_list-2.result c.from_residual-in_err-check_list-2.ensures.1 in
    rw (p.1, p.2) (held_refused c.args.classes.now.family c.args.certificate.now.lost c.args.certificate.now.held c.args.position.now.setup c.args.claim
    c.in_err-check_list-2.field-0.0 c.in_ok-check_list.ensures.verdict c.in_err-check_list-2.ensures.verdict)
