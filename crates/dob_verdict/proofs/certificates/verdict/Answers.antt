-- What is refused is what the file says of its root's class.
use Rattle.dob_verdict.proofs.Common.{err_from_is_err_and}
use Rattle.dob_verdict.proofs.certificates.verdict.Goals as goal

pub returns-in_err-check_certificate-clause-err : goal.returns-in_err-check_certificate-clause-err
returns-in_err-check_certificate-clause-err g c =
    let p = err_from_is_err_and c.from_residual-in_err-check_certificate.result c.from_residual-in_err-check_certificate.ensures.1 in
    let at = rw c.in_ok-classes.ensures.family at c.class_at-position.ensures in
    rw (p.1, p.2) (record {
      position = c.class_at-position.result.setup;
      represents = (at.representative, at.class);
      refused = rw c.in_ok-classes.ensures.family at c.in_err-check_certificate.ensures.refusal;
    })
