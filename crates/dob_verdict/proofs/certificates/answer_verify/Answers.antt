-- What is found of the file's certificate is found of the file.
use Rattle.dob_verdict.proofs.Common.{err_from_is_err_and, content, shelf_change}
use Rattle.dob_verdict.proofs.Proven.{read_verifies, verified}
use Rattle.dob_verdict.proofs.certificates.answer_verify.Goals as goal

pub returns-in_err-certificate : goal.returns-in_err-certificate
returns-in_err-certificate g c =
    let p = err_from_is_err_and c.from_residual.result c.from_residual.ensures.1 in
    let opened = c.in_err-certificate.ensures in
    rw (p.1, p.2) ((read_verifies ((g.S.Shelf.state c.args.shelf.now).has c.args.file.now) _ opened.0.0, opened.0.1), opened.1)

pub returns : goal.returns
returns g c =
    let opened = c.in_ok-certificate.ensures in
    let change = shelf_change (g.S.Shelf.state c.args.shelf.now) (g.S.Shelf.state c.open_certificate.new.shelf) in
    (verified change c.args.file.now c.verdict.result (content c.in_ok-certificate.certificate) opened.0.0 opened.0.1 c.verdict.ensures.ok c.verdict.ensures.err, opened.1)
