-- The bytes that were read are the file's.
use Rattle.dob_verdict.proofs.Common.{◌∙◌, sym, err_from_is_err_and}
use Rattle.dob_verdict.proofs.Proven.{content_read, defect_read, read_fails}
use Rattle.dob_verdict.proofs.certificates.open_certificate.Goals as goal

pub returns-in_err-bytes : goal.returns-in_err-bytes
returns-in_err-bytes g c =
    let p = err_from_is_err_and c.from_residual.result c.from_residual.ensures.1 in
    let opened = c.in_err-bytes.ensures in
    rw (p.1, p.2) ((opened.0.0, opened.0.1), opened.1)

pub returns-in_err-read_certificate : goal.returns-in_err-read_certificate
returns-in_err-read_certificate g c =
    let p = err_from_is_err_and c.from_residual-in_err-read_certificate.result c.from_residual-in_err-read_certificate.ensures.1 in
    let opened = c.in_ok-bytes.ensures in
    rw (p.1, p.2) (
      (
        defect_read ((g.S.Shelf.state c.args.shelf.now).has c.args.file.now) c.in_ok-bytes.bytes.items opened.0.0 c.in_err-read_certificate.field-0.0
            (rw c.deref.ensures.value at c.in_err-read_certificate.ensures.fault),
        read_fails _ _ c.in_err-read_certificate.field-0.0 opened.0.1,
      ),
      opened.1,
    )

pub returns : goal.returns
returns g c =
    let opened = c.in_ok-bytes.ensures in
    let found = c.in_ok-read_certificate.ensures.found in (
      (
        content_read ((g.S.Shelf.state c.args.shelf.now).has c.args.file.now) c.in_ok-bytes.bytes.items opened.0.0 _
            found.0 (sym c.deref.ensures.value ∙ found.1),
        opened.0.1,
      ),
      opened.1,
    )
