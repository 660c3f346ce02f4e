-- A file that the shelf has isn't opened, and isn't read, only for lack of memory; what its source gives are its bytes.
use Rattle.dob_verdict.proofs.Common.{err_from_is_err_and}
use Rattle.dob_verdict.proofs.Proven.{shelf_bytes}
use Rattle.dob_files.proofs.Kept.{shelf_fails}
use Rattle.dob_verdict.proofs.certificates.bytes_named.Goals as goal

pub returns-in_err-source : goal.returns-in_err-source
returns-in_err-source g c =
    let p = err_from_is_err_and c.from_residual.result c.from_residual.ensures.1 in
    rw (p.1, p.2) (
      (
        shelf_bytes ((g.S.Shelf.state c.args.shelf.now).has c.args.file.now) c.in_err-source.field-0.0 c.in_err-source.ensures.found,
        shelf_fails c.find.result _ _ c.in_err-source.field-0.0 c.in_err-source.ensures.failed,
      ),
      c.find.ensures.kept,
    )
