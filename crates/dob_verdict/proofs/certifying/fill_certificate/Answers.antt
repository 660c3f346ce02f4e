-- What the sink takes is the file of a certificate of what the table says.
use Rattle.dob_verdict.proofs.Common.{◌∙◌, err_from_is_err_and, content}
use Rattle.dob_verdict.proofs.MadeFaults.{certificate_fills, making_fills, making_works, unfit_fills, unfit_works}
use Rattle.dob_verdict.specs.Certificates.{most_entries}
use Rattle.dob_verdict.proofs.certifying.fill_certificate.Goals as goal

pub returns-in-Err : goal.returns-in-Err
returns-in-Err g c =
    rw c.fault_of_making.ensures (record {
      whole = tt;
      fault = making_fills c.args.table.now c.args.order.is_exact (most_entries c.args.order.most) c.args.position.now.setup c.in-Err.fault
          c.in-Err.ensures.fault;
      failed = c.requires ∙ making_works c.in-Err.fault;
    })

pub returns-in_err-bytes : goal.returns-in_err-bytes
returns-in_err-bytes g c =
    let p = err_from_is_err_and c.from_residual.result c.from_residual.ensures.1 in
    let said = content c.in-Ok.certificate in
    let given = c.in_err-bytes.field-0.0 in
    rw (p.1, p.2) (record {
      whole = tt;
      fault = unfit_fills c.args.table.now c.args.order.is_exact (most_entries c.args.order.most) c.args.position.now.setup said c.in-Ok.ensures.made given
          c.in_err-bytes.ensures.fault;
      failed = c.requires ∙ unfit_works said given c.in_err-bytes.ensures.fault;
    })

pub returns : goal.returns
returns g c =
    certificate_fills c.args.table.now c.args.order.is_exact (most_entries c.args.order.most) c.args.position.now.setup (content c.in-Ok.certificate)
    c.in-Ok.ensures.made c.in_ok-lines.ensures (c.deref.ensures.value ∙ c.in_ok-bytes.ensures.bytes) c.fill.result _ c.fill.ensures
