-- What the file's certificate says of the position is what the file says of the text.
use Rattle.dob_verdict.proofs.Common.{err_from_is_err_and, content, shelf_change}
use Rattle.dob_verdict.proofs.Proven.{read_replies, replied}
use Rattle.dob_verdict.proofs.replying.answer_reply.Goals as goal

pub returns-in_err-certificate : goal.returns-in_err-certificate
returns-in_err-certificate g c =
    let p = err_from_is_err_and c.from_residual-in_err-certificate.result c.from_residual-in_err-certificate.ensures.1 in
    let opened = c.in_err-certificate.ensures in
    rw (p.1, p.2) (
      (
        read_replies ((g.S.Shelf.state c.args.shelf.now).has c.args.file.now) c.args.text.now c.in_ok-position.position.setup c.in_ok-position.ensures _ opened.0.0,
        opened.0.1,
      ),
      opened.1,
    )

pub returns : goal.returns
returns g c =
    let opened = c.in_ok-certificate.ensures in
    let change = shelf_change (g.S.Shelf.state c.args.shelf.now) (g.S.Shelf.state c.open_certificate.new.shelf) in (
      replied change c.args.file.now c.args.text.now c.in_ok-position.position.setup c.in_ok-position.ensures c.told_reply.result
          (content c.in_ok-certificate.certificate) opened.0.0 opened.0.1 c.told_reply.ensures.ok c.told_reply.ensures.err,
      opened.1,
    )
