-- What is kept under the other name is the file of a certificate of what the table says.
use Rattle.dob_verdict.proofs.Common.{◌∙◌, err_from_is_err_and, others_kept, shelf_change}
use Rattle.dob_files.proofs.Kept.{answered_later, fails_later, filled_answers, others_after, same_chain, shelf_fails, shelf_keeps}
use Rattle.dob_verdict.proofs.MadeFaults.{certify_lines, keeping_certifies, opening_certifies, shelf_certifies}
use Rattle.dob_verdict.specs.Certificates.{most_entries}
use Rattle.dob_verdict.proofs.certifying.answer_certify.Goals as goal

pub returns-in_err-table : goal.returns-in_err-table
returns-in_err-table g c =
    let p = err_from_is_err_and c.from_residual-in_err-table.result c.from_residual-in_err-table.ensures.1 in
    let opened = c.in_err-table.ensures.opened in
    let change = shelf_change (g.S.Shelf.state c.args.shelf.now) (g.S.Shelf.state c.open.new.shelf) in
    rw (p.1, p.2) (
      (
        opening_certifies change c.args.order.file.now c.args.order.is_exact _ c.args.order.position.now c.in_ok-position.position.setup c.in_ok-position.ensures opened.1
            c.in_err-table.field-0.0 opened.0.0,
        opened.0.1,
      ),
      others_kept c.args.order.out.now _ _ opened.1,
    )

pub returns-in_err-sink : goal.returns-in_err-sink
returns-in_err-sink g c =
    let p = err_from_is_err_and c.from_residual-in_err-sink.result c.from_residual-in_err-sink.ensures.1 in
    let opened = c.in_ok-table.ensures.opened in
    let same = same_chain _ _ _ opened.1 c.in_err-sink.ensures.kept in
    let change = shelf_change (g.S.Shelf.state c.args.shelf.now) (g.S.Shelf.state c.make.new.self) in
    rw (p.1, p.2) (
      (
        shelf_certifies change c.args.order.file.now c.args.order.is_exact _ c.args.order.position.now c.in_ok-position.position.setup
            c.in_ok-position.ensures same c.in_ok-table.table opened.0.0 _ (shelf_keeps c.in_err-sink.field-0.0),
        fails_later _ _ _ _ opened.0.1 (shelf_fails c.make.result _ _ c.in_err-sink.field-0.0 c.in_err-sink.ensures.failed),
      ),
      others_kept c.args.order.out.now _ _ same,
    )

pub returns : goal.returns
returns g c =
    let opened = c.in_ok-table.ensures.opened in
    let made = c.in_ok-sink.ensures in
    let old = g.S.Shelf.state c.args.shelf.now in
    let mid = g.S.Shelf.state c.make.new.self in
    let new = g.S.Shelf.state c.keep_filled.new.shelf in
    let same = same_chain old.has _ mid.has opened.1 made.kept in
    let table = c.in_ok-table.table in
    let position = c.in_ok-position.position.setup in (
      answered_later old mid new _ _ _ _ c.keep_filled.result (fails_later _ _ _ _ opened.0.1 made.failed)
          (certify_lines (shelf_change old new) c.args.order.file.now c.args.order.out.now c.args.order.is_exact (most_entries c.args.order.most)
          c.args.order.position.now position c.in_ok-position.ensures mid (made.told ∙ c.in_ok-table.ensures.told) table opened.0.0)
          (keeping_certifies (shelf_change old new) c.args.order.file.now c.args.order.is_exact (most_entries c.args.order.most) c.args.order.position.now position
          c.in_ok-position.ensures mid table opened.0.0 same)
          (filled_answers (shelf_change mid new) c.args.order.out.now _ _ _ c.fill_certificate-filled.result c.keep_filled.result
          (λ tells. made.empty (rw made.told at tells)) c.fill_certificate-filled.ensures c.keep_filled.ensures.0),
      others_after c.args.order.out.now _ _ _ same c.keep_filled.ensures.1,
    )
