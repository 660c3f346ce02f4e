-- The sink was empty and took the picture, which the shelf then keeps.
use Rattle.dob_query.proofs.Common.{◌∙◌, err_from_is_err_and, others_kept, shelf_change}
use Rattle.dob_files.proofs.Kept.{answered_later, filled_answers, others_after, shelf_fails, shelf_keeps, shelf_leaves}
use Rattle.dob_query.proofs.shows.keep_picture.Goals as goal

pub returns-in_err-sink : goal.returns-in_err-sink
returns-in_err-sink g c =
    let p = err_from_is_err_and c.from_residual-in_err-sink.result c.from_residual-in_err-sink.ensures.1 in
    let made = c.in_err-sink.ensures in
    rw (p.1, p.2) (
      ((shelf_keeps c.in_err-sink.field-0.0, made.kept), shelf_fails c.make.result _ _ c.in_err-sink.field-0.0 made.failed),
      others_kept c.args.name.now _ _ made.kept,
    )

pub returns : goal.returns
returns g c =
    let made = c.in_ok-sink.ensures in
    let old = g.S.Shelf.state c.args.shelf.now in
    let mid = g.S.Shelf.state c.make.new.self in
    let new = g.S.Shelf.state c.keep_filled.new.shelf in
    let is_picture = c.as_bytes.ensures.value ∙ c.in_ok-picture.ensures in (
      answered_later old mid new _ _ _ _ c.keep_filled.result made.failed
          (λ text kept. (kept.1.0, λ tells. rw (kept.1.1, is_picture) at (kept.2 (rw made.told tells))))
          (λ fault. shelf_leaves (shelf_change old new) mid made.kept fault)
          (filled_answers (shelf_change mid new) c.args.name.now _ _ _ c.fill-filled.result c.keep_filled.result
          (λ tells. made.empty (rw made.told at tells)) c.fill-filled.ensures c.keep_filled.ensures.0),
      others_after c.args.name.now _ _ _ made.kept c.keep_filled.ensures.1,
    )
