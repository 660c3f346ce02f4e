-- The build is of the text's piece set, and what is kept is its table's file. Until then nothing has changed.
use Rattle.dob_build.proofs.Common.{Bool, subst, sym, IsTrue, family_of, others_kept, unchanged, shelf_change}
use Rattle.std.proofs.lemmas.Result.{err_from_is_err_and}
use Rattle.dob_files.proofs.Kept.{answered_later, filled_answers, others_after, shelf_fails, shelf_keeps}
use Rattle.dob_build.proofs.Building.{build_lines, building_holds, unkept}
use Rattle.std.proofs.Math.Bool.{or-false}
use Rattle.dob_build.proofs.builds.answer_build.Goals as goal

pub returns-in_err-nodes : goal.returns-in_err-nodes
returns-in_err-nodes g c =
    let p = err_from_is_err_and c.from_residual-in_err-nodes.result c.from_residual-in_err-nodes.ensures.1 in
    let shelf = g.S.Shelf.state c.args.shelf.now in
    let refused = c.in_err-nodes.ensures.fault (family_of c.in_ok-set.set c.args.order.profile) in
    rw (p.1, p.2) (
      (
        ((c.in_ok-set.set, c.in_ok-set.ensures.ok, refused.0, refused.1, refused.2), unchanged shelf.has),
        sym (or-false shelf.has_failed),
      ),
      others_kept c.args.order.file.now _ _ (unchanged shelf.has),
    )

pub returns-in_err-sink : goal.returns-in_err-sink
returns-in_err-sink g c =
    let p = err_from_is_err_and c.from_residual-in_err-sink.result c.from_residual-in_err-sink.ensures.1 in
    let made = c.in_err-sink.ensures in
    let asked = c.in_ok-nodes.ensures.size.0 in
    let size = c.in_ok-nodes.ensures.size.1 in
    rw (p.1, p.2) (
      (
        (
          unkept c.args.order.profile c.args.order.set.now c.in_ok-set.set c.in_ok-set.ensures.ok c.args.order.nodes _ asked size _
              (shelf_keeps c.in_err-sink.field-0.0),
          made.kept,
        ),
        shelf_fails c.make.result _ _ c.in_err-sink.field-0.0 made.failed,
      ),
      others_kept c.args.order.file.now _ _ made.kept,
    )

pub returns : goal.returns
returns g c =
    let made = c.in_ok-sink.ensures in
    let asked = c.in_ok-nodes.ensures.size.0 in
    let size = c.in_ok-nodes.ensures.size.1 in
    let old = g.S.Shelf.state c.args.shelf.now in
    let mid = g.S.Shelf.state c.make.new.self in
    let new = g.S.Shelf.state c.keep_filled.new.shelf in
    let change = shelf_change old new in
    let profile = c.args.order.profile in
    let text = c.args.order.set.now in
    let set = c.in_ok-set.set in (
      answered_later old mid new _ _ _ _ c.keep_filled.result made.failed
          (build_lines profile text set c.in_ok-set.ensures.ok c.args.order.nodes c.in_ok-nodes.nodes asked size change mid c.args.order.file.now made.told)
          (building_holds profile text set c.in_ok-set.ensures.ok c.args.order.nodes c.in_ok-nodes.nodes asked size change mid made.kept)
          (filled_answers (shelf_change mid new) c.args.order.file.now _ _ _ c.fill_built-filled.result c.keep_filled.result
          (λ tells. made.empty (subst (λ (b : Bool). IsTrue b) made.told tells)) c.fill_built-filled.ensures c.keep_filled.ensures.0),
      others_after c.args.order.file.now _ _ _ made.kept c.keep_filled.ensures.1,
    )
