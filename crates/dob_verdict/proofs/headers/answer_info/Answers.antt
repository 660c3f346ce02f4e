-- What the source told is what the file has.
use Rattle.std.specs.Prelude.{string_bytes}
use Rattle.std.proofs.lemmas.Result.{IfErr-weaker, IfOk-weaker}
use Rattle.std.proofs.Common.{rules}
use Rattle.dob_verdict.proofs.Common.{List, err_from_is_err_and, shelf_change, ℕ}
use Rattle.dob_files.proofs.Endings.{answered_by}
use Rattle.dob_files.proofs.Kept.{shelf_fails}
use Rattle.dob_verdict.specs.Headers.{AreInfoLines, GivesAll, IsInfoFault}
use Rattle.dob_verdict.proofs.Headed.{fault_weaker, lines_weaker, shelf_info}
use Rattle.dob_verdict.proofs.headers.answer_info.Goals as goal

pub returns-in_err-source : goal.returns-in_err-source
returns-in_err-source g c =
    let p = err_from_is_err_and c.from_residual.result c.from_residual.ensures.1 in
    rw (p.1, p.2) (
      (
        shelf_info ((g.S.Shelf.state c.args.shelf.now).has c.args.file.now) c.in_err-source.field-0.0 c.in_err-source.ensures.found,
        shelf_fails c.find.result _ _ c.in_err-source.field-0.0 c.in_err-source.ensures.failed,
      ),
      c.find.ensures.kept,
    )

pub returns : goal.returns
returns g c =
    let is_object = c.args.is_object in
    let Has : List ℕ → Type 0 = (g.S.Shelf.state c.args.shelf.now).has c.args.file.now in
    let Given : List ℕ → Type 0 = GivesAll (g.S.Src.Source.gives c.in_ok-source.source) (g.S.Src.Source.shows c.in_ok-source.source) in
    let given : (bytes : List ℕ) → Has bytes → Given bytes = λ bytes has. (c.in_ok-source.ensures.found bytes has, c.in_ok-source.ensures.shown bytes has) in (
      answered_by (shelf_change (g.S.Shelf.state c.args.shelf.now) (g.S.Shelf.state c.close.new.self)) (λ lines. AreInfoLines Has is_object (string_bytes lines))
          (IsInfoFault Has) c.info_lines-answer.result
          (IfOk-weaker c.info_lines-answer.result _ _ (λ lines. lines_weaker Has Given given is_object (string_bytes lines)) c.info_lines-answer.ensures.ok)
          (IfErr-weaker c.info_lines-answer.result _ _ (fault_weaker Has Given given) c.info_lines-answer.ensures.fault) (search rules),
      search rules,
    )
