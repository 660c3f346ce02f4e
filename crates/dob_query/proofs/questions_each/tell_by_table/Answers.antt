-- What is told of each line is by the table of the file.
use Rattle.dob_query.proofs.Common.{◌∙◌, ◌≡◌, List, ℕ, false, inl, refl, sym, err_from_is_err_and, Result, is_err, FailsWhere, shelf_change, AreEachLines}
use Rattle.dob_query.proofs.Common.{IsEachFault, is_io, TellsOf, ProgramFault, Memory}
use Rattle.dob_words.specs.declared.command.orders.By.TheVariants as way
use Rattle.dob_query.specs.Questions.{IsTableAnswer}
use Rattle.dob_query.specs.QuestionsEach.{AnswersLine, IsTableLine, IsToldOf, end_of, ended_lines}
use Rattle.dob_device.specs.Sinks.{change as sink_change}
use Rattle.dob_files.proofs.EachLine.{each_weaker, ends_weaker, fails_on, tells_by}
use Rattle.dob_query.proofs.EachRight.{lines_end, opening_ends}
use Rattle.dob_files.proofs.Kept.{same_chain}
use Rattle.dob_query.proofs.questions_each.tell_by_table.Goals as goal

pub returns-in_err-table : goal.returns-in_err-table
returns-in_err-table g c =
    let p = err_from_is_err_and c.from_residual.result c.from_residual.ensures.1 in
    let opened = c.in_err-table.ensures.opened in
    let change = shelf_change (g.S.Shelf.state c.args.shelf.now) (g.S.Shelf.state c.open.new.shelf) in
    rw (p.1, p.2) (inl ((opening_ends change c.args.file.now c.in_err-table.field-0.0 opened.0.0, opened.0.1), inl (refl, c.in_err-table.ensures.input)), opened.1)

pub returns : goal.returns
returns g c =
    let opened = c.in_ok-table.ensures.opened in
    let table = c.in_ok-table.table in
    let question = c.args.question in
    let Is = IsTableLine (AnswersLine (IsTableAnswer question table)) question table in
    let before = g.S.Shelf.state c.args.shelf.now in
    let mid = g.S.Shelf.state c.open.new.shelf in
    let after = g.S.Shelf.state c.tell_each.new.shelf in
    let change = shelf_change before after in (
      each_weaker mid.input before.input after.input after.input (TellsOf (IsToldOf question Is)) (AreEachLines way.Table question (before.has c.args.file.now)) _
          (λ fault. IsEachFault way.Table change c.args.file.now fault × FailsWhere change (is_io fault)) _ (FailsWhere change false)
          (sink_change (g.O.Sink.state c.args.out.now) (g.O.Sink.state c.tell_each.new.out)) c.tell_each.result (sym c.open.ensures.input) refl
          (λ lines is_refused text told. record {
            table = table;
            whole = opened.0.0;
            told = tells_by (Result (List ℕ) ProgramFault) (ended_lines (end_of question)) is_err Is lines is_refused text told;
          })
          (λ fault holds. (
            lines_end change c.args.file.now fault
                (ends_weaker (λ f. f ≡ Memory) (λ f. f ≡ Memory) mid.input before.input fault (λ f is. is) (λ none. sym c.open.ensures.input ∙ none) holds.0),
            fails_on before.has_failed mid.has_failed after.has_failed (is_io fault) opened.0.1 holds.1,
          ))
          (fails_on before.has_failed mid.has_failed after.has_failed false opened.0.1) c.tell_each.ensures.told,
      same_chain before.has mid.has after.has opened.1 c.tell_each.ensures.files,
    )
