-- The position is the text's.
use Rattle.dob_query.proofs.Common.{shelf_change, AreAnswerLines, IsAnswerTo, IsAskFault, IsFaultTo}
use Rattle.std.specs.Prelude.{string_bytes}
use Rattle.dob_words.specs.declared.command.orders.By.TheVariants as way
use Rattle.dob_query.proofs.Asking.{answered_weaker, asks_for_text}
use Rattle.dob_query.proofs.questions.answer_question.Goals as goal

pub returns-in-Table : goal.returns-in-Table
returns-in-Table g c =
    let setup = c.in_ok-position.position.setup in
    let Has = (g.S.Shelf.state c.args.shelf.now).has c.args.file.now in
    let question = c.args.asked.question in (
      answered_weaker (shelf_change (g.S.Shelf.state c.args.shelf.now) (g.S.Shelf.state c.answer_by_table.new.shelf))
          (λ lines. IsAnswerTo way.Table question Has setup (string_bytes lines)) (λ lines. AreAnswerLines c.args.asked Has c.args.text.now (string_bytes lines))
          (IsFaultTo way.Table question Has setup) (IsAskFault c.args.asked Has c.args.text.now) c.answer_by_table.result
          (λ lines told. record { position = setup; named = c.in_ok-position.ensures; told = rw c.in-Table.is told })
          (λ fault holds. asks_for_text c.args.asked Has setup c.args.text.now fault c.in_ok-position.ensures (rw c.in-Table.is holds)) c.answer_by_table.ensures.0,
      c.answer_by_table.ensures.1,
    )

pub returns-in-Records : goal.returns-in-Records
returns-in-Records g c =
    let setup = c.in_ok-position.position.setup in
    let Has = (g.S.Shelf.state c.args.shelf.now).has c.args.file.now in
    let question = c.args.asked.question in
    let answered = c.answer_of.ensures.answered in (
      answered_weaker (shelf_change (g.S.Shelf.state c.args.shelf.now) (g.S.Shelf.state c.answer_of.new.shelf))
          (λ lines. IsAnswerTo way.Records question Has setup (string_bytes lines)) (λ lines. AreAnswerLines c.args.asked Has c.args.text.now (string_bytes lines))
          (IsFaultTo way.Records question Has setup) (IsAskFault c.args.asked Has c.args.text.now) c.answer_of.result
          (λ lines told. record { position = setup; named = c.in_ok-position.ensures; told = rw c.in-Records.is told })
          (λ fault holds. asks_for_text c.args.asked Has setup c.args.text.now fault c.in_ok-position.ensures (rw c.in-Records.is holds)) answered.0,
      answered.1,
    )
