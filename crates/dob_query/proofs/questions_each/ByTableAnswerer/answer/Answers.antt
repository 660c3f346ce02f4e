-- An answer that ends nothing is the line's, and what ends all is that memory failed.
use Rattle.std.proofs.lemmas.Result.{IfErr-weaker, IfOk-weaker}
use Rattle.dob_query.specs.Questions.{IsTableAnswer}
use Rattle.dob_query.specs.QuestionsEach.{AnswersLine, IsTableLine, bytes_of}
use Rattle.dob_query.proofs.EachRight.{goes_on, table_end}
use Rattle.dob_query.proofs.questions_each.ByTableAnswerer.answer.Goals as goal

pub returns-clause-told : goal.returns-clause-told
returns-clause-told c =
    let by = c.args.self.now in
    let Is = IsTableLine (AnswersLine (IsTableAnswer by.question by.table)) by.question by.table c.args.line.now in
    let answer = c.line_in_table-answer.result in
    IfOk-weaker c.told_line.result _ _
    (λ told kept. (bytes_of answer, goes_on Is answer c.line_in_table-answer.ensures kept.goes_on, kept.text, kept.refused)) c.told_line.ensures.told

pub returns-clause-ended : goal.returns-clause-ended
returns-clause-ended c =
    let by = c.args.self.now in
    IfErr-weaker c.told_line.result _ _ (λ fault. table_end by.question by.table c.args.line.now c.line_in_table-answer.result fault c.line_in_table-answer.ensures)
    c.told_line.ensures.ended
