-- What ends all is that the source failed, or memory. What is told of a line by what the source shows later is told by what it showed before.
use Rattle.dob_query.proofs.Common.{◌||◌, ◌∙◌, Bool, ap, sym}
use Rattle.std.proofs.lemmas.Result.{IfErr-weaker, IfOk-weaker}
use Rattle.dob_query.specs.QuestionsEach.{IsRecordAnswer, bytes_of}
use Rattle.dob_query.proofs.EachRight.{goes_on}
use Rattle.dob_query.proofs.Placed.{record_end, told_weaker}
use Rattle.dob_query.proofs.questions_each.ByRecordsAnswerer.answer.Goals as goal

pub returns-clause-told : goal.returns-clause-told
returns-clause-told g c =
    let by = c.args.self.now in
    let Is = IsRecordAnswer by.question (g.R.Source.shows by.source) by.format by.classes.family c.args.line.now in
    let answer = c.line_by_records-answer.result in
    IfOk-weaker c.told_line.result _ _
    (λ told kept. (bytes_of answer, goes_on Is answer c.line_by_records-answer.ensures.answer kept.goes_on, kept.text, kept.refused)) c.told_line.ensures.told

pub returns-clause-ended : goal.returns-clause-ended
returns-clause-ended g c =
    let by = c.args.self.now in
    IfErr-weaker c.told_line.result _ _
    (λ fault. record_end by.question (g.R.Source.shows by.source) by.format by.classes.family c.args.line.now c.line_by_records-answer.result fault
    c.line_by_records-answer.ensures.answer)
    c.told_line.ensures.ended

pub returns-clause-before : goal.returns-clause-before
returns-clause-before g c =
    let by = c.args.self.now in
    told_weaker by.question (g.R.Source.shows c.line_by_records-answer.new.source) (g.R.Source.shows by.source) c.line_by_records-answer.ensures.shown by.format
    by.classes.family

pub returns-clause-failed : goal.returns-clause-failed
returns-clause-failed g c =
    c.line_by_records-answer.ensures.failed
    ∙ ap (λ (b : Bool). g.R.Source.has_failed c.args.self.now.source || b) (sym c.told_line.ensures.failed)
