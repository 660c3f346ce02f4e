-- What is told of each line is by the family that the header names.
use Rattle.dob_query.proofs.Common.{List, refl, ℕ, Result, is_err, change, TellsOf, ProgramFault}
use Rattle.dob_query.specs.QuestionsEach.{IsRecordAnswer, IsToldOf, TellsRecords, end_of, ended_lines}
use Rattle.dob_files.proofs.EachLine.{each_weaker, tells_are, tells_by}
use Rattle.dob_query.proofs.Placed.{lines_end_records, record_weaker}
use Rattle.dob_query.proofs.questions_each.told_by.Goals as goal

pub returns-in-Ok-clause-told : goal.returns-in-Ok-clause-told
returns-in-Ok-clause-told g c =
    let question = c.args.question in
    let format = c.in-Ok.format in
    let family = c.in-Ok.classes.family in
    let input = (g.S.Shelf.state c.args.shelf.now).input in
    let gives = g.S.Src.Source.gives c.args.source in
    let shows = g.S.Src.Source.shows c.args.source in
    let later = g.S.Src.Source.shows c.read_classes.new.source in
    each_weaker input input (g.S.Shelf.state c.tell_each-told.new.shelf).input (g.S.Shelf.state c.tell_each-told.new.shelf).input (TellsOf (IsToldOf question (IsRecordAnswer question later format family))) (TellsRecords question gives shows) _ _ _ _
    (change (g.O.Sink.state c.args.out.now) (g.O.Sink.state c.tell_each-told.new.out)) c.tell_each-told.result refl refl
    (λ lines is_refused text told. record {
      format = format;
      family = family;
      named = c.in-Ok.ensures.named;
      told = tells_are (Result (List ℕ) ProgramFault) (ended_lines (end_of question)) is_err (IsRecordAnswer question later format family)
          (IsRecordAnswer question shows format family) (record_weaker question later shows c.in-Ok.ensures.shown format family) lines is_refused text
          (tells_by (Result (List ℕ) ProgramFault) (ended_lines (end_of question)) is_err (IsRecordAnswer question later format family) lines is_refused text told);
    })
    (λ fault holds. (lines_end_records gives shows later c.in-Ok.ensures.shown input fault holds.0, holds.1)) (λ works. works) c.tell_each-told.ensures.told
