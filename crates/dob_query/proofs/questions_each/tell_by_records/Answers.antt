-- What the source told is what the file has.
use Rattle.dob_query.proofs.Common.{◌||◌, ◌∙◌, Bool, ap, false, sym, or-false, FailsWhere, shelf_change, is_io}
use Rattle.dob_device.specs.Sinks.{change as sink_change}
use Rattle.dob_words.specs.declared.command.orders.By.TheVariants as way
use Rattle.dob_query.specs.QuestionsEach.{AreEachLines, IsEachFault, TellsRecords}
use Rattle.dob_files.proofs.EachLine.{each_weaker}
use Rattle.dob_query.proofs.Placed.{places_ended, places_told}
use Rattle.dob_files.proofs.Kept.{same_chain}
use Rattle.dob_query.proofs.questions_each.tell_by_records.Goals as goal

pub returns : goal.returns
returns g c =
    let question = c.args.question in
    let file = c.args.file.now in
    let before = g.S.Shelf.state c.args.shelf.now in
    let found = g.S.Shelf.state c.find.new.self in
    let told = g.S.Shelf.state c.told_by-source.new.shelf in
    let after = g.S.Shelf.state c.close.new.self in
    let over = shelf_change before after in
    let gives = g.S.Src.Source.gives c.in_ok-source.source in
    let shows = g.S.Src.Source.shows c.in_ok-source.source in
    let opened = c.in_ok-source.ensures.failed ∙ or-false before.has_failed in (
      each_weaker found.input before.input told.input after.input (TellsRecords question gives shows)
          (AreEachLines way.Records question (before.has file)) _
          (λ fault. IsEachFault way.Records over file fault × FailsWhere over (is_io fault)) _ (FailsWhere over false)
          (sink_change (g.O.Sink.state c.args.out.now) (g.O.Sink.state c.told_by-source.new.out)) c.told_by-source.result.1 (sym c.find.ensures.input) c.close.ensures.input
          (places_told question over file gives shows c.in_ok-source.ensures.found c.in_ok-source.ensures.shown found.input c.find.ensures.input)
          (λ fault holds. (
            places_ended question over file gives shows c.in_ok-source.ensures.found c.in_ok-source.ensures.shown found.input c.find.ensures.input fault
                holds.0,
            c.close.ensures.failed ∙ holds.1 ∙ ap (λ (b : Bool). b || is_io fault) opened,
          ))
          (λ works. c.close.ensures.failed ∙ works ∙ ap (λ (b : Bool). b || false) opened)
          c.told_by-source.ensures.told,
      same_chain before.has told.has after.has (same_chain before.has found.has told.has c.find.ensures.kept c.told_by-source.ensures.files)
          c.close.ensures.kept,
    )
