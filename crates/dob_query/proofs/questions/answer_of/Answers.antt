-- What the source told is what the file has.
use Rattle.dob_query.proofs.Common.{List, rules, ℕ, Stream, whole, shelf_change, IsAnswerBy, IsAnswerOf, IsAskingFault}
use Rattle.std.specs.Prelude.{string_bytes}
use Rattle.dob_query.proofs.Asking.{ok_each, source_asks}
use Rattle.dob_files.proofs.Endings.{answered_by}
use Rattle.std.proofs.lemmas.Result.{IfErr-weaker}
use Rattle.dob_query.proofs.questions.answer_of.Goals as goal

pub returns-clause-answered : goal.returns-clause-answered
returns-clause-answered g c =
    let question = c.args.question in
    let setup = c.args.position.now.setup in
    let Has : List ℕ → Type 0 = (g.S.Shelf.state c.args.shelf.now).has c.args.file.now in
    let Gives : Stream → Type 0 =
    λ stream. g.S.Src.Source.gives c.in_ok-source.source stream × g.S.Src.Source.shows c.in_ok-source.source stream in (
      answered_by (shelf_change (g.S.Shelf.state c.args.shelf.now) (g.S.Shelf.state c.close.new.self)) (λ lines. IsAnswerBy question Has setup (string_bytes lines))
          (IsAskingFault question Has setup) c.ask-answer.result
          (ok_each Has (λ bytes lines. IsAnswerOf question (whole bytes) setup (string_bytes lines)) c.ask-answer.result
          (λ bytes has. c.ask-answer.ensures.ok (whole bytes) (c.in_ok-source.ensures.found bytes has) (c.in_ok-source.ensures.shown bytes has)))
          (IfErr-weaker c.ask-answer.result _ _
          (λ fault. source_asks question Has setup Gives fault (λ bytes has. (c.in_ok-source.ensures.found bytes has, c.in_ok-source.ensures.shown bytes has)))
          c.ask-answer.ensures.fault)
          (search rules),
      search rules,
    )
