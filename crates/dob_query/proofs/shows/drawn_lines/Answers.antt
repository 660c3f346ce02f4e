-- A fault of asking the file is one of drawing.
use Rattle.dob_query.proofs.Common.{shelf_change, IsAnswerBy, IsAskingFault, AreDrawn, IsDrawingFault, drawn_line}
use Rattle.std.specs.Prelude.{Some, string_bytes}
use Rattle.dob_query.proofs.Asking.{answered_weaker}
use Rattle.dob_query.proofs.Shown.{asking_draws}
use Rattle.dob_query.proofs.shows.drawn_lines.Goals as goal

pub returns-in-Some-clause-answered : goal.returns-in-Some-clause-answered
returns-in-Some-clause-answered g c =
    let setup = c.args.position.now.setup in
    let Has = (g.S.Shelf.state c.args.shelf.now).has in
    let file = c.in-Some.file.now in
    let answered = c.answer_of.ensures.answered in
    rw c.in-Some.is (
      answered_weaker (shelf_change (g.S.Shelf.state c.args.shelf.now) (g.S.Shelf.state c.answer_of.new.shelf))
          (λ lines. IsAnswerBy drawn_line (Has file) setup (string_bytes lines)) (λ lines. AreDrawn Has (Some file) setup (string_bytes lines))
          (IsAskingFault drawn_line (Has file) setup) (IsDrawingFault Has (Some file) setup) c.answer_of.result
          (λ lines told. told) (λ fault. asking_draws Has file setup fault) answered.0,
      answered.1,
    )
