-- The position that was read is the text's, and where a picture is asked for it is kept.
use Rattle.dob_query.proofs.Common.{Bool, List, subst, sym, ℕ, IsTrue, shelf_change, AreDrawn}
use Rattle.std.proofs.lemmas.Result.{err_from_is_err_and}
use Rattle.dob_words.specs.Readings.{text_given}
use Rattle.dob_files.proofs.Kept.{answered_later, others_after}
use Rattle.dob_query.proofs.Shown.{drawing_shows, none_kept, picture_shows}
use Rattle.dob_query.proofs.shows.answer_show.Goals as goal

pub returns-in-Some : goal.returns-in-Some
returns-in-Some g c =
    let drawn = c.in_ok-lines.ensures.answered in
    let old = g.S.Shelf.state c.args.shelf.now in
    let mid = g.S.Shelf.state c.drawn_lines.new.shelf in
    let new = g.S.Shelf.state c.keep_picture.new.shelf in
    let kept = c.keep_picture.ensures in
    rw c.in-Some.is (
      answered_later old mid new _ _ _ _ c.keep_picture.result drawn.0.1
          (λ text told. record {
            position = c.in_ok-position.position.setup;
            named = c.in_ok-position.ensures;
            drawn = subst (λ (lines : List ℕ). AreDrawn old.has (text_given c.args.file) c.in_ok-position.position.setup lines) (sym told.0) drawn.0.0;
            kept = λ tells. told.1 (subst (λ (b : Bool). IsTrue b) (sym c.drawn_lines.ensures.told) tells);
          })
          (λ fault holds. picture_shows (shelf_change old new) (text_given c.args.file) c.args.text.now c.in_ok-position.position.setup c.in_ok-position.ensures
          mid c.in-Some.name.now fault drawn.1 holds.0 holds.1) kept.0,
      others_after c.in-Some.name.now _ _ _ drawn.1 kept.1,
    )

pub returns-in_err-lines : goal.returns-in_err-lines
returns-in_err-lines g c =
    let p = err_from_is_err_and c.from_residual-in_err-lines.result c.from_residual-in_err-lines.ensures.1 in
    let drawn = c.in_err-lines.ensures.answered in
    let picture = text_given c.args.picture in
    rw (p.1, p.2) (
      (
        drawing_shows (shelf_change (g.S.Shelf.state c.args.shelf.now) (g.S.Shelf.state c.drawn_lines.new.shelf)) (text_given c.args.file) c.args.text.now
            c.in_ok-position.position.setup c.in_ok-position.ensures picture c.in_err-lines.field-0.0 drawn.0.0 drawn.1,
        drawn.0.1,
      ),
      none_kept picture _ _ drawn.1,
    )
