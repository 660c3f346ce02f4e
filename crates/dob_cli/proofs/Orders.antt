-- What is owed for an order is right by a value table's file, and is owed for the words that ask for it.
use Rattle.dob_cli.proofs.Common.{◌∙◌, ◌∷◌, ◌≡◌, None, Option, Some, [], ap, codes, false, option_map, refl, sym, true, true≢false, Text, IsOrder}
use Rattle.dob_cli.proofs.Common.{number_in, profile_named, Order, EachLine, Lines, ShelfChange, Ending, AnswersOwed}
use Rattle.std.specs.Borrow.{Bor}
use Rattle.std.specs.Prelude.{is_some}
use Rattle.std.specs.Str.{bytes_eq}
use Rattle.std.proofs.lemmas.Slice.Eq.{bytes_eq-Decides}
use Rattle.dob_words.specs.Readings.{name_asked, name_by, name_of_order, text_given}
use Rattle.dob_words.specs.Words.{takes_lines}
use Rattle.dob_words.specs.declared.command.orders.Asked.{Asked}
use Rattle.dob_words.specs.declared.command.orders.By.{By}
use Rattle.dob_words.specs.declared.command.orders.By.TheVariants as way
use Rattle.dob_words.specs.declared.command.orders.MovesForm.TheVariants as moves_form
use Rattle.dob_words.specs.declared.command.orders.Question.{Question}
use Rattle.dob_words.specs.declared.command.orders.Question.TheVariants as question
use Rattle.dob_words.specs.declared.command.orders.ValueForm.TheVariants as value_form
use Rattle.dob_words.specs.declared.command.orders.LinesOrder.{LinesOrder}
use Rattle.dob_words.specs.declared.command.orders.LinesOrder.TheVariants.{Ask, Build, Puzzles, Reach, Show, Stats, Value, Zugzwangs}
use Rattle.dob_query.proofs.EachRight.{each_right}
use Rattle.dob_query.proofs.Asking.{question_right}
use Rattle.dob_query.specs.Program.{value_owed}
use Rattle.dob_query.specs.Questions.{probed}
use Rattle.dob_build.specs.Builds.{build_owed}
use Rattle.dob_files.proofs.TableFaults.{table_right}
use Rattle.dob_files.specs.Tables.{IsOpeningFault, IsPositionFault}
use Rattle.dob_survey.specs.Reaches.{AreReachLinesBy}
use Rattle.dob_survey.specs.Stats.{AreStatsLines}
use Rattle.dob_survey.specs.Puzzles.{ArePuzzleLines, IsPuzzlesFault}
use Rattle.dob_survey.specs.Zugzwangs.{AreZugzwangLines}
use Rattle.dob_query.proofs.Shown.{show_right}
use Rattle.dob_cli.specs.Orders.{AnswersOrder, AnswersRight, owed_by}

module _ (c : ShelfChange) (e : Ending) where
  -- by the file of a value table what is ordered is answered rightly
  rightly : (o : LinesOrder) → AnswersOwed (owed_by o) c e → (owed_by o).right c e
  rightly (Ask f a t) answers = question_right a f.now t.now c e answers
  rightly (Show f p t) answers = show_right (text_given f) (text_given p) t.now c e answers
  rightly (Reach s (Some f) t) answers = table_right f.now (AreReachLinesBy s t.now) (λ Has. IsPositionFault Has t.now) c e answers
  rightly (Stats f s) answers = table_right f.now (AreStatsLines s) IsOpeningFault c e answers
  rightly (Zugzwangs f n) answers = table_right f.now (AreZugzwangLines n) IsOpeningFault c e answers
  rightly (Puzzles f s) answers = table_right f.now (ArePuzzleLines s) (λ Has. IsPuzzlesFault Has s.plies) c e answers
  rightly o answers = tt

  pub order_right : (o : Order) → AnswersOrder c o e → AnswersRight c o e
  order_right (Lines o) answers = rightly o answers
  order_right (EachLine f a) answers = λ profile right. each_right c profile a f.now e right answers

-- ---- by the words

-- two names that differ aren't one
pub differs : (a b : Text) → bytes_eq a b ≡ false → a ≡ b → ⊥
differs a b other e = true≢false (sym ((bytes_eq-Decides a b).1 e) ∙ other)

-- the texts of lists of one shape
value_texts : (x a : Option Text) (y b : Text) → x ∷ Some y ∷ [] ≡ a ∷ Some b ∷ [] → (x ≡ a) × (y ≡ b)
value_texts x a y b e = (cc, cc)

build_texts : (x z a c : Text) (y v w b d f : Option Text) → Some x ∷ y ∷ Some z ∷ v ∷ w ∷ [] ≡ Some a ∷ b ∷ Some c ∷ d ∷ f ∷ []
    → (x ≡ a) × (y ≡ b) × (z ≡ c) × (v ≡ d)
build_texts x z a c y v w b d f e = (cc, cc, cc, cc)

probe_texts : (x y a b : Text) (j : Option Text) → Some x ∷ None ∷ j ∷ Some y ∷ [] ≡ Some a ∷ None ∷ None ∷ Some b ∷ [] → (x ≡ a) × (y ≡ b) × (j ≡ None)
probe_texts x y a b j e = (cc, cc, cc)

unlike_texts : (x f a b : Text) (j : Option Text) → Some x ∷ Some f ∷ j ∷ None ∷ [] ≡ Some a ∷ None ∷ None ∷ Some b ∷ [] → ⊥
unlike_texts x f a b j e = cc

-- what asks of a position takes lines
asking : (b : By) (q : Question) → takes_lines (name_by b q) ≡ true
asking way.Table (question.Value form) = refl
asking b (question.Moves moves_form.Best) = refl
asking b q = refl

not_asked : (a : Asked) (name : Text) → takes_lines name ≡ false → name_asked a ≡ name → ⊥
not_asked a name other is = true≢false (sym (asking a.by a.question) ∙ (ap takes_lines is ∙ other))

module _ (c : ShelfChange) (e : Ending) where
  pub done_value : (rules : Option Text) (text : Text) (o : Order) → IsOrder (codes "value") (rules ∷ Some text ∷ []) o → AnswersOrder c o e
      → AnswersOwed (value_owed (profile_named rules) text) c e
  done_value rules text (Lines (Value p t)) is answers =
      let same = value_texts is.1.0 rules t.now text is.1.1 in rw (is.1.2 ∙ ap profile_named same.0, same.1) at answers
  done_value rules text (Lines (Ask f a t)) is answers = absurd (not_asked a (codes "value") refl is.0)
  done_value rules text (EachLine f a) is answers = absurd (not_asked a (codes "value") refl is.0)
  done_value rules text o is answers = absurd (differs (name_of_order o) (codes "value") refl is.0)

  pub done_build : (rules : Option Text) (set : Text) (nodes : Option Text) (file : Text) (progress : Option Text) (o : Order)
      → IsOrder (codes "build") (Some set ∷ nodes ∷ Some file ∷ rules ∷ progress ∷ []) o → AnswersOrder c o e
      → AnswersOwed (build_owed (profile_named rules) set (option_map number_in nodes) file) c e
  done_build rules set nodes file progress (Lines (Build b)) is answers =
      let same = build_texts b.set.now b.file.now set file is.1.0 is.1.1 is.1.2 nodes rules progress is.1.3 in
      rw (is.1.6 ∙ ap profile_named same.3, same.0, same.2, is.1.5 ∙ ap (option_map number_in) same.1) at answers
  done_build rules set nodes file progress (Lines (Ask f a t)) is answers = absurd (not_asked a (codes "build") refl is.0)
  done_build rules set nodes file progress (EachLine f a) is answers = absurd (not_asked a (codes "build") refl is.0)
  done_build rules set nodes file progress o is answers = absurd (differs (name_of_order o) (codes "build") refl is.0)

  -- what holds of a probe of these texts holds of the order that was read
  module _ (P : Text → Text → Type 0) (file text : Text)
      (of : (f t : Bor Text) → AnswersOwed (owed_by (Ask f probed t)) c e → (owed_by (Ask f probed t)).right c e → P f.now t.now) where
    abbrev asking_so : By → Question → Bor Text → Bor Text → LinesOrder
    asking_so b q f t = Ask f (record { question = q; by = b }) t

    asked_probe : (b : By) (q : Question) (f t : Bor Text) → IsOrder (codes "probe") (Some file ∷ None ∷ None ∷ Some text ∷ []) (Lines (asking_so b q f t))
        → AnswersOwed (owed_by (asking_so b q f t)) c e → (owed_by (asking_so b q f t)).right c e → P file text
    asked_probe way.Table (question.Value value_form.Plain) f t is answers right =
        let same = probe_texts f.now t.now file text is.1.2 is.1.3 in rw (same.0, same.1) at (of f t answers right)
    asked_probe way.Table (question.Value value_form.Object) f t is answers right =
        absurd (true≢false (sym is.1.4 ∙ ap is_some (probe_texts f.now t.now file text is.1.2 is.1.3).2))
    asked_probe b (question.Moves moves_form.Best) f t is answers right = absurd (differs (codes "best") (codes "probe") refl is.0)
    asked_probe b q f t is answers right = absurd (differs (name_by b q) (codes "probe") refl is.0)

    each_probe : (b : By) (q : Question) (f : Bor Text)
        → IsOrder (codes "probe") (Some file ∷ None ∷ None ∷ Some text ∷ []) (EachLine f (record { question = q; by = b })) → ⊥
    each_probe way.Table (question.Value form) f is = unlike_texts f.now is.1.3 file text is.1.2 is.1.4
    each_probe b (question.Moves moves_form.Best) f is = differs (codes "best") (codes "probe") refl is.0
    each_probe b q f is = differs (name_by b q) (codes "probe") refl is.0

    pub done_probe : (o : Order) → IsOrder (codes "probe") (Some file ∷ None ∷ None ∷ Some text ∷ []) o → AnswersOrder c o e → AnswersRight c o e → P file text
    done_probe (Lines (Ask f a t)) is answers right = asked_probe a.by a.question f t is answers right
    done_probe (EachLine f a) is answers right = absurd (each_probe a.by a.question f is)
    done_probe o is answers right = absurd (differs (name_of_order o) (codes "probe") refl is.0)
