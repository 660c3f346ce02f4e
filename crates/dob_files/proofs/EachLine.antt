-- The answers to lines, one more at a time, and what was told of them.
use Rattle.dob_files.proofs.Common.{◌++◌, ◌||◌, ◌∙◌, ◌∷◌, ◌≡◌, ◌⊎◌, Bool, List, None, Option, Some, [], ap, append-nil, false, flat_map, inl, inr, refl}
use Rattle.dob_files.proofs.Common.{subst, sym, true, ℕ, or-false, Err, IfErr, Ok, OnOk, Result, Change, Puts, SinkState}
use Rattle.dob_files.proofs.Common.{Stops, change, FailsWhere, ShelfChange}
use Rattle.dob_files.proofs.Common.{Ending, is_io, AnswersLines, AreAllLines, EndsLines, HearsLine}
use Rattle.dob_files.proofs.Common.{PutsText, TellsOf, TellsSome, Told, ProgramFault, Io, Memory}
use Rattle.std.proofs.Common.{append_assoc, arith}
use Rattle.std.proofs.lemmas.Grind.{flat_map-append}
use Rattle.std.proofs.lemmas.List.Folds.{concat-append, list_any-append}
use Rattle.std.specs.List.{list_any}
use Rattle.std.specs.Str.Lines.{lines as lines_of}
use Rattle.dob_files.specs.Telling.{AreAnswers, AreFirstLines, AreLinesBefore, TakesOne, PutsAll, StopsText, TellsEach, TellsLinesOf, TellsOne, TellsOver}
use Rattle.dob_files.specs.Telling.{told_refused, told_text}

-- ---- one more line

module _ (A : Type 0) (Is : List ℕ → A → Type 0) where
  -- an answer behind the others, to the line behind the others
  are_more : (ls : List (List ℕ)) (xs : List A) (line : List ℕ) (answer : A) → AreAnswers Is ls xs → Is line answer
      → AreAnswers Is (ls ++ line ∷ []) (xs ++ answer ∷ [])
  are_more [] [] line answer are is = (is, tt)
  are_more (l ∷ ls) (a ∷ xs) line answer are is = (are.0, are_more ls xs line answer are.1 is)
  are_more ls xs line answer are is = absurd are

-- its lines come to the others
lines_more : (A : Type 0) (tell : A → List ℕ) (xs : List A) (answer : A) → flat_map tell (xs ++ answer ∷ []) ≡ flat_map tell xs ++ tell answer
lines_more A tell xs answer = flat_map-append tell xs (answer ∷ []) ∙ ap (λ (l : List ℕ). flat_map tell xs ++ l) (append-nil (tell answer))

-- and that it is refused
refused_more : (A : Type 0) (refuses : A → Bool) (xs : List A) (answer : A) → list_any refuses (xs ++ answer ∷ []) ≡ (list_any refuses xs || refuses answer)
refused_more A refuses xs answer = list_any-append refuses xs (answer ∷ []) ∙ ap (λ (b : Bool). list_any refuses xs || b) (or-false (refuses answer))

module _ (A : Type 0) (tell : A → List ℕ) (refuses : A → Bool) (Is : List ℕ → A → Type 0) where
  -- no line
  none_told : TellsLinesOf A tell refuses Is [] false []
  none_told = record { answers = []; each = tt; same = refl; refused = refl }

  -- and one behind the others
  one_told : (lines : List (List ℕ)) (line : List ℕ) (answer : A) (was_refused is_refused : Bool) (old new : List ℕ)
      → TellsLinesOf A tell refuses Is lines was_refused old → Is line answer → new ≡ old ++ tell answer → is_refused ≡ (was_refused || refuses answer)
      → TellsLinesOf A tell refuses Is (lines ++ line ∷ []) is_refused new
  one_told lines line answer was_refused is_refused old new told is grown refused = record {
    answers = told.answers ++ answer ∷ [];
    each = are_more A Is lines told.answers line answer told.each is;
    same = grown ∙ (ap (λ (l : List ℕ). l ++ tell answer) told.same ∙ sym (lines_more A tell told.answers answer));
    refused = refused ∙ (ap (λ (b : Bool). b || refuses answer) told.refused ∙ sym (refused_more A refuses told.answers answer));
  }

-- ---- pieces, one after the other
all_after : (first next last : SinkState) (xs ys : List (List ℕ)) → PutsAll first next xs → PutsAll next last ys → PutsAll first last (xs ++ ys)
all_after first next last [] ys same all = subst (λ (s : SinkState). PutsAll s last ys) same all
all_after first next last (x ∷ xs) ys all more = (all.0, all.1, all_after all.0 next last xs ys all.2 more)

pub put_none : (first : SinkState) → PutsText (change first first) []
put_none first = ([], refl, refl)

pub put_one : (first last : SinkState) (piece : List ℕ) → Puts (change first last) piece → PutsText (change first last) piece
put_one first last piece puts = (piece ∷ [], (last, puts, refl), sym (append-nil piece))

put_more : (first next last : SinkState) (xs ys : List ℕ) → PutsText (change first next) xs → PutsText (change next last) ys
    → PutsText (change first last) (xs ++ ys)
put_more first next last xs ys one more =
    (one.0 ++ more.0, all_after first next last one.0 more.0 one.1 more.1, rw (one.2, more.2) (sym (concat-append one.0 more.0)))

-- what a call that tells gave
pub put_or_stopped : (c : Change) (text : List ℕ) (result : Result (Unit {0}) ProgramFault) → OnOk result (PutsText c text)
    → IfErr result (λ fault. (fault ≡ Io) × Stops c text) → PutsText c text ⊎ Stops c text
put_or_stopped c text result put stopped = grind arith

-- ---- the lines that were heard

-- what they come to is told, and then what is held
pub record AreHeard (Is : List ℕ → Told → Type 0) (input left : Option (List ℕ)) (first now : SinkState) (is_refused : Bool) (held : List ℕ) : Type 0 where
  pub lines : List (List ℕ)
  pub split : (known : List ℕ) → input ≡ Some known → (rest : List ℕ) × (left ≡ Some rest) × (lines_of known ≡ lines ++ lines_of rest)
  pub text : List ℕ
  pub right : TellsOf Is lines is_refused (text ++ held)
  pub told : PutsText (change first now) text

module _ (Is : List ℕ → Told → Type 0) (input : Option (List ℕ)) (first : SinkState) where
  pub none_heard : (is_refused : Bool) (held : List ℕ) → is_refused ≡ false → held ≡ [] → AreHeard Is input input first first is_refused held
  none_heard is_refused held none empty = record {
    lines = [];
    split = λ known is. (known, is, refl);
    text = [];
    right = rw (none, empty) (none_told Told told_text told_refused Is);
    told = put_none first;
  }

module _ {Is : List ℕ → Told → Type 0} {input left : Option (List ℕ)} {first now : SinkState} {is_refused : Bool} {held : List ℕ}
    (heard : AreHeard Is input left first now is_refused held) where
  -- a front of what was held is told
  pub ahead_told : (next : SinkState) (was_refused : Bool) (front rest : List ℕ) → was_refused ≡ is_refused → PutsText (change now next) front
      → held ≡ front ++ rest → AreHeard Is input left first next was_refused rest
  ahead_told next was_refused front rest same put is = record {
    lines = heard.lines;
    split = heard.split;
    text = heard.text ++ front;
    right = rw (same, append_assoc heard.text front rest, ← is) heard.right;
    told = put_more first now next heard.text front heard.told put;
  }

  -- a line more is heard
  pub one_heard : (Other : List ℕ → Told → Type 0) (after : Option (List ℕ)) (new : Told) → ((line : List ℕ) (told : Told) → Other line told → Is line told)
      → HearsLine Other left after (record { text = held; is_refused = is_refused }) new true → AreHeard Is input after first now new.is_refused new.text
  one_heard Other after new weaker hears =
      let line : List ℕ = hears.0 in
      let one : Told = hears.1 in record {
        lines = heard.lines ++ line ∷ [];
        split = λ known is.
            let was = heard.split known is in
            let takes = hears.2 was.0 was.1 in (takes.0, takes.1, was.2 ∙ (rw takes.2 (sym (append_assoc heard.lines (line ∷ []) (lines_of takes.0)))));
        text = heard.text;
        right = one_told Told told_text told_refused Is heard.lines line one is_refused new.is_refused (heard.text ++ held) (heard.text ++ new.text)
            heard.right (weaker line one hears.3) (rw hears.4 (sym (append_assoc heard.text held one.text))) hears.5;
        told = heard.told;
      }

  -- at the end all lines were heard, and all that was held is told
  pub all_told : (last : SinkState) → ((known : List ℕ) → left ≡ Some known → known ≡ []) → PutsText (change now last) held
      → TellsSome (AreAllLines input) (TellsOf Is) is_refused (PutsText (change first last))
  all_told last none put = record {
    lines = heard.lines;
    which = λ known is. let was = heard.split known is in rw (was.2, none was.0 was.1) (sym (append-nil heard.lines));
    text = heard.text ++ held;
    right = heard.right;
    told = put_more first now last heard.text held heard.told put;
  }

  -- where it ends before, the first lines were heard
  first_heard : {IsToldSo : List ℕ → Type 0} → IsToldSo (heard.text ++ held) → TellsSome (AreFirstLines input) (TellsOf Is) is_refused IsToldSo
  first_heard told = record {
    lines = heard.lines;
    which = λ known is. let was = heard.split known is in (lines_of was.0, was.2);
    text = heard.text ++ held;
    right = heard.right;
    told = told;
  }

  pub first_stopped : (last : SinkState) → Stops (change now last) held
      → TellsSome (AreFirstLines input) (TellsOf Is) is_refused (StopsText (change first last))
  first_stopped last stops = first_heard (heard.text, held, now, heard.told, stops, refl)

  -- where that is by a fault, these are all lines before the one that came to it
  all_before : (after : Option (List ℕ)) (fault : ProgramFault) → (fault ≡ Memory) ⊎ TakesOne left after → AreLinesBefore input after fault heard.lines
  all_before after fault taken = λ known is.
      let was = heard.split known is in (was.0, was.2, subst (λ (l : Option (List ℕ)). (fault ≡ Memory) ⊎ TakesOne l after) was.1 taken)

  before_heard : (after : Option (List ℕ)) (fault : ProgramFault) → (fault ≡ Memory) ⊎ TakesOne left after → {IsToldSo : List ℕ → Type 0}
      → IsToldSo (heard.text ++ held) → TellsSome (AreLinesBefore input after fault) (TellsOf Is) is_refused IsToldSo
  before_heard after fault taken told = record {
    lines = heard.lines;
    which = all_before after fault taken;
    text = heard.text ++ held;
    right = heard.right;
    told = told;
  }

  pub first_told : (last : SinkState) (after : Option (List ℕ)) (fault : ProgramFault) → (fault ≡ Memory) ⊎ TakesOne left after
      → PutsText (change now last) held ⊎ Stops (change now last) held
      → TellsSome (AreLinesBefore input after fault) (TellsOf Is) is_refused (λ text. PutsText (change first last) text ⊎ StopsText (change first last) text)
  first_told last after fault taken (inl put) = before_heard after fault taken (inl (put_more first now last heard.text held heard.told put))
  first_told last after fault taken (inr stops) = before_heard after fault taken (inr (heard.text, held, now, heard.told, stops, refl))

  -- of bytes that are known all are known
  pub never_known : left ≡ None → input ≡ None
  never_known none = grind (arith, heard.split)

-- what is held stayed as it was
pub same_heard : {Is : List ℕ → Told → Type 0} {input left : Option (List ℕ)} {first now : SinkState} {is_refused : Bool} {held : List ℕ} (new : Told)
    → new ≡ record { text = held; is_refused = is_refused } → AreHeard Is input left first now is_refused held
    → AreHeard Is input left first now new.is_refused new.text
same_heard {Is} {input} {left} {first} {now} new same = subst (λ (t : Told). AreHeard Is input left first now t.is_refused t.text) (sym same)

-- no device failed, where none had and what answers hadn't
pub still_works : (failed by : Bool) → by ≡ false → (failed || by) ≡ failed
still_works failed by works = ap (λ (b : Bool). failed || b) works ∙ or-false failed

-- what ends all by another one that answers
pub ends_weaker : (Ends Other : ProgramFault → Type 0) (left input : Option (List ℕ)) (fault : ProgramFault)
    → ((fault : ProgramFault) → Ends fault → Other fault)
    → (left ≡ None → input ≡ None) → EndsLines Ends left fault → EndsLines Other input fault
ends_weaker Ends Other left input fault weaker none ends = grind (arith, weaker, none)

-- ---- what was told

-- some of the lines, told in some way
pub some_weaker : (Which Other : List (List ℕ) → Type 0) (AreLines Are : List (List ℕ) → Bool → List ℕ → Type 0) (is_refused : Bool)
    (IsToldSo IsSaidSo : List ℕ → Type 0) → ((lines : List (List ℕ)) → Which lines → Other lines)
    → ((lines : List (List ℕ)) (text : List ℕ) → AreLines lines is_refused text → Are lines is_refused text)
    → ((text : List ℕ) → IsToldSo text → IsSaidSo text) → TellsSome Which AreLines is_refused IsToldSo → TellsSome Other Are is_refused IsSaidSo
some_weaker Which Other AreLines Are is_refused IsToldSo IsSaidSo which right so told = record {
  lines = told.lines;
  which = which told.lines told.which;
  text = told.text;
  right = right told.lines told.text told.right;
  told = so told.text told.told;
}

-- of lines that are right in another way, with faults that hold too
pub each_weaker : (input known left after : Option (List ℕ)) (AreLines Are : List (List ℕ) → Bool → List ℕ → Type 0) (Holds Also : ProgramFault → Type 0)
    (Works Fine : Type 0)
    (out : Change) (result : Result Bool ProgramFault) → known ≡ input → after ≡ left
    → ((lines : List (List ℕ)) (is_refused : Bool) (text : List ℕ) → AreLines lines is_refused text → Are lines is_refused text)
    → ((fault : ProgramFault) → Holds fault → Also fault) → (Works → Fine) → TellsEach input left AreLines Holds Works out result
    → TellsEach known after Are Also Fine out result
each_weaker input known left after AreLines Are Holds Also Works Fine out result same kept right fault fine = go result
  where
    all : (lines : List (List ℕ)) → AreAllLines input lines → AreAllLines known lines
    all lines which = λ bytes is. which bytes (sym same ∙ is)

    first : (lines : List (List ℕ)) → AreFirstLines input lines → AreFirstLines known lines
    first lines which = λ bytes is. which bytes (sym same ∙ is)

    before : (f : ProgramFault) (lines : List (List ℕ)) → AreLinesBefore input left f lines → AreLinesBefore known after f lines
    before f lines which = λ bytes is. let was = which bytes (sym same ∙ is) in
        (was.0, was.1, subst (λ (l : Option (List ℕ)). (f ≡ Memory) ⊎ TakesOne (Some was.0) l) (sym kept) was.2)

    go : (r : Result Bool ProgramFault) → TellsEach input left AreLines Holds Works out r → TellsEach known after Are Also Fine out r
    go (Ok r) told = (some_weaker _ _ AreLines Are r _ _ all (λ lines text. right lines r text) (λ text so. so) told.0, fine told.1)
    go (Err f) (inl (holds, inl none)) = inl (fault f holds, inl (none.0, kept ∙ (none.1 ∙ sym same)))
    go (Err f) (inl (holds, inr (r, some))) =
        inl (fault f holds, inr (r, some_weaker _ _ AreLines Are r _ _ (before f) (λ lines text. right lines r text) (λ text so. so) some))
    go (Err f) (inr (io, (r, some), works)) =
        inr (io, (r, some_weaker _ _ AreLines Are r _ _ first (λ lines text. right lines r text) (λ text so. so) some), fine works)

-- over a shelf, and so the program answers them
over_weaker : (c : ShelfChange) (AreLines Are : List (List ℕ) → Bool → List ℕ → Type 0) (Holds : ProgramFault → Type 0) (out : Change)
    (result : Result Bool ProgramFault)
    → ((lines : List (List ℕ)) (is_refused : Bool) (text : List ℕ) → AreLines lines is_refused text → Are lines is_refused text)
    → TellsOver c AreLines Holds out result → TellsOver c Are Holds out result
over_weaker c AreLines Are Holds out result right =
    let Over : ProgramFault → Type 0 = λ fault. Holds fault × FailsWhere c (is_io fault) in
    each_weaker c.before.input c.before.input c.after.input c.after.input AreLines Are Over Over (FailsWhere c false) (FailsWhere c false) out result refl refl right
    (λ fault holds. holds) (λ works. works)

pub lines_weaker : (c : ShelfChange) (AreLines Are : List (List ℕ) → Bool → List ℕ → Type 0) (Holds : ProgramFault → Type 0) (e : Ending)
    → ((lines : List (List ℕ)) (is_refused : Bool) (text : List ℕ) → AreLines lines is_refused text → Are lines is_refused text)
    → AnswersLines c AreLines Holds e → AnswersLines c Are Holds e
lines_weaker c AreLines Are Holds e right (inl (r, told, status, silent)) =
    inl (r, over_weaker c AreLines Are Holds e.out (Ok r) right told, status, silent)
lines_weaker c AreLines Are Holds e right (inr (f, told, line)) = inr (f, over_weaker c AreLines Are Holds e.out (Err f) right told, line)

-- no call failed but for what the fault says, where opening the file didn't
pub fails_on : (before mid after fault : Bool) → mid ≡ (before || false) → (after || false) ≡ (mid || fault) → after ≡ (before || fault)
fails_on before mid after fault opened told = grind arith

-- answers of one kind are of another one
pub answers_are : (A : Type 0) (Is Other : List ℕ → A → Type 0) → ((line : List ℕ) (answer : A) → Is line answer → Other line answer)
    → (ls : List (List ℕ)) (xs : List A) → AreAnswers Is ls xs → AreAnswers Other ls xs
answers_are A Is Other weaker [] [] are = tt
answers_are A Is Other weaker (l ∷ ls) (a ∷ xs) are = (weaker l a are.0, answers_are A Is Other weaker ls xs are.1)
answers_are A Is Other weaker ls xs are = absurd are

pub tells_are : (A : Type 0) (tell : A → List ℕ) (refuses : A → Bool) (Is Other : List ℕ → A → Type 0)
    → ((line : List ℕ) (answer : A) → Is line answer → Other line answer) → (lines : List (List ℕ)) (is_refused : Bool) (text : List ℕ)
    → TellsLinesOf A tell refuses Is lines is_refused text → TellsLinesOf A tell refuses Other lines is_refused text
tells_are A tell refuses Is Other weaker lines is_refused text told = record {
  answers = told.answers;
  each = answers_are A Is Other weaker lines told.answers told.each;
  same = told.same;
  refused = told.refused;
}

-- what is told of each line are its answers
module _ (A : Type 0) (tell : A → List ℕ) (refuses : A → Bool) (Is : List ℕ → A → Type 0) where
  answers_by : (ls : List (List ℕ)) (ts : List Told) → AreAnswers (TellsOne tell refuses Is) ls ts
      → (xs : List A) × AreAnswers Is ls xs × (flat_map told_text ts ≡ flat_map tell xs) × (list_any told_refused ts ≡ list_any refuses xs)
  answers_by [] [] are = ([], tt, refl, refl)
  answers_by (l ∷ ls) (t ∷ ts) are =
      let one = are.0 in
      let more = answers_by ls ts are.1 in (one.0 ∷ more.0, (one.1, more.1), rw (one.2, more.2) refl, rw (one.3, more.3) refl)
  answers_by ls ts are = absurd are

  pub tells_by : (lines : List (List ℕ)) (is_refused : Bool) (text : List ℕ) → TellsOf (TellsOne tell refuses Is) lines is_refused text
      → TellsLinesOf A tell refuses Is lines is_refused text
  tells_by lines is_refused text told =
      let by = answers_by lines told.answers told.each in
      record { answers = by.0; each = by.1; same = told.same ∙ by.2; refused = told.refused ∙ by.3 }
