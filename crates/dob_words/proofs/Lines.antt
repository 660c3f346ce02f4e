-- The lines that ask for something are just those that the words' meaning says.
use Rattle.dob_words.proofs.Common.{◌++◌, ◌+◌, ◌∙◌, ◌∷◌, ◌≡◌, Bool, List, None, Option, Some, [], ap, append-nil, append_assoc, arith, codes, cond, drop}
use Rattle.dob_words.proofs.Common.{false, inl, inr, refl, rules, subst, suc, sym, true, true≢false, ℕ, Decides-eqb, bytes_eq-Decides, after_first}
use Rattle.dob_words.proofs.Common.{before_first, option_map_or, ◌&&◌, ◌==◌, ◌||◌, find, fold, is_some, not, option_map, unwrap_or, bytes_eq, has_byte}
use Rattle.dob_words.proofs.Common.{IsReadingOf, AreFit, IsFit, Given, Meaning, Stand, after_dashes, after_part, after_word, asked, asks, at_end, behind}
use Rattle.dob_words.proofs.Common.{between, call, dashes, ended, fits, flag, has_topic, help, is_clear, is_dashes, is_help_flag, is_text, kept, label_of}
use Rattle.dob_words.proofs.Common.{meaning_of, meaning_of_command, meaning_of_form, meaning_of_other, meaning_of_topic, name_in, named_part, option}
use Rattle.dob_words.proofs.Common.{part_named, placed, without_conflict, takes_lines, text, text_after, texts_of, unknown, usage, valued, version, wants}
use Rattle.dob_words.proofs.Common.{writes_stream, Reading, chars}
use Rattle.dob_words.specs.Forms.{is_among, is_needed, Form, Text, forms, labels, no_form}
use Rattle.dob_words.specs.Lines.{AreNew, Later, Gives, IsAmong, IsCommandLine, by_dashes, by_flag, by_option, by_place, by_value, next, none, nothing}
use Rattle.dob_words.specs.Readings.{ComesFromLine, SomeLine}
use Rattle.dob_words.specs.Words.{reaches_without_file}
use Rattle.dob_words.specs.declared.command.Reading.TheVariants as reading
use Rattle.dob_words.proofs.Lexing.{hyphen_first, before_none, take_one}
use Rattle.dob_words.proofs.Texts.{Each, kept_both}
use Rattle.dob_words.proofs.FormWords.{each_flag, each_found}
use Rattle.std.proofs.lemmas.Bool.{cases_Bool}
use Rattle.std.proofs.lemmas.Option.{same_Some}

-- ---- options' words
drop_more : (n x : ℕ) (xs : Text) → drop (1 + n + 1) (x ∷ xs) ≡ drop (n + 1) xs
drop_more n x xs = let e : 1 + n + 1 ≡ suc (n + 1) = omega arith in rw e refl

-- a text with `=` (61) is what stands before the first, and it, and what stands behind
equals_split : (t : Text) → has_byte 61 t ≡ true → before_first (λ x. x == 61) t ++ 61 ∷ after_first (λ x. x == 61) t ≡ t
equals_split [] e = absurd (cc)
equals_split (x ∷ xs) e = grind (arith, Decides-eqb x 61, take_one, drop_more, equals_split xs)

dashes_of : (word rest : Text) → after_dashes word ≡ Some rest → codes "--" ++ rest ≡ word
dashes_of [] rest e = absurd (cc)
dashes_of (a ∷ []) rest e = absurd (cc)
dashes_of (a ∷ b ∷ more) rest e = grind (arith, Decides-eqb a 45, Decides-eqb b 45)

abbrev asked_name : Meaning → Text
asked_name (asks name texts) = name
asked_name _ = []

abbrev asked_texts : Meaning → List (Option Text)
asked_texts (asks name texts) = texts
asked_texts _ = []

found_passes : (p : Text × Text → Bool) (os : List (Text × Text)) (o : Text × Text) → find p os ≡ Some o → p o ≡ true
found_passes p [] o e = absurd (cc)
found_passes p (x ∷ xs) o e = grind (arith, found_passes p xs o)

-- ---- what is asked for is given by the words

module _ (f : Form) (name : Text) (texts : List (Option Text)) where
  abbrev next_stand : Stand → Text → Stand
  next_stand = after_word f

  -- these texts came after those before
  abbrev Came : Given → Given → Type 0
  Came before more = AreNew f before more × (asked f (before ++ more) ≡ asks name texts)

  -- the words from here on give what is asked for
  abbrev Told : Stand → List Text → Type 0
  Told (between before left) words = (more : Given) × Gives f left words more × Came before more
  Told (wants label before left) words =
      (t : Text) × (rest : List Text) × (more : Given) × (words ≡ t ∷ rest) × (is_text t ≡ true) × (fits f label t ≡ true) × Gives f left rest more
      × Came (before ++ (label, t) ∷ []) more
  Told (behind before left) words = (more : Given) × Later left words more × Came before more
  Told (ended m) words = m ≡ asks name texts

  ended_told : (m : Meaning) (words : List Text) → at_end f (fold next_stand (ended m) words) ≡ asks name texts → m ≡ asks name texts
  ended_told m [] e = e
  ended_told m (word ∷ rest) e = ended_told m rest e

  is_asked : Meaning → Bool
  is_asked (asks n ts) = true
  is_asked _ = false

  not_usage : {X : Type 0} → usage ≡ asks name texts → X
  unfolding is_asked
  not_usage e = absurd (true≢false (sym (ap is_asked e)))

  versions_ask : {X : Type 0} → version ≡ asks name texts → X
  unfolding is_asked
  versions_ask e = absurd (true≢false (sym (ap is_asked e)))

  not_help : {X : Type 0} → help ≡ asks name texts → X
  unfolding is_asked
  not_help e = absurd (true≢false (sym (ap is_asked e)))

  came_more : (label t : Text) (before more : Given) → text_after label before ≡ None → fits f label t ≡ true
      → Came (before ++ (label, t) ∷ []) more → Came before ((label, t) ∷ more)
  came_more label t before more fresh fit came = ((fresh, fit, came.0), ap (asked f) (sym (append_assoc before ((label, t) ∷ []) more)) ∙ came.1)

  module _ (word : Text) (rest : List Text) (rec : (stand : Stand) → at_end f (fold next_stand stand rest) ≡ asks name texts → Told stand rest) where
    -- what is asked for where this word led to this stand
    abbrev Led : Stand → Type 0
    Led stand = at_end f (fold next_stand stand rest) ≡ asks name texts

    -- a text that was kept is the first of its label, and fits
    kept_led : (label t : Text) (before : Given) (stand : Stand) → Led (kept f label t before stand)
        → (text_after label before ≡ None) × (fits f label t ≡ true) × Led stand
    kept_led label t before stand e = elim (cases_Bool (is_some (text_after label before) || not (fits f label t))) [
      | inl refused ↦ not_usage (ended_told usage rest (rw refused at e))
      | inr kept ↦ let both = kept_both (text_after label before) (fits f label t) kept in (both.0, both.1, rw kept at e)
    ]

    -- and the rest gives what comes after it
    kept_told : (label t : Text) (before : Given) (left : List Text) → Led (kept f label t before (between (before ++ (label, t) ∷ []) left))
        → (more : Given) × Gives f left rest more × Came before ((label, t) ∷ more)
    kept_told label t before left e =
        let k = kept_led label t before (between (before ++ (label, t) ∷ []) left) e in
        let r : Told (between (before ++ (label, t) ∷ []) left) rest = rec (between (before ++ (label, t) ∷ []) left) k.2 in
        (r.0, r.1, came_more label t before r.0 k.0 k.1 r.2)

    placed_told : (before : Given) (left : List Text) → is_text word ≡ true → Led (placed f between before left word) → Told (between before left) (word ∷ rest)
    placed_told before [] t e = not_usage (ended_told usage rest e)
    placed_told before (label ∷ left) t e =
        let r = kept_told label word before left e in ((label, word) ∷ r.0, by_place label word left rest r.0 t r.1, r.2)

    after_told : (before : Given) (left : List Text) → Led (placed f behind before left word) → Told (behind before left) (word ∷ rest)
    after_told before [] e = not_usage (ended_told usage rest e)
    after_told before (label ∷ left) e =
        let k = kept_led label word before (behind (before ++ (label, word) ∷ []) left) e in
        let r : Told (behind (before ++ (label, word) ∷ []) left) rest = rec (behind (before ++ (label, word) ∷ []) left) k.2 in
        ((label, word) ∷ r.0, next label word left rest r.0 r.1, came_more label word before r.0 k.0 k.1 r.2)

    wanted_told : (label : Text) (before : Given) (left : List Text) → Led (next_stand (wants label before left) word)
        → Told (wants label before left) (word ∷ rest)
    wanted_told label before left e = go (is_text word) (fits f label word) refl refl e
      where
        go : (b fit : Bool) → is_text word ≡ b → fits f label word ≡ fit
            → Led (cond b (cond fit (between (before ++ (label, word) ∷ []) left) (ended usage)) (ended usage)) → Told (wants label before left) (word ∷ rest)
        go true true t fit e =
            let r : Told (between (before ++ (label, word) ∷ []) left) rest = rec (between (before ++ (label, word) ∷ []) left) e in
            (word, rest, r.0, refl, t, fit, r.1, r.2)
        go b fit t is e = not_usage (ended_told usage rest e)

    named_told : (before : Given) (left : List Text) (r : Text) → codes "--" ++ r ≡ word → Led (after_part f before left word (named_part f r))
        → Told (between before left) (word ∷ rest)
    named_told before left r is e = go (label_of f.options (name_in r)) (has_byte 61 r) (is_among f.flags (name_in r)) refl refl refl e
      where
        later_equals : Text
        later_equals = after_first (λ x. x == 61) r

        with_option : (label : Text) → label_of f.options r ≡ Some label → (o : Option Text) → text_after label before ≡ o
            → Led (cond (is_some o) (ended usage) (wants label before left))
            → Told (between before left) (word ∷ rest)
        with_option label known (Some u) fresh e = not_usage (ended_told usage rest e)
        with_option label known None fresh e =
            let q : Told (wants label before left) rest = rec (wants label before left) e in (
              (label, q.0) ∷ q.2,
              subst (λ ws. Gives f left ws ((label, q.0) ∷ q.2)) (ap (λ ws. (codes "--" ++ r) ∷ ws) (sym q.3) ∙ ap (λ w. w ∷ rest) is)
                  (by_option r label q.0 left q.1 q.2 known q.4 q.6),
              came_more label q.0 before q.2 fresh q.5 q.7,
            )

        with_value : (label : Text) → label_of f.options (name_in r) ≡ Some label → name_in r ++ 61 ∷ later_equals ≡ r
            → Led (kept f label later_equals before (between (before ++ (label, later_equals) ∷ []) left)) → Told (between before left) (word ∷ rest)
        with_value label known split e =
            let q = kept_told label later_equals before left e in (
              (label, later_equals) ∷ q.0,
              subst (λ w. Gives f left (w ∷ rest) ((label, later_equals) ∷ q.0)) (ap (λ x. codes "--" ++ x) split ∙ is)
                  (by_value (name_in r) label later_equals left rest q.0 known q.1),
              q.2,
            )

        with_flag : is_among f.flags r ≡ true → Led (kept f r [] before (between (before ++ (r, []) ∷ []) left)) → Told (between before left) (word ∷ rest)
        with_flag own e =
            let q = kept_told r [] before left e in
            ((r, []) ∷ q.0, subst (λ w. Gives f left (w ∷ rest) ((r, []) ∷ q.0)) is (by_flag r left rest q.0 own q.1), q.2)

        -- without `=` all is the name
        all_name : has_byte 61 r ≡ false → name_in r ≡ r
        all_name h = before_none r h

        go : (o : Option Text) (b own : Bool) → label_of f.options (name_in r) ≡ o → has_byte 61 r ≡ b → is_among f.flags (name_in r) ≡ own
            → Led (after_part f before left word
            (option_map_or (λ label. option_map_or (valued label) (cond b (Some later_equals) None) (option label)) o
            (cond (own && not (is_some (cond b (Some later_equals) None))) (flag (name_in r)) unknown)))
            → Told (between before left) (word ∷ rest)
        go None b false known h own e = not_usage (ended_told usage rest e)
        go None true true known h own e = not_usage (ended_told usage rest e)
        go None false true known h own e =
            with_flag (ap (is_among f.flags) (sym (all_name h)) ∙ own)
            (subst (λ n. Led (kept f n [] before (between (before ++ (n, []) ∷ []) left))) (all_name h) e)
        go (Some label) false b known h own e =
            with_option label (ap (label_of f.options) (sym (all_name h)) ∙ known) (text_after label before) refl e
        go (Some label) true b known h own e = with_value label known (equals_split r h) e

    hyphen_told : (before : Given) (left : List Text) (o : Option Text) → after_dashes word ≡ o
        → Led (after_part f before left word (option_map_or (named_part f) o unknown)) → Told (between before left) (word ∷ rest)
    hyphen_told before left None is e = not_usage (ended_told usage rest e)
    hyphen_told before left (Some r) is e = named_told before left r (dashes_of word r is) e

    between_told : (before : Given) (left : List Text) → Led (next_stand (between before left) word) → Told (between before left) (word ∷ rest)
    between_told before left e = go (is_text word) (is_dashes word) (is_help_flag word) refl refl e
      where
        go : (a b c : Bool) → is_text word ≡ a → is_dashes word ≡ b
            → Led (after_part f before left word (cond a text (cond b dashes (cond c call (option_map_or (named_part f) (after_dashes word) unknown)))))
            → Told (between before left) (word ∷ rest)
        go true b c t d e = placed_told before left t e
        go false true c t d e =
            let r : Told (behind before left) rest = rec (behind before left) e in
            (r.0, subst (λ w. Gives f left (w ∷ rest) r.0) ((bytes_eq-Decides (codes "--") word).0 d) (by_dashes left rest r.0 r.1), r.2)
        go false false true t d e = not_help (ended_told help rest e)
        go false false false t d e = hyphen_told before left (after_dashes word) refl e

    step_told : (stand : Stand) → Led (next_stand stand word) → Told stand (word ∷ rest)
    step_told (between before left) e = between_told before left e
    step_told (wants label before left) e = wanted_told label before left e
    step_told (behind before left) e = after_told before left e
    step_told (ended m) e = ended_told m rest e

  told : (words : List Text) (stand : Stand) → at_end f (fold next_stand stand words) ≡ asks name texts → Told stand words
  told [] (between before left) e = ([], nothing left, (tt, ap (asked f) (append-nil before) ∙ e))
  told [] (wants label before left) e = not_usage e
  told [] (behind before left) e = ([], none left, (tt, ap (asked f) (append-nil before) ∙ e))
  told [] (ended m) e = e
  told (word ∷ rest) stand e = step_told word rest (told rest) stand e

-- ---- and what a line gives is asked for

-- the words of options and flags are read as such
pub record IsSpelled (f : Form) : Type 0 where
  pub by_name : Each (λ o. part_named f (codes "--" ++ o.0) ≡ option o.1) f.options
  pub by_value : Each (λ o. (t : Text) → part_named f (codes "--" ++ o.0 ++ 61 ∷ t) ≡ valued o.1 t) f.options
  pub by_flag : Each (λ n. part_named f (codes "--" ++ n) ≡ flag n) f.flags

dashes_part : (f : Form) → part_named f (codes "--") ≡ dashes
dashes_part f = rw (hyphen_first []) refl

module _ (f : Form) (is : IsSpelled f) where
  abbrev after : Stand → Text → Stand
  after = after_word f

  -- an option is one of the form's
  known_option : (name label : Text) → label_of f.options name ≡ Some label
      → (part_named f (codes "--" ++ name) ≡ option label) × ((t : Text) → part_named f (codes "--" ++ name ++ 61 ∷ t) ≡ valued label t)
  known_option name label e = go (find (λ o. bytes_eq o.0 name) f.options) refl e
    where
      go : (m : Option (Text × Text)) → find (λ o. bytes_eq o.0 name) f.options ≡ m → option_map (λ o. o.1) m ≡ Some label
          → (part_named f (codes "--" ++ name) ≡ option label) × ((t : Text) → part_named f (codes "--" ++ name ++ 61 ∷ t) ≡ valued label t)
      go None found e = absurd (true≢false (sym (ap is_some e)))
      go (Some o) found e =
          let name_is : o.0 ≡ name = (bytes_eq-Decides o.0 name).0 (found_passes (λ x. bytes_eq x.0 name) f.options o found) in
          let label_is : o.1 ≡ label = ap (λ (m : Option Text). unwrap_or m []) e in (
            subst (λ n. part_named f (codes "--" ++ n) ≡ option label) name_is
                (each_found (λ x. part_named f (codes "--" ++ x.0) ≡ option x.1) (λ x. bytes_eq x.0 name) f.options o is.by_name found
                ∙ ap option label_is),
            λ t. subst (λ n. part_named f (codes "--" ++ n ++ 61 ∷ t) ≡ valued label t) name_is
                (each_found (λ x. (u : Text) → part_named f (codes "--" ++ x.0 ++ 61 ∷ u) ≡ valued x.1 u)
                (λ x. bytes_eq x.0 name) f.options o is.by_value found t ∙ ap (λ l. valued l t) label_is),
          )

  after_asked : (left words : List Text) (given before : Given) → Later left words given → AreNew f before given
      → at_end f (fold after (behind before left) words) ≡ asked f (before ++ given)
  after_asked _ _ _ before (none left) new = ap (asked f) (sym (append-nil before))
  after_asked _ _ _ before (next label t left words given more) new =
      rw (new.0, new.1) (after_asked left words given (before ++ (label, t) ∷ []) more new.2 ∙ ap (asked f) (append_assoc before ((label, t) ∷ []) given))

  given_asked : (left words : List Text) (given before : Given) → Gives f left words given → AreNew f before given
      → at_end f (fold after (between before left) words) ≡ asked f (before ++ given)
  given_asked _ _ _ before (nothing left) new = ap (asked f) (sym (append-nil before))
  given_asked _ _ _ before (by_place label t left words given plain more) new =
      rw (plain, new.0, new.1) (given_asked left words given (before ++ (label, t) ∷ []) more new.2
      ∙ ap (asked f) (append_assoc before ((label, t) ∷ []) given))
  given_asked _ _ _ before (by_option name label t left words given known plain more) new =
      rw ((known_option name label known).0, new.0, plain, new.1)
      (given_asked left words given (before ++ (label, t) ∷ []) more new.2 ∙ ap (asked f) (append_assoc before ((label, t) ∷ []) given))
  given_asked _ _ _ before (by_value name label t left words given known more) new =
      rw ((known_option name label known).1 t, new.0, new.1)
      (given_asked left words given (before ++ (label, t) ∷ []) more new.2 ∙ ap (asked f) (append_assoc before ((label, t) ∷ []) given))
  given_asked _ _ _ before (by_flag name left words given own more) new =
      rw (each_flag (λ n. part_named f (codes "--" ++ n) ≡ flag n) f.flags name is.by_flag own, new.0, new.1)
      (given_asked left words given (before ++ (name, []) ∷ []) more new.2 ∙ ap (asked f) (append_assoc before ((name, []) ∷ []) given))
  given_asked _ _ _ before (by_dashes left words given more) new = rw (dashes_part f) (after_asked left words given before more new)

  -- the words of a line ask for its texts
  line_asked : (rest : List Text) (texts : List (Option Text)) (given : Given) → Gives f f.positions rest given → AreNew f [] given
      → texts_of f (labels f) given ≡ Some texts
      → meaning_of_form f rest ≡ asks f.name texts
  line_asked rest texts given gives new complete =
      given_asked f.positions rest given [] gives new ∙ ap (λ o. option_map_or (asks f.name) o usage) complete

  -- ---- the texts of a line

  -- a text that was given is what it has to be
  given_fits : (given before : Given) → AreNew f before given → (label t : Text) → text_after label given ≡ Some t → fits f label t ≡ true
  given_fits [] before new label t e = absurd (cc)
  given_fits (g ∷ given) before new label t e = elim (cases_Bool (bytes_eq g.0 label)) [
    | inl same ↦ let is_t : g.1 ≡ t = same_Some g.1 t (rw same at e) in rw ((bytes_eq-Decides g.0 label).0 same, is_t) at new.1
    | inr other ↦ given_fits given (before ++ g ∷ []) new.2 label t (rw other at e)
  ]

  -- what was given for a label is fit, and so is nothing where the label may be left out
  text_fits : (given : Given) → AreNew f [] given → (l : Text) (o : Option Text) → text_after l given ≡ o → (is_needed f l && not (is_some o)) ≡ false
      → IsFit f l o
  text_fits given new l None is free = grind arith
  text_fits given new l (Some t) is free = given_fits given [] new l t is

  texts_fit : (given : Given) → AreNew f [] given → (ls : List Text) (texts : List (Option Text)) → texts_of f ls given ≡ Some texts → AreFit f ls texts
  texts_fit given new [] texts e = tt
  texts_fit given new (l ∷ ls) texts e = grind (arith, texts_fit given new ls, text_fits given new l (text_after l given) refl)

-- each text of a line is what it has to be
pub line_fits : (f : Form) (words : List Text) (texts : List (Option Text)) → IsSpelled f → IsCommandLine f words texts → AreFit f (labels f) texts
line_fits f words texts is line = texts_fit f is line.given line.new (labels f) texts line.complete

-- ---- the program's forms

-- found by computing
pub all_spelled : Each IsSpelled forms
unfolding chars
all_spelled = search rules

abbrev IsMeant : Form → Type 0
IsMeant f = (rest : List Text) → meaning_of (f.name ∷ rest) ≡ without_conflict (meaning_of_form f rest)

abbrev IsKnown : Form → Type 0
IsKnown f = IsSpelled f × IsMeant f

all_known : Each IsKnown forms
all_known = search (rules, all_spelled)

among_known : (fs : List Form) (f : Form) → Each IsKnown fs → IsAmong f fs → IsKnown f
among_known [] f each among = absurd among
among_known (g ∷ fs) f each (inl e) = subst IsKnown (sym e) each.0
among_known (g ∷ fs) f each (inr more) = among_known fs f each.1 more

-- a line asks for its texts, where these are clear
pub line_means : (f : Form) (words : List Text) (texts : List (Option Text)) → IsAmong f forms → IsCommandLine f words texts
    → meaning_of words ≡ without_conflict (asks f.name texts)
line_means f words texts among line =
    let known : IsKnown f = among_known forms f all_known among in
    ap meaning_of line.named ∙ (known.1 line.rest ∙ ap without_conflict (line_asked f known.0 line.rest texts line.given line.gives line.new line.complete))

-- and where something is asked for, the words are a line of it

pub form_line : (f : Form) (rest : List Text) (name : Text) (texts : List (Option Text)) → meaning_of_form f rest ≡ asks name texts
    → (f.name ≡ name) × IsCommandLine f (f.name ∷ rest) texts
form_line f rest name texts e =
    let r : Told f name texts (between [] f.positions) rest = told f name texts rest (between [] f.positions) e in
    let p = texts_asked (texts_of f (labels f) r.0) r.2.1 in
    (p.0, record { rest = rest; given = r.0; named = refl; gives = r.1; new = r.2.0; complete = p.1 })
  where
    texts_asked : (o : Option (List (Option Text))) → option_map_or (asks f.name) o usage ≡ asks name texts → (f.name ≡ name) × (o ≡ Some texts)
    texts_asked None e = not_usage f name texts e
    texts_asked (Some ts) e = (ap asked_name e, ap (λ m. Some (asked_texts m)) e)

without_conflict_asks : (m : Meaning) (name : Text) (texts : List (Option Text)) → without_conflict m ≡ asks name texts → m ≡ asks name texts
without_conflict_asks (asks n ts) name texts e =
    go (writes_stream n ts) ((takes_lines n && not (is_clear ts)) || reaches_without_file n ts) e
  where
    go : (a b : Bool) → cond a usage (cond b usage (asks n ts)) ≡ asks name texts → asks n ts ≡ asks name texts
    go true b e = not_usage no_form name texts e
    go false true e = not_usage no_form name texts e
    go false false e = e
without_conflict_asks m name texts e = e

pub line_of : (words : List Text) (name : Text) (texts : List (Option Text)) → meaning_of words ≡ asks name texts → SomeLine words name texts
line_of [] name texts e = not_usage no_form name texts e
line_of (word ∷ rest) name texts e = first (bytes_eq (codes "--version") word) (bytes_eq (codes "help") word) e
  where
    not_version : {X : Type 0} → version ≡ asks name texts → X
    not_version h = versions_ask no_form name texts h

    no_order : {X : Type 0} (b : Bool) → cond b help usage ≡ asks name texts → X
    no_order true e = not_help no_form name texts e
    no_order false e = not_usage no_form name texts e

    go : (fs : List Form) → ((f : Form) → IsAmong f fs → IsAmong f forms)
        → option_map_or (λ f. meaning_of_form f rest) (find (λ f. bytes_eq f.name word) fs) (meaning_of_other word) ≡ asks name texts
        → SomeLine (word ∷ rest) name texts
    go [] among e = no_order (is_help_flag word) e
    go (f ∷ fs) among e = by (bytes_eq f.name word) refl e (go fs (λ g h. among g (inr h)))
      where
        by : (b : Bool) → bytes_eq f.name word ≡ b
            → option_map_or (λ g. meaning_of_form g rest) (cond b (Some f) (find (λ g. bytes_eq g.name word) fs)) (meaning_of_other word) ≡ asks name texts
            → (option_map_or (λ g. meaning_of_form g rest) (find (λ g. bytes_eq g.name word) fs) (meaning_of_other word) ≡ asks name texts
            → SomeLine (word ∷ rest) name texts) → SomeLine (word ∷ rest) name texts
        by true is e later =
            let l = form_line f rest name texts e in
            (f, among f (inl refl), l.0, subst (λ w. IsCommandLine f (w ∷ rest) texts) ((bytes_eq-Decides f.name word).0 is) l.1)
        by false is e later = later e

    first : (v t : Bool)
        → cond v version (cond t (meaning_of_topic (word ∷ rest)) (without_conflict (meaning_of_command (word ∷ rest)))) ≡ asks name texts
        → SomeLine (word ∷ rest) name texts
    first true t e = not_version e
    first false true e = no_order (has_topic (word ∷ rest)) e
    first false false e = go forms (λ f h. h) (without_conflict_asks (meaning_of_command (word ∷ rest)) name texts e)

-- an order is read only where the words are a line of it
pub order_from_line : (words : List Text) (r : Reading) → IsReadingOf (meaning_of words) r → ComesFromLine words r
order_from_line words (reading.Order o) h = go (meaning_of words) refl h
  where
    go : (m : Meaning) → meaning_of words ≡ m → IsReadingOf m (reading.Order o) → ComesFromLine words (reading.Order o)
    go (asks name texts) e h = (texts, h.1, subst (λ n. SomeLine words n texts) (sym h.0) (line_of words name texts e))
    go help e h = absurd h
    go usage e h = absurd h
    go version e h = absurd h
order_from_line words r h = tt

-- and at each line it is read
pub reading_at_line : (words : List Text) (f : Form) (texts : List (Option Text)) (r : Reading) → IsAmong f forms → IsCommandLine f words texts
    → IsReadingOf (meaning_of words) r
    → IsReadingOf (without_conflict (asks f.name texts)) r
reading_at_line words f texts r among line h = subst (λ m. IsReadingOf m r) (line_means f words texts among line) h
