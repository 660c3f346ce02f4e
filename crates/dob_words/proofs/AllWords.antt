-- How `clap` reads all the words of the program.
use Rattle.dob_words.proofs.Common.{◌++◌, ◌∙◌, ◌∷◌, ◌≡◌, Bool, List, None, Option, Some, [], ap, codes, cond, false, inl, inr, refl, rules, subst, sym, true}
use Rattle.dob_words.proofs.Common.{or-false, bytes_eq-Decides, option_map_or, find, fold, is_some, option_map, bytes_eq, Kinds, or_else, Shape, entered}
use Rattle.dob_words.proofs.Common.{names_of, App, AreProfiles, Finds, IsMet, ProfileNames, dobutsu_app, Meaning, asks, help, is_dashes, is_help_flag}
use Rattle.dob_words.proofs.Common.{is_text, is_topic, meaning_of_command, meaning_of_form, meaning_of_other, usage, version}
use Rattle.std.proofs.Common.{◌==◌, arith}
use Rattle.std.specs.Prelude.{map}
use Rattle.clap.specs.Words.{Row, built, fault_of, subcommand_of}
use Rattle.clap.specs.Walk.{answers_to, Names, Walk, finished, idle, nothing_held, rows_after, settled, subcommand_met, walked}
use Rattle.clap.specs.Faults.{check_fault, defaults_fault, entered_fault, level_fault, settle_fault, turn_fault, walk_fault}
use Rattle.clap.specs.declared.error.kind.ErrorKind.TheVariants as kind
use Rattle.clap.proofs.FaultLemmas.{stopped_fault}
use Rattle.clap.proofs.WalkLemmas.{walk_stopped}
use Rattle.dob_words.specs.Forms.{Form, Text, forms}
use Rattle.dob_words.proofs.Lexing.{flip_bytes}
use Rattle.dob_words.proofs.Turns.{KnowsHelp, help_flag, is_usage, none, or_else_usage}
use Rattle.dob_words.proofs.Steps.{help_turn, open_at, other_turn, text_turn}
use Rattle.dob_words.proofs.FormWords.{Comes, IsTaken, form_comes, shape_of}
use Rattle.dob_words.proofs.Texts.{Each}
use Rattle.dob_words.proofs.Lines.{IsSpelled, all_spelled, form_line, line_fits}
use Rattle.dob_words.proofs.Taken.{all_taken}

-- what the words ask for goes with the kinds of error, and with the subcommand that was met
abbrev pub Fits : Meaning → Kinds → Option (Text × List Row) → Type 0
Fits (asks name texts) kinds met = (kinds ≡ []) × IsMet forms name texts met
Fits help kinds met = kinds ≡ kind.DisplayHelp ∷ []
Fits usage kinds met = is_usage kinds ≡ true
Fits version kinds met = ⊥

-- the word is the name of none of these
abbrev NamesNone : Text → List Form → Type 0
NamesNone word = Each (λ f. bytes_eq f.name word ≡ false)

module _ (profiles : ProfileNames) (are : AreProfiles profiles) where
  -- the program's command, built
  abbrev program : App
  program = built (dobutsu_app profiles)

  abbrev top : Shape
  top = program.top

  abbrev names : Names
  names = names_of program

  abbrev start : Walk
  start = open_at [] None 1

  knows : KnowsHelp top.rules [] None none
  knows = record {
    no_option = refl;
    by_long = λ name own. ap (λ b. cond b (Some help_flag) None) (or-false (bytes_eq (codes "help") name));
    by_short = λ x. ap (λ b. cond b (Some help_flag) None) (or-false (104 == x));
    asks = refl;
  }

  -- ---- the kinds of error

  -- the walk stopped so, at this subcommand
  abbrev ending : Walk → Kinds
  ending e = or_else (entered_fault program e.stopped) (or_else (settle_fault top.rules false e.held)
      (or_else (defaults_fault (settled top.rules e.held).rows top.rules) (check_fault top (finished top.rules e.held) (is_some (entered program e.stopped)))))

  abbrev kinds_at : Walk → List Text → Kinds
  kinds_at w words = or_else (walk_fault top names w words) (ending (fold (walked top.rules names) w words))

  -- one word asks for help
  helps : (w : Walk) (word : Text) (rest : List Text) → turn_fault top names w word ≡ kind.DisplayHelp ∷ [] → kinds_at w (word ∷ rest) ≡ kind.DisplayHelp ∷ []
  unfolding walk_fault
  helps w word rest e = rw e refl

  -- one word is refused
  misused : (w : Walk) (word : Text) (rest : List Text) → is_usage (turn_fault top names w word) ≡ true → is_usage (kinds_at w (word ∷ rest)) ≡ true
  unfolding walk_fault
  misused w word rest fails =
      or_else_usage (or_else (turn_fault top names w word) (walk_fault top names (walked top.rules names w word) rest))
      (ending (fold (walked top.rules names) w (word ∷ rest)))
      (or_else_usage (turn_fault top names w word) (walk_fault top names (walked top.rules names w word) rest) fails)

  or_else_nil : (k : Kinds) → or_else k [] ≡ k
  or_else_nil k = grind arith

  -- ---- the words from the name of a subcommand on

  -- the words after a subcommand's name
  abbrev entered_at : Text → List Text → Walk
  entered_at name words = record start { stopped = Some (name, words) }

  -- the kinds of error of the words after a subcommand's name
  abbrev below : Form → List Text → Kinds
  below f words = level_fault (shape_of profiles f) [] nothing_held words false []

  -- the program knows the subcommand by its name, and built it so
  record IsEntered (f : Form) : Type 0 where
    walks : walked top.rules names start f.name ≡ entered_at f.name []
    turns : turn_fault top names start f.name ≡ []
    ends : (rest : List Text) → ending (entered_at f.name rest) ≡ or_else (below f rest) []
    enters : (rest : List Text) → entered program (Some (f.name, rest)) ≡ Some (f.name, rows_after (shape_of profiles f).rules [] rest)

  all_entered : Each IsEntered forms
  unfolding walked defaults_fault
  all_entered = search rules

  abbrev FitsAt : Meaning → List Text → Type 0
  FitsAt m words = Fits m (kinds_at start words) (subcommand_of (dobutsu_app profiles) words)

  module _ (f : Form) (is : IsTaken profiles f) (enters : IsEntered f) (spelled : IsSpelled f)
      (among : (name : Text) (texts : List (Option Text)) (met : Option (Text × List Row)) → (f.name ≡ name) × Finds f texts met → IsMet forms name texts met) where
    steps : (rest : List Text) → fold (walked top.rules names) start (f.name ∷ rest) ≡ entered_at f.name rest
    steps rest = ap (λ w. fold (walked top.rules names) w rest) enters.walks ∙ sym (walk_stopped top.rules names start f.name [] rest)

    walks_on : (rest : List Text) → walk_fault top names start (f.name ∷ rest) ≡ []
    unfolding walk_fault
    walks_on rest = rw (enters.turns, enters.walks) (stopped_fault top names start (f.name, []) rest)

    kinds_below : (rest : List Text) → kinds_at start (f.name ∷ rest) ≡ below f rest
    kinds_below rest =
        ap (λ k. or_else k (ending (fold (walked top.rules names) start (f.name ∷ rest)))) (walks_on rest)
        ∙ (ap ending (steps rest) ∙ (enters.ends rest ∙ or_else_nil (below f rest)))

    met_is : (rest : List Text) → subcommand_of (dobutsu_app profiles) (f.name ∷ rest) ≡ Some (f.name, rows_after (shape_of profiles f).rules [] rest)
    met_is rest = ap (λ (w : Walk). entered program w.stopped) (steps rest) ∙ enters.enters rest

    comes_fit : (m : Meaning) (rest : List Text) → meaning_of_form f rest ≡ m → Comes profiles are f is m (below f rest) (rows_after (shape_of profiles f).rules [] rest)
        → FitsAt m (f.name ∷ rest)
    comes_fit (asks name texts) rest means c =
        let fit = line_fits f (f.name ∷ rest) texts spelled (form_line f rest name texts means).1 in
        (kinds_below rest ∙ c.1, among name texts _ (c.0, (_, met_is rest, c.2, fit)))
    comes_fit help rest means c = kinds_below rest ∙ c
    comes_fit usage rest means c = rw (kinds_below rest) c
    comes_fit version rest means c = absurd c

    form_fits : (rest : List Text) → FitsAt (meaning_of_form f rest) (f.name ∷ rest)
    form_fits rest = comes_fit (meaning_of_form f rest) rest refl (form_comes profiles are f is rest)

  -- the words from each subcommand's name on
  all_fit : Each (λ f. (rest : List Text) → FitsAt (meaning_of_form f rest) (f.name ∷ rest)) forms
  all_fit = go forms (all_taken profiles) all_entered all_spelled (λ name texts met h. h)
    where
      go : (fs : List Form) → Each (IsTaken profiles) fs → Each IsEntered fs → Each IsSpelled fs
          → ((name : Text) (texts : List (Option Text)) (met : Option (Text × List Row)) → IsMet fs name texts met → IsMet forms name texts met)
          → Each (λ f. (rest : List Text) → FitsAt (meaning_of_form f rest) (f.name ∷ rest)) fs
      go [] taken entered spelled among = tt
      go (f ∷ fs) taken entered spelled among = (
        form_fits f taken.0 entered.0 spelled.0 (λ name texts met h. among name texts met (inl h)),
        go fs taken.1 entered.1 spelled.1 (λ name texts met h. among name texts met (inr h)),
      )

  -- ---- other words

  -- the words from `help` on
  help_kinds : (rest : List Text) → kinds_at start (codes "help" ∷ rest) ≡ kind.DisplayHelp ∷ kind.InvalidSubcommand ∷ []
  unfolding walk_fault
  help_kinds rest = refl

  -- of which `clap` says no more than that it tells one or the other
  pub topic_kinds : (words : List Text) → is_topic words ≡ true → fault_of (dobutsu_app profiles) words ≡ kind.DisplayHelp ∷ kind.InvalidSubcommand ∷ []
  topic_kinds [] e = absurd (cc)
  topic_kinds (word ∷ rest) e = rw (← (bytes_eq-Decides (codes "help") word).0 e) (help_kinds rest)

  -- no words, and `--` alone
  no_words : is_usage (kinds_at start []) ≡ true
  unfolding walk_fault defaults_fault
  no_words = refl

  only_dashes : is_usage (kinds_at start (codes "--" ∷ [])) ≡ true
  unfolding walk_fault defaults_fault walked
  only_dashes = refl

  dashes_more : (word : Text) (rest : List Text) → is_usage (kinds_at start (codes "--" ∷ word ∷ rest)) ≡ true
  unfolding walk_fault walked
  dashes_more word rest = refl

  -- a first word that names no subcommand
  no_subcommand : (word : Text) → NamesNone word forms → bytes_eq (codes "help") word ≡ false → subcommand_met names idle word ≡ None
  no_subcommand word differs h = ap (option_map (λ (n : Text × List Text). n.0)) (go forms differs)
    where
      go : (fs : List Form) → NamesNone word fs → find (answers_to word) (map (λ f. (f.name, [])) fs ++ (codes "help", []) ∷ []) ≡ None
      go [] d = rw h refl
      go (f ∷ fs) d = rw d.0 (go fs d.1)

  other_fits : (word : Text) (rest : List Text) → bytes_eq (codes "help") word ≡ false → NamesNone word forms
      → FitsAt (meaning_of_other word) (word ∷ rest)
  other_fits word rest no_topic differs = go (is_help_flag word) (is_text word) (is_dashes word) refl refl refl rest
    where
      go : (a b d : Bool) → is_help_flag word ≡ a → is_text word ≡ b → is_dashes word ≡ d
          → (more : List Text) → FitsAt (cond a help usage) (word ∷ more)
      go true b d asks_help text e more =
          helps start word more (help_turn top names [] None 1 word none (no_subcommand word differs no_topic) refl knows asks_help)
      go false true d asks_help text e more =
          misused start word more (rw (text_turn top names [] None 1 word (no_subcommand word differs no_topic) refl text) refl)
      go false false true asks_help text e [] =
          subst (λ w. is_usage (kinds_at start (w ∷ [])) ≡ true) ((bytes_eq-Decides (codes "--") word).0 e) only_dashes
      go false false true asks_help text e (v ∷ more) =
          subst (λ w. is_usage (kinds_at start (w ∷ v ∷ more)) ≡ true) ((bytes_eq-Decides (codes "--") word).0 e) (dashes_more v more)
      go false false false asks_help text e more = misused start word more
          (other_turn top names [] None 1 word none (no_subcommand word differs no_topic) refl knows refl text asks_help (flip_bytes (codes "--") word false e))

  -- what the words ask for goes with the kinds of error, and with the subcommand that was met
  pub words_fit : (words : List Text) → is_topic words ≡ false → Fits (meaning_of_command words) (fault_of (dobutsu_app profiles) words) (subcommand_of (dobutsu_app profiles) words)
  words_fit [] no_topic = no_words
  words_fit (word ∷ rest) no_topic = go forms all_fit (other_fits word rest no_topic)
    where
      go : (fs : List Form) → Each (λ f. (more : List Text) → FitsAt (meaning_of_form f more) (f.name ∷ more)) fs
          → (NamesNone word fs → FitsAt (meaning_of_other word) (word ∷ rest))
          → FitsAt (option_map_or (λ f. meaning_of_form f rest) (find (λ f. bytes_eq f.name word) fs) (meaning_of_other word)) (word ∷ rest)
      go [] each other = other tt
      go (f ∷ fs) each other = by (bytes_eq f.name word) refl (λ d. go fs each.1 (λ more. other (d, more)))
        where
          by : (b : Bool) → bytes_eq f.name word ≡ b
              → (bytes_eq f.name word ≡ false
              → FitsAt (option_map_or (λ x. meaning_of_form x rest) (find (λ x. bytes_eq x.name word) fs) (meaning_of_other word)) (word ∷ rest))
              → FitsAt (option_map_or (λ x. meaning_of_form x rest) (cond b (Some f) (find (λ x. bytes_eq x.name word) fs)) (meaning_of_other word)) (word ∷ rest)
          by true e later = subst (λ w. FitsAt (meaning_of_form f rest) (w ∷ rest)) ((bytes_eq-Decides f.name word).0 e) (each.0 rest)
          by false e later = later e
