-- How `clap` reads the words after the name of a subcommand, for any form. `IsTaken` is found by computing (proofs/Taken.antt).
use Rattle.dob_words.proofs.Common.{◌++◌, ◌+◌, ◌∙◌, ◌∷◌, ◌≡◌, Bool, List, None, Option, Some, [], ap, ap₂, codes, cond, false, map, min, refl, subst, sym}
use Rattle.dob_words.proofs.Common.{true, true≢false, ℕ, or-false, bytes_eq-Decides, after_first, list_any, option_map_or, ◌&&◌, ◌==◌, ◌||◌, find, fold}
use Rattle.dob_words.proofs.Common.{is_some, not, option_map, bytes_eq, Kinds, or_else, usize_max, Shape, built_leaf, inherited, marked_built}
use Rattle.dob_words.proofs.Common.{with_leaf_noted, is_given, first_of, AreProfiles, ProfileNames, bare_app, form_app, Given, Meaning, Stand, Text}
use Rattle.dob_words.proofs.Common.{after_dashes, after_part, after_word, asked, asks, at_end, behind, between, call, dashes, ended, fits, flag, help}
use Rattle.dob_words.proofs.Common.{is_dashes, is_help_flag, is_text, kept, label_of, meaning_of_form, name_in, named_part, once, option, placed, text}
use Rattle.dob_words.proofs.Common.{text_after, texts_of, unknown, usage, valued, version, wanted, wants, unwrap_or}
use Rattle.clap.specs.Walk.{rows_after, value as a_value, is_pending, Held, Row, Rule, Waiting, Walk, arg_by_id, arg_by_index, arg_by_long, arg_by_short}
use Rattle.clap.specs.Walk.{finished, idle, next_position, nothing_held, option as waits_for, settled, settled_rows, subcommand_met, walked}
use Rattle.clap.specs.Faults.{check_fault, defaults_fault, level_fault, settle_fault, step_fault, turn_fault, walk_fault}
use Rattle.clap.specs.declared.error.kind.ErrorKind.TheVariants as kind
use Rattle.dob_words.specs.Forms.{Form, is_among, labels}
use Rattle.dob_words.proofs.Lexing.{View, empty as no_byte, letter as a_letter, hyphen as one_hyphen, dashes as two_hyphens, long as a_long, short as a_short}
use Rattle.dob_words.proofs.Lexing.{flip_bytes, long_name, no_first, view}
use Rattle.dob_words.proofs.Turns.{KnowsHelp, help_flag, held, is_usage, or_else_usage}
use Rattle.dob_words.proofs.Steps.{closed_at, failing_turn, help_turn, open_at, other_turn, text_taken, text_turn, text_turn_at, text_walked, waiting_at}
use Rattle.dob_words.proofs.Texts.{Each, Looked, defaults_none, flag_arg, flag_passes, flag_twice, flagged_fresh, looked, no_faults, kept_both, misfit_usage}
use Rattle.dob_words.proofs.Texts.{rows_of, some_missing, text_arg, use_misfit, use_passes, use_twice, used_fresh}
use Rattle.std.proofs.lemmas.Bool.{cases_Bool}
use Rattle.std.proofs.Common.{arith, inl, inr}

-- ---- the subcommand's arguments, built
abbrev pub option_arg : ProfileNames → Form → Text × Text → Rule
option_arg profiles f o = text_arg profiles f (Some o.0) None o.1

abbrev pub placed_args : ProfileNames → Form → ℕ → List Text → List Rule
placed_args profiles f i [] = []
placed_args profiles f i (label ∷ more) = text_arg profiles f None (Some i) label ∷ placed_args profiles f (min (i + 1) usize_max) more

abbrev pub args_of : ProfileNames → Form → List Rule
args_of profiles f = map (option_arg profiles f) f.options ++ (map flag_arg f.flags ++ (placed_args profiles f 1 f.positions ++ help_flag ∷ []))

-- the subcommand, built
abbrev pub shape_of : ProfileNames → Form → Shape
shape_of profiles f = record (built_leaf (inherited (with_leaf_noted (marked_built bare_app.top)) (form_app profiles f).top)) { rules = args_of profiles f }

-- the places from this one on
abbrev pub ArePlaced : ProfileNames → Form → List Rule → ℕ → List Text → Type 0
ArePlaced profiles f rules p [] = arg_by_index rules p ≡ None
ArePlaced profiles f rules p (label ∷ left) =
    (arg_by_index rules p ≡ Some (text_arg profiles f None (Some p) label)) × (arg_by_id rules label ≡ Some (text_arg profiles f None (Some p) label))
    × ArePlaced profiles f rules (next_position (text_arg profiles f None (Some p) label) p) left

-- what has to hold of a form: its labels and the names of its options and flags differ, and no flag has to be a number
pub record IsTaken (profiles : ProfileNames) (f : Form) : Type 0 where
  pub options : Each (λ o. arg_by_id (args_of profiles f) o.1 ≡ Some (option_arg profiles f o)) f.options
  pub positions : ArePlaced profiles f (args_of profiles f) 1 f.positions
  pub flags : Each (λ n. fits f n [] ≡ true) f.flags
  pub no_help : (label_of f.options (codes "help") ≡ None) × (is_among f.flags (codes "help") ≡ false)
  pub no_empty : (label_of f.options [] ≡ None) × (is_among f.flags [] ≡ false)
  pub defaults : Each (λ a. a.defaults ≡ []) (args_of profiles f)
  pub required : (rows : List Row) → list_any (λ a. a.required && not (is_given a.id rows)) (args_of profiles f) ≡ some_missing f rows (labels f)

-- ---- the arguments by their names
long_options : (profiles : ProfileNames) (f : Form) (os : List (Text × Text)) (more : List Rule) (name : Text)
    → arg_by_long (map (option_arg profiles f) os ++ more) name
    ≡ option_map_or (λ o. Some (option_arg profiles f o)) (find (λ o. bytes_eq o.0 name) os) (arg_by_long more name)
long_options profiles f [] more name = refl
long_options profiles f (o ∷ os) more name = grind (arith, long_options profiles f os more name)

long_flags : (names : List Text) (more : List Rule) (name : Text)
    → arg_by_long (map flag_arg names ++ more) name ≡ cond (is_among names name) (Some (flag_arg name)) (arg_by_long more name)
long_flags [] more name = refl
long_flags (n ∷ names) more name = grind (arith, long_flags names more name, bytes_eq-Decides n name)

long_placed : (profiles : ProfileNames) (f : Form) (i : ℕ) (labels : List Text) (more : List Rule) (name : Text)
    → arg_by_long (placed_args profiles f i labels ++ more) name ≡ arg_by_long more name
long_placed profiles f i [] more name = refl
long_placed profiles f i (label ∷ labels) more name = long_placed profiles f (min (i + 1) usize_max) labels more name

short_options : (profiles : ProfileNames) (f : Form) (os : List (Text × Text)) (more : List Rule) (x : ℕ) → arg_by_short (map (option_arg profiles f) os ++ more) x
    ≡ arg_by_short more x
short_options profiles f [] more x = refl
short_options profiles f (o ∷ os) more x = short_options profiles f os more x

short_flags : (names : List Text) (more : List Rule) (x : ℕ) → arg_by_short (map flag_arg names ++ more) x ≡ arg_by_short more x
short_flags [] more x = refl
short_flags (n ∷ names) more x = short_flags names more x

short_placed : (profiles : ProfileNames) (f : Form) (i : ℕ) (labels : List Text) (more : List Rule) (x : ℕ)
    → arg_by_short (placed_args profiles f i labels ++ more) x ≡ arg_by_short more x
short_placed profiles f i [] more x = refl
short_placed profiles f i (label ∷ labels) more x = short_placed profiles f (min (i + 1) usize_max) labels more x

-- what holds of each flag holds of the one of a name
pub each_flag : (P : Text → Type 0) (names : List Text) (name : Text) → Each P names → is_among names name ≡ true → P name
each_flag P [] name each e = absurd (cc)
each_flag P (n ∷ names) name each e = grind (arith, bytes_eq-Decides n name, each_flag P names name each.1)

pub each_found : (P : Text × Text → Type 0) (p : Text × Text → Bool) (os : List (Text × Text)) (o : Text × Text) → Each P os → find p os ≡ Some o → P o
each_found P p [] o each e = absurd (cc)
each_found P p (x ∷ xs) o each e = grind (arith, each_found P p xs o each.1)

module _ (profiles : ProfileNames) (are : AreProfiles profiles) (f : Form) (is : IsTaken profiles f) where
  abbrev rules : List Rule
  rules = args_of profiles f

  abbrev s : Shape
  s = shape_of profiles f

  abbrev places : List Rule
  places = placed_args profiles f 1 f.positions ++ help_flag ∷ []

  abbrev found : Text → Option (Text × Text)
  found name = find (λ o. bytes_eq o.0 name) f.options

  abbrev help_or_none : Text → Option Rule
  help_or_none name = cond (bytes_eq (codes "help") name) (Some help_flag) None

  -- a flag of this name, or the help flag
  abbrev flag_or_help : Text → Option Rule
  flag_or_help name = cond (is_among f.flags name) (Some (flag_arg name)) (help_or_none name)

  help_by_long : (name : Text) → arg_by_long places name ≡ help_or_none name
  help_by_long name = long_placed profiles f 1 f.positions (help_flag ∷ []) name
      ∙ ap (λ b. cond b (Some help_flag) None) (or-false (bytes_eq (codes "help") name))

  flag_by_long : (name : Text) → arg_by_long (map flag_arg f.flags ++ places) name ≡ flag_or_help name
  flag_by_long name = long_flags f.flags places name ∙ ap (cond (is_among f.flags name) (Some (flag_arg name))) (help_by_long name)

  by_long : (name : Text) → arg_by_long rules name ≡ option_map_or (λ o. Some (option_arg profiles f o)) (found name) (flag_or_help name)
  by_long name = long_options profiles f f.options (map flag_arg f.flags ++ places) name ∙ rw flag_by_long refl

  by_short : (x : ℕ) → arg_by_short rules x ≡ cond (104 == x) (Some help_flag) None
  by_short x = simp (short_options, short_flags, short_placed, or-false)

  -- the name is that of one of its options or flags
  abbrev is_named : Text → Bool
  is_named name = is_some (label_of f.options name) || is_among f.flags name

  other_by_long : (name : Text) → is_named name ≡ false → arg_by_long rules name ≡ help_or_none name
  other_by_long name e = grind (arith, by_long name)

  -- no name is that of an option or a flag where neither is
  not_named : (name : Text) → (label_of f.options name ≡ None) × (is_among f.flags name ≡ false) → is_named name ≡ false
  not_named name none = rw (none.0, none.1) refl

  -- ---- where the walk stands

  -- these texts were given: rows are kept of them, but for one that waits
  record Good (rows : List Row) (pending : Option (Text × List Text)) (given : Given) : Type 0 where
    settles : settle_fault rules false (held rows pending) ≡ []
    rows_are : settled_rows rules pending rows ≡ rows_of given

  good_rows : (given : Given) → Good (rows_of given) None given
  good_rows given = record { settles = refl; rows_are = refl }

  module _ (long : Option Text) (index : Option ℕ) (label : Text) (known : arg_by_id rules label ≡ Some (text_arg profiles f long index label)) where
    good_pending : (given : Given) (t : Text) → text_after label given ≡ None → fits f label t ≡ true
        → Good (rows_of given) (Some (label, t ∷ [])) (given ++ (label, t) ∷ [])
    good_pending given t fresh fit = record {
      settles = rw known (use_passes profiles are f long index label t given fresh fit);
      rows_are = rw known (used_fresh profiles f long index label t given fresh);
    }

    -- the text is kept
    good_kept : (given : Given) (t : Text) → (is_some (text_after label given) || not (fits f label t)) ≡ false
        → Good (rows_of given) (Some (label, t ∷ [])) (given ++ (label, t) ∷ [])
    good_kept given t e = let both = kept_both (text_after label given) (fits f label t) e in good_pending given t both.0 both.1

    -- a text that isn't what it has to be
    misfit_fails : (given : Given) (t : Text) → text_after label given ≡ None → fits f label t ≡ false
        → is_usage (settle_fault rules false (held (rows_of given) (Some (label, t ∷ [])))) ≡ true
    misfit_fails given t fresh misfit =
        rw (known, use_misfit profiles are f long index label t given fresh misfit) (misfit_usage (is_among f.numbers label))

    -- that, or a second text of one label
    unfit_fails : (given : Given) (t : Text) → (is_some (text_after label given) || not (fits f label t)) ≡ true
        → is_usage (settle_fault rules false (held (rows_of given) (Some (label, t ∷ [])))) ≡ true
    unfit_fails given t e = elim (cases_Bool (is_some (text_after label given))) [
      | inl some ↦ rw (known, use_twice profiles are f long index label t (unwrap_or (text_after label given) []) given (grind arith)) refl
      | inr none ↦ misfit_fails given t (grind arith) (grind arith)
    ]

    -- an option without its text
    wanted_fails : (rows : List Row) → is_usage (settle_fault rules false (held rows (Some (label, [])))) ≡ true
    wanted_fails rows = rw known refl

  knows_help : (rows : List Row) (pending : Option (Text × List Text)) (given : Given) → Good rows pending given → KnowsHelp rules rows pending is_named
  knows_help rows pending given good =
      record { no_option = not_named (codes "help") is.no_help; by_long = other_by_long; by_short = by_short; asks = rw good.settles refl }

  -- ---- the kinds of error

  -- after the walk
  abbrev ending : Walk → Kinds
  ending e =
      or_else (settle_fault rules false e.held) (or_else (defaults_fault (settled rules e.held).rows rules) (check_fault s (finished rules e.held) false))

  -- from a state of the walk on
  abbrev kinds_at : Walk → List Text → Kinds
  kinds_at w words = or_else (walk_fault s [] w words) (ending (fold (walked rules []) w words))

  abbrev rows_at : Walk → List Text → List Row
  rows_at w words = finished rules (fold (walked rules []) w words).held

  -- what the words after the subcommand's name come to
  abbrev pub form_kinds : List Text → Kinds
  form_kinds words = level_fault s [] nothing_held words false []

  -- the kinds of error, and the rows, go with what the words ask for
  abbrev pub Comes : Meaning → Kinds → List Row → Type 0
  Comes (asks name texts) kinds rows = (f.name ≡ name) × (kinds ≡ []) × (map (λ l. first_of l rows) (labels f) ≡ texts)
  Comes help kinds rows = kinds ≡ kind.DisplayHelp ∷ []
  Comes usage kinds rows = is_usage kinds ≡ true
  Comes version kinds rows = ⊥

  abbrev Reached : Meaning → Walk → List Text → Type 0
  Reached m w words = Comes m (kinds_at w words) (rows_at w words)

  -- one word passes
  passes : (m : Meaning) (w w2 : Walk) (word : Text) (rest : List Text) → turn_fault s [] w word ≡ [] → walked rules [] w word ≡ w2 → Reached m w2 rest
      → Reached m w (word ∷ rest)
  unfolding walk_fault
  passes m w w2 word rest fits goes r =
      let at_next : Reached m (walked rules [] w word) rest = subst (λ v. Reached m v rest) (sym goes) r in
      subst
      (λ (k : Kinds).
      Comes m (or_else (or_else k (walk_fault s [] (walked rules [] w word) rest)) (ending (fold (walked rules []) (walked rules [] w word) rest)))
      (rows_at (walked rules [] w word) rest)) (sym fits) at_next

  -- one word asks for help
  helps : (w : Walk) (word : Text) (rest : List Text) → turn_fault s [] w word ≡ kind.DisplayHelp ∷ [] → kinds_at w (word ∷ rest) ≡ kind.DisplayHelp ∷ []
  unfolding walk_fault
  helps w word rest e = rw e refl

  -- one word is refused
  misused : (w : Walk) (word : Text) (rest : List Text) → is_usage (turn_fault s [] w word) ≡ true → is_usage (kinds_at w (word ∷ rest)) ≡ true
  unfolding walk_fault
  misused w word rest fails =
      or_else_usage (or_else (turn_fault s [] w word) (walk_fault s [] (walked rules [] w word) rest)) (ending (fold (walked rules []) w (word ∷ rest)))
      (or_else_usage (turn_fault s [] w word) (walk_fault s [] (walked rules [] w word) rest) fails)

  -- ---- behind `--`

  abbrev after_at : Waiting → List Row → Option (Text × List Text) → ℕ → Walk
  after_at waiting rows pending p = record (closed_at rows pending p) { waiting = waiting }

  -- the subcommand has none of its own
  none_met : (waiting : Waiting) (word : Text) → subcommand_met [] waiting word ≡ None
  none_met waiting word = grind arith

  -- ---- where what waits can't be used, all that follows is refused

  ends_failing : (w : Walk) → is_usage (settle_fault rules false w.held) ≡ true → is_usage (kinds_at w []) ≡ true
  unfolding walk_fault
  ends_failing w fails = or_else_usage (settle_fault rules false w.held) _ fails

  and_false : (b : Bool) → (b && false) ≡ false
  and_false b = grind arith

  module _ (rows : List Row) (pending : Option (Text × List Text)) (fails : is_usage (settle_fault rules false (held rows pending)) ≡ true)
      (p : ℕ) (left : List Text) (at : ArePlaced profiles f rules p left) where
    abbrev stray : Kinds
    stray = step_fault s p (held rows pending) a_value

    stray_fails : is_usage stray ≡ true
    stray_fails = go left at
      where
        go : (ls : List Text) → ArePlaced profiles f rules p ls → is_usage stray ≡ true
        go [] e = rw e refl
        go (l ∷ ls) e = rw (e.0, and_false (is_pending (text_arg profiles f None (Some p) l) pending)) fails

    closed_fails : (waiting : Waiting) (words : List Text) → is_usage (kinds_at (after_at waiting rows pending p) words) ≡ true
    closed_fails waiting [] = ends_failing (after_at waiting rows pending p) fails
    closed_fails waiting (u ∷ more) = misused (after_at waiting rows pending p) u more stray_fails

    closes : (waiting : Waiting) → walked rules [] (waiting_at waiting rows pending p) (codes "--") ≡ after_at waiting rows pending p
    unfolding walked
    closes waiting = rw (none_met waiting (codes "--")) refl

    passing : (waiting : Waiting) → turn_fault s [] (waiting_at waiting rows pending p) (codes "--") ≡ []
    passing waiting = rw (none_met waiting (codes "--")) refl

    -- a word that begins with a hyphen is refused
    no_text : (waiting : Waiting) (u : Text) (more : List Text) → is_text u ≡ false → is_usage (kinds_at (waiting_at waiting rows pending p) (u ∷ more)) ≡ true
    no_text waiting u more e = elim (cases_Bool (is_dashes u)) [
      | inl d ↦ rw (← (bytes_eq-Decides (codes "--") u).0 d)
          (passes usage (waiting_at waiting rows pending p) (after_at waiting rows pending p) (codes "--") more (passing waiting) (closes waiting)
          (closed_fails waiting more))
      | inr d ↦
          misused (waiting_at waiting rows pending p) u more
          (failing_turn s [] rows pending p waiting u (none_met waiting u) refl fails e (flip_bytes (codes "--") u false d))
    ]

    failing : (words : List Text) → is_usage (kinds_at (open_at rows pending p) words) ≡ true
    failing [] = ends_failing (open_at rows pending p) fails
    failing (u ∷ more) = go (is_text u) refl
      where
        go : (b : Bool) → is_text u ≡ b → is_usage (kinds_at (open_at rows pending p) (u ∷ more)) ≡ true
        go true e = misused (open_at rows pending p) u more (rw (text_turn s [] rows pending p u refl refl e) stray_fails)
        go false e = no_text idle u more e

  -- ---- the end

  abbrev ending_of : Held → Kinds
  ending_of h = or_else (settle_fault rules false h) (or_else (defaults_fault (settled rules h).rows rules) (check_fault s (finished rules h) false))

  good_end : (rows : List Row) (pending : Option (Text × List Text)) (given : Given) → Good rows pending given
      → Comes (asked f given) (ending_of (held rows pending)) (finished rules (held rows pending))
  good_end rows pending given good = go (texts_of f (labels f) given) (looked f (labels f) given)
    where
      last : finished rules (held rows pending) ≡ rows_of given
      last = rw good.rows_are (defaults_none rules (rows_of given) is.defaults)

      go : (o : Option (List (Option Text))) → Looked f (labels f) given o
          → Comes (option_map_or (asks f.name) o usage) (ending_of (held rows pending)) (finished rules (held rows pending))
      go (Some texts) l = rw (good.settles, no_faults rules (settled_rows rules pending rows) is.defaults, last, is.required (rows_of given), l.0) (refl, refl, l.1)
      go None l = rw (good.settles, no_faults rules (settled_rows rules pending rows) is.defaults, last, is.required (rows_of given), l) refl

  open_end : (rows : List Row) (pending : Option (Text × List Text)) (p : ℕ) (given : Given) → Good rows pending given
      → Reached (asked f given) (open_at rows pending p) []
  unfolding walk_fault
  open_end rows pending p given good = good_end rows pending given good

  closed_end : (rows : List Row) (pending : Option (Text × List Text)) (p : ℕ) (given : Given) → Good rows pending given
      → Reached (asked f given) (closed_at rows pending p) []
  unfolding walk_fault
  closed_end rows pending p given good = good_end rows pending given good

  -- ---- one word

  abbrev next_stand : Stand → Text → Stand
  next_stand = after_word f

  abbrev Going : Stand → Walk → List Text → Type 0
  Going stand w rest = Reached (at_end f (fold next_stand stand rest)) w rest

  ended_stays : (m : Meaning) (rest : List Text) → fold next_stand (ended m) rest ≡ ended m
  ended_stays m [] = refl
  ended_stays m (word ∷ rest) = ended_stays m rest

  -- the word ended it
  ends_so : (m : Meaning) (w : Walk) (words rest : List Text) → Reached m w words → Reached (at_end f (fold next_stand (ended m) rest)) w words
  ends_so m w words rest r = subst (λ stand. Reached (at_end f stand) w words) (sym (ended_stays m rest)) r

  -- where `clap`'s walk stands, by what the words so far come to
  data Rel : Stand → Walk → Type 0 where
    rel_between : (rows : List Row) (pending : Option (Text × List Text)) (p : ℕ) (given : Given) (left : List Text) → Good rows pending given
        → ArePlaced profiles f rules p left
        → Rel (between given left) (open_at rows pending p)
    rel_wants : (long : Option Text) (index : Option ℕ) (label : Text) (p : ℕ) (given : Given) (left : List Text)
        → arg_by_id rules label ≡ Some (text_arg profiles f long index label)
        → text_after label given ≡ None → ArePlaced profiles f rules p left
        → Rel (wants label given left) (waiting_at (waits_for label) (rows_of given) (Some (label, [])) p)
    rel_after : (rows : List Row) (pending : Option (Text × List Text)) (p : ℕ) (given : Given) (left : List Text) → Good rows pending given
        → ArePlaced profiles f rules p left
        → Rel (behind given left) (closed_at rows pending p)

  -- the rest goes on so
  abbrev Goes : List Text → Type 0
  Goes rest = (stand : Stand) (w : Walk) → Rel stand w → Going stand w rest

  module _ (rest : List Text) (goes : Goes rest) (word : Text) where
    -- so it is where this word led to this stand
    abbrev Stepped : Stand → Walk → Type 0
    Stepped stand w = Reached (at_end f (fold next_stand stand rest)) w (word ∷ rest)

    -- a text that an option wants
    wanted_step : (name : Option Text) (index : Option ℕ) (label : Text) (p : ℕ) (given : Given) (left : List Text)
        → arg_by_id rules label ≡ Some (text_arg profiles f name index label)
        → text_after label given ≡ None → ArePlaced profiles f rules p left
        → Stepped (next_stand (wants label given left) word) (waiting_at (waits_for label) (rows_of given) (Some (label, [])) p)
    wanted_step name index label p given left known fresh at = go (is_text word) refl
      where
        w : Walk
        w = waiting_at (waits_for label) (rows_of given) (Some (label, [])) p

        same : bytes_eq label label ≡ true
        same = (bytes_eq-Decides label label).1 refl

        taken : (m : Meaning) → is_text word ≡ true → Reached m (open_at (rows_of given) (Some (label, word ∷ [])) p) rest → Reached m w (word ∷ rest)
        taken m e r = passes m w (open_at (rows_of given) (Some (label, word ∷ [])) p) word rest
            (text_turn_at s [] (rows_of given) (Some (label, [])) p (waits_for label) word refl refl e)
            (text_taken s [] (rows_of given) (Some (label, [])) p (waits_for label) word refl e ∙ rw (known, same) refl)
            r

        by_fit : (b : Bool) → fits f label word ≡ b → is_text word ≡ true
            → Reached (at_end f (fold next_stand (cond b (between (given ++ (label, word) ∷ []) left) (ended usage)) rest)) w (word ∷ rest)
        by_fit true fit e = taken _ e
            (goes _ _
            (rel_between (rows_of given) (Some (label, word ∷ [])) p (given ++ (label, word) ∷ []) left
            (good_pending name index label known given word fresh fit) at))
        by_fit false misfit e = ends_so usage w (word ∷ rest) rest (taken usage e
            (failing (rows_of given) (Some (label, word ∷ [])) (misfit_fails name index label known given word fresh misfit) p left at rest))

        go : (b : Bool) → is_text word ≡ b
            → Reached (at_end f (fold next_stand (cond b (wanted f label given left word) (ended usage)) rest)) w (word ∷ rest)
        go true e = by_fit (fits f label word) refl e
        go false e = ends_so usage w (word ∷ rest) rest
            (no_text (rows_of given) (Some (label, [])) (wanted_fails name index label known (rows_of given)) p left at (waits_for label) word rest e)

    -- a text for the next place, or one too many; `stand` and `at` tell whether it comes behind `--`
    place_step : (stand : Given → List Text → Stand) (at_walk : List Row → Option (Text × List Text) → ℕ → Walk)
        → ((rows : List Row) (pending : Option (Text × List Text)) (p : ℕ) (given : Given) (left : List Text) → Good rows pending given
        → ArePlaced profiles f rules p left
        → Rel (stand given left) (at_walk rows pending p))
        → ((rows : List Row) (pending : Option (Text × List Text)) (p : ℕ) (left : List Text) → is_usage (settle_fault rules false (held rows pending)) ≡ true
        → ArePlaced profiles f rules p left
        → is_usage (kinds_at (at_walk rows pending p) rest) ≡ true)
        → (rows : List Row) (pending : Option (Text × List Text)) (p : ℕ) (given : Given) (left : List Text) → Good rows pending given
        → ArePlaced profiles f rules p left
        → turn_fault s [] (at_walk rows pending p) word ≡ step_fault s p (held rows pending) a_value
        → ((label : Text) → arg_by_index rules p ≡ Some (text_arg profiles f None (Some p) label)
        → walked rules [] (at_walk rows pending p) word
        ≡ at_walk (settled_rows rules pending rows) (Some (label, word ∷ [])) (next_position (text_arg profiles f None (Some p) label) p))
        → Stepped (placed f stand given left word) (at_walk rows pending p)
    place_step stand at_walk related failing_on rows pending p given [] good at turn walks =
        ends_so usage (at_walk rows pending p) (word ∷ rest) rest (misused (at_walk rows pending p) word rest (rw (turn, at) refl))
    place_step stand at_walk related failing_on rows pending p given (label ∷ left) good at turn walks =
        go (is_some (text_after label given) || not (fits f label word)) refl
      where
        next : ℕ
        next = next_position (text_arg profiles f None (Some p) label) p

        passing_on : turn_fault s [] (at_walk rows pending p) word ≡ []
        passing_on = turn ∙ rw (at.0, and_false (is_pending (text_arg profiles f None (Some p) label) pending), good.settles) refl

        there : walked rules [] (at_walk rows pending p) word ≡ at_walk (rows_of given) (Some (label, word ∷ [])) next
        there = walks label at.0 ∙ ap (λ r. at_walk r (Some (label, word ∷ [])) next) good.rows_are

        go : (b : Bool) → (is_some (text_after label given) || not (fits f label word)) ≡ b
            → Reached (at_end f (fold next_stand (cond b (ended usage) (stand (given ++ (label, word) ∷ []) left)) rest)) (at_walk rows pending p)
            (word ∷ rest)
        go false e = passes _ (at_walk rows pending p) (at_walk (rows_of given) (Some (label, word ∷ [])) next) word rest passing_on there
            (goes _ _
            (related (rows_of given) (Some (label, word ∷ [])) next (given ++ (label, word) ∷ []) left
            (good_kept None (Some p) label at.1 given word e) at.2))
        go true e = ends_so usage (at_walk rows pending p) (word ∷ rest) rest
            (passes usage (at_walk rows pending p) (at_walk (rows_of given) (Some (label, word ∷ [])) next) word rest passing_on there
            (failing_on (rows_of given) (Some (label, word ∷ [])) next left (unfit_fails None (Some p) label at.1 given word e) at.2))

    later_step : (rows : List Row) (pending : Option (Text × List Text)) (p : ℕ) (given : Given) (left : List Text) → Good rows pending given
        → ArePlaced profiles f rules p left
        → Stepped (placed f behind given left word) (closed_at rows pending p)
    unfolding walked
    later_step rows pending p given left good at =
        place_step behind closed_at rel_after (λ r q i ls fails places. closed_fails r q fails i ls places idle rest) rows pending p given left good at refl
        (λ label known. rw (known, and_false (is_pending (text_arg profiles f None (Some p) label) pending)) refl)

    text_step : (rows : List Row) (pending : Option (Text × List Text)) (p : ℕ) (given : Given) (left : List Text) → Good rows pending given
        → ArePlaced profiles f rules p left → is_text word ≡ true
        → Stepped (placed f between given left word) (open_at rows pending p)
    text_step rows pending p given left good at e =
        place_step between open_at rel_between (λ r q i ls fails places. failing r q fails i ls places rest) rows pending p given left good at
        (text_turn s [] rows pending p word refl refl e)
        (λ label known. text_walked s [] rows pending p word refl e ∙ rw (known, and_false (is_pending (text_arg profiles f None (Some p) label) pending)) refl)

    module _ (rows : List Row) (pending : Option (Text × List Text)) (p : ℕ) (given : Given) (left : List Text) (good : Good rows pending given)
        (at : ArePlaced profiles f rules p left) where
      abbrev here : Walk
      here = open_at rows pending p

      dashes_step : is_dashes word ≡ true → Stepped (behind given left) here
      unfolding walked
      dashes_step e = subst (λ u. Reached (at_end f (fold next_stand (behind given left) rest)) here (u ∷ rest)) ((bytes_eq-Decides (codes "--") word).0 e)
          (passes _ here (closed_at rows pending p) (codes "--") rest refl refl (goes _ _ (rel_after rows pending p given left good at)))

      call_step : is_help_flag word ≡ true → Stepped (ended help) here
      call_step e =
          ends_so help here (word ∷ rest) rest
          (helps here word rest (help_turn s [] rows pending p word is_named refl refl (knows_help rows pending given good) e))

      unknown_step : is_named (long_name word) ≡ false → is_text word ≡ false → is_dashes word ≡ false → is_help_flag word ≡ false → Stepped (ended usage) here
      unknown_step own no_text no_dashes no_call = ends_so usage here (word ∷ rest) rest
          (misused here word rest
          (other_turn s [] rows pending p word is_named refl refl (knows_help rows pending given good) own no_text no_call
          (flip_bytes (codes "--") word false no_dashes)))

  -- what follows a second option of one label
  again_fails : (name : Option Text) (index : Option ℕ) (label : Text) → arg_by_id rules label ≡ Some (text_arg profiles f name index label)
      → (given : Given) (u : Text)
      → text_after label given ≡ Some u
      → (p : ℕ) (left : List Text) → ArePlaced profiles f rules p left → (words : List Text)
      → is_usage (kinds_at (waiting_at (waits_for label) (rows_of given) (Some (label, [])) p) words) ≡ true
  again_fails name index label known given u there p left at [] =
      ends_failing (waiting_at (waits_for label) (rows_of given) (Some (label, [])) p) (wanted_fails name index label known (rows_of given))
  again_fails name index label known given u there p left at (v ∷ more) = go (is_text v) refl
    where
      w : Walk
      w = waiting_at (waits_for label) (rows_of given) (Some (label, [])) p

      same : bytes_eq label label ≡ true
      same = (bytes_eq-Decides label label).1 refl

      go : (b : Bool) → is_text v ≡ b → is_usage (kinds_at w (v ∷ more)) ≡ true
      go true e = passes usage w (open_at (rows_of given) (Some (label, v ∷ [])) p) v more
          (text_turn_at s [] (rows_of given) (Some (label, [])) p (waits_for label) v refl refl e)
          (text_taken s [] (rows_of given) (Some (label, [])) p (waits_for label) v refl e ∙ rw (known, same) refl)
          (failing (rows_of given) (Some (label, v ∷ []))
          (unfit_fails name index label known given v (ap (λ (o : Option Text). is_some o || not (fits f label v)) there)) p left at more)
      go false e = no_text (rows_of given) (Some (label, [])) (wanted_fails name index label known (rows_of given)) p left at (waits_for label) v more e

  module _ (rest : List Text) (goes : Goes rest) (c : ℕ) (cs : Text) (rows : List Row) (pending : Option (Text × List Text)) (p : ℕ) (given : Given)
      (left : List Text)
      (good : Good rows pending given) (at : ArePlaced profiles f rules p left) where
    abbrev word : Text
    word = 45 ∷ 45 ∷ c ∷ cs

    abbrev from : Walk
    from = open_at rows pending p

    abbrev has_equals : Bool
    has_equals = list_any (λ x. x == 61) (c ∷ cs)

    abbrev after_equals : Text
    after_equals = after_first (λ x. x == 61) (c ∷ cs)

    abbrev Led : Stand → Type 0
    Led stand = Reached (at_end f (fold next_stand stand rest)) from (word ∷ rest)

    module _ (o : Text × Text) (is_found : found (name_in (c ∷ cs)) ≡ Some o) where
      named : arg_by_long rules (name_in (c ∷ cs)) ≡ Some (option_arg profiles f o)
      named = by_long (name_in (c ∷ cs)) ∙ rw is_found refl

      labelled : arg_by_id rules o.1 ≡ Some (option_arg profiles f o)
      labelled = each_found (λ x. arg_by_id rules x.1 ≡ Some (option_arg profiles f x)) (λ x. bytes_eq x.0 (name_in (c ∷ cs))) f.options o is.options is_found

      option_fits : has_equals ≡ false → turn_fault s [] from word ≡ []
      option_fits e = rw (e, named, good.settles) refl

      option_goes : has_equals ≡ false → walked rules [] from word ≡ waiting_at (waits_for o.1) (rows_of given) (Some (o.1, [])) p
      unfolding walked
      option_goes e = rw (e, named, good.rows_are) refl

      option_step : has_equals ≡ false → Led (once o.1 given (wants o.1 given left))
      option_step e = go (text_after o.1 given) refl
        where
          go : (m : Option Text) → text_after o.1 given ≡ m → Led (cond (is_some m) (ended usage) (wants o.1 given left))
          go None fresh = passes _ from (waiting_at (waits_for o.1) (rows_of given) (Some (o.1, [])) p) word rest (option_fits e) (option_goes e)
              (goes _ _ (rel_wants (Some o.0) None o.1 p given left labelled fresh at))
          go (Some u) there = ends_so usage from (word ∷ rest) rest
              (passes usage from (waiting_at (waits_for o.1) (rows_of given) (Some (o.1, [])) p) word rest (option_fits e) (option_goes e)
              (again_fails (Some o.0) None o.1 labelled given u there p left at rest))

      valued_step : has_equals ≡ true → Led (kept f o.1 after_equals given (between (given ++ (o.1, after_equals) ∷ []) left))
      unfolding walked
      valued_step e = go (text_after o.1 given) (fits f o.1 after_equals) refl refl
        where
          go : (m : Option Text) (b : Bool) → text_after o.1 given ≡ m → fits f o.1 after_equals ≡ b
              → Led (cond (is_some m || not b) (ended usage) (between (given ++ (o.1, after_equals) ∷ []) left))
          go None true fresh fit = passes _ from (open_at (rows_of (given ++ (o.1, after_equals) ∷ [])) None p) word rest
              (rw (e, named, good.settles, good.rows_are, use_passes profiles are f (Some o.0) None o.1 after_equals given fresh fit) refl)
              (rw (e, named, good.rows_are, used_fresh profiles f (Some o.0) None o.1 after_equals given fresh) refl)
              (goes _ _ (rel_between _ None p (given ++ (o.1, after_equals) ∷ []) left (good_rows (given ++ (o.1, after_equals) ∷ [])) at))
          go None false fresh misfit = ends_so usage from (word ∷ rest) rest
              (misused from word rest (rw (
                e,
                named,
                good.settles,
                good.rows_are,
                use_misfit profiles are f (Some o.0) None o.1 after_equals given fresh misfit,
              ) (misfit_usage (is_among f.numbers o.1))))
          go (Some u) b there fit = ends_so usage from (word ∷ rest) rest
              (misused from word rest (rw (e, named, good.settles, good.rows_are, use_twice profiles are f (Some o.0) None o.1 after_equals u given there) refl))

    abbrev own_name : Text
    own_name = name_in (c ∷ cs)

    module _ (is_none : found own_name ≡ None) (own : is_among f.flags own_name ≡ true) where
      flag_named : arg_by_long rules own_name ≡ Some (flag_arg own_name)
      flag_named = by_long own_name ∙ rw (is_none, own) refl

      -- a flag has no text
      flag_refused : has_equals ≡ true → Led (ended usage)
      flag_refused e = ends_so usage from (word ∷ rest) rest (misused from word rest (rw (e, flag_named) refl))

      flag_step : has_equals ≡ false → Led (kept f own_name [] given (between (given ++ (own_name, []) ∷ []) left))
      unfolding walked
      flag_step e = rw (each_flag (λ n. fits f n [] ≡ true) f.flags own_name is.flags own) (go (text_after own_name given) refl)
        where
          go : (m : Option Text) → text_after own_name given ≡ m → Led (cond (is_some m || false) (ended usage) (between (given ++ (own_name, []) ∷ []) left))
          go None fresh = passes _ from (open_at (rows_of (given ++ (own_name, []) ∷ [])) None p) word rest
              (rw (e, flag_named, good.settles, good.rows_are, flag_passes own_name given fresh) refl)
              (rw (e, flag_named, good.rows_are, flagged_fresh own_name given fresh) refl)
              (goes _ _ (rel_between _ None p (given ++ (own_name, []) ∷ []) left (good_rows (given ++ (own_name, []) ∷ [])) at))
          go (Some u) there = ends_so usage from (word ∷ rest) rest
              (misused from word rest (rw (e, flag_named, good.settles, good.rows_are, flag_twice own_name u given there) refl))

    long_step : is_text word ≡ false → is_dashes word ≡ false → is_help_flag word ≡ false → Led (after_part f given left word (named_part f (c ∷ cs)))
    long_step no_text no_dashes no_call = go (found own_name) has_equals (is_among f.flags own_name) refl refl refl
      where
        go : (m : Option (Text × Text)) (b h : Bool) → found own_name ≡ m → has_equals ≡ b → is_among f.flags own_name ≡ h
            → Led (after_part f given left word
            (option_map_or (λ label. option_map_or (valued label) (cond b (Some after_equals) None) (option label)) (option_map (λ x. x.1) m)
            (cond (h && not (is_some (cond b (Some after_equals) None))) (flag own_name) unknown)))
        go None b false e eq own =
            unknown_step rest goes word rows pending p given left good at
            (ap₂ (λ (x : Option (Text × Text)) (y : Bool). is_some (option_map (λ z. z.1) x) || y) e own) no_text no_dashes no_call
        go None false true e eq own = flag_step e own eq
        go None true true e eq own = flag_refused e own eq
        go (Some o) false h e eq own = option_step o e eq
        go (Some o) true h e eq own = valued_step o e eq

  -- a word that begins with a hyphen, is not `--` and asks for no help
  hyphen_step : (rest : List Text) → Goes rest → (word : Text) → View word
      → (rows : List Row) (pending : Option (Text × List Text)) (p : ℕ) (given : Given) (left : List Text)
      → Good rows pending given → ArePlaced profiles f rules p left → is_text word ≡ false → is_dashes word ≡ false → is_help_flag word ≡ false
      → Reached (at_end f (fold next_stand (after_part f given left word (option_map_or (named_part f) (after_dashes word) unknown)) rest))
      (open_at rows pending p) (word ∷ rest)
  hyphen_step rest goes _ no_byte rows pending p given left good at t d c = absurd (true≢false t)
  hyphen_step rest goes _ (a_letter x more e) rows pending p given left good at t d c = absurd (true≢false (rw e at t))
  hyphen_step rest goes _ one_hyphen rows pending p given left good at t d c = absurd (true≢false (rw no_first at t))
  hyphen_step rest goes _ two_hyphens rows pending p given left good at t d c = absurd (true≢false d)
  hyphen_step rest goes _ (a_long x xs) rows pending p given left good at t d c = long_step rest goes x xs rows pending p given left good at t d c
  hyphen_step rest goes _ (a_short y ys e) rows pending p given left good at t d c =
      rw e (unknown_step rest goes (45 ∷ y ∷ ys) rows pending p given left good at
      (rw e (not_named [] is.no_empty)) t d c)

  -- ---- all the words

  stepped : (rest : List Text) → Goes rest → (word : Text) (stand : Stand) (w : Walk) → Rel stand w → Going stand w (word ∷ rest)
  stepped rest goes word _ _ (rel_wants name index label p given left known fresh at) = wanted_step rest goes word name index label p given left known fresh at
  stepped rest goes word _ _ (rel_after rows pending p given left good at) = later_step rest goes word rows pending p given left good at
  stepped rest goes word _ _ (rel_between rows pending p given left good at) = go (is_text word) (is_dashes word) (is_help_flag word) refl refl refl
    where
      go : (a b c : Bool) → is_text word ≡ a → is_dashes word ≡ b → is_help_flag word ≡ c
          → Reached (at_end f
          (fold next_stand
          (after_part f given left word (cond a text (cond b dashes (cond c call (option_map_or (named_part f) (after_dashes word) unknown))))) rest))
          (open_at rows pending p) (word ∷ rest)
      go true b c t d h = text_step rest goes word rows pending p given left good at t
      go false true c t d h = dashes_step rest goes word rows pending p given left good at d
      go false false true t d h = call_step rest goes word rows pending p given left good at h
      go false false false t d h = hyphen_step rest goes word (view word) rows pending p given left good at t d h

  ends_wanting : (label : Text) (p : ℕ) (given : Given) (name : Option Text) (index : Option ℕ) → arg_by_id rules label
      ≡ Some (text_arg profiles f name index label)
      → Reached usage (waiting_at (waits_for label) (rows_of given) (Some (label, [])) p) []
  ends_wanting label p given name index known =
      ends_failing (waiting_at (waits_for label) (rows_of given) (Some (label, [])) p) (wanted_fails name index label known (rows_of given))

  going : (words : List Text) → Goes words
  going [] _ _ (rel_between rows pending p given left good at) = open_end rows pending p given good
  going [] _ _ (rel_after rows pending p given left good at) = closed_end rows pending p given good
  going [] _ _ (rel_wants name index label p given left known fresh at) = ends_wanting label p given name index known
  going (word ∷ rest) stand w rel = stepped rest (going rest) word stand w rel

  -- the kinds of error and the rows go with what the words after the name ask for
  pub form_comes : (words : List Text) → Comes (meaning_of_form f words) (form_kinds words) (rows_after rules [] words)
  form_comes words = going words _ _ (rel_between [] None 1 [] f.positions (good_rows []) is.positions)
