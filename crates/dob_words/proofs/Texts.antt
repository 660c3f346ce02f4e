-- The rows that `clap` keeps of given texts.
use Rattle.dob_words.proofs.Common.{◌++◌, ◌∙◌, ◌∷◌, ◌≡◌, Bool, List, None, Option, Some, [], ap, append-nil, arith, cond, false, map, refl, sym, true, ℕ}
use Rattle.dob_words.proofs.Common.{or_right, Bor, list_any, ◌&&◌, ◌||◌, find, fold, is_some, not, option_map, unwrap_or, bytes_eq, Kinds, value_kinds}
use Rattle.dob_words.proofs.Common.{filled, is_given, ErrorKind, AreProfiles, ProfileNames, flag_rule, no_names, text_rule, Given, Text, fits, is_number}
use Rattle.dob_words.proofs.Common.{is_profile, text_after, texts_of}
use Rattle.std.proofs.lemmas.List.{map-append}
use Rattle.clap.proofs.WalkLemmas.{find-map}
use Rattle.clap.specs.Facts.{parser_of_value}
use Rattle.clap.specs.Values.{reading_of}
use Rattle.clap.specs.ValueTests.{accepts}
use Rattle.clap.specs.declared.builder.value_parser.Reading.TheVariants.{AsWritten}
use Rattle.clap.specs.declared.builder.value_parser.ValueParser.TheVariants.{Names, String, Unsigned}
use Rattle.clap.specs.Walk.{Row, Rule, at_row, first_of, has_row, more_values, used, with_default}
use Rattle.clap.specs.Faults.{default_fault, defaults_fault, use_fault}
use Rattle.clap.specs.declared.error.kind.ErrorKind.TheVariants as kind
use Rattle.clap.specs.declared.builder.value_parser.ValueParser.{ValueParser}
use Rattle.clap.specs.declared.parser.matches.ValueSource.TheVariants.{CommandLine}
use Rattle.dob_words.specs.Forms.{Form, is_among, is_needed, no_form}
use Rattle.dob_words.proofs.Turns.{is_usage}
use Rattle.std.proofs.lemmas.Bool.Decides.{nat_tests}

-- the argument of a text, built: an option's by its name, another by its place
abbrev pub text_arg : ProfileNames → Form → Option Text → Option ℕ → Text → Rule
text_arg profiles f long index label = record (filled (text_rule profiles f label)) { long = long; index = index }

-- a flag, built
abbrev pub flag_arg : Text → Rule
flag_arg name = filled (flag_rule name)

-- the row of a given text
abbrev pub row_of : Text × Text → Row
row_of g = record {
  id = g.0;
  values = g.1 ∷ [];
  count = None;
  source = Some CommandLine;
  reading = AsWritten;
}

abbrev pub rows_of : Given → List Row
rows_of = map row_of

-- ---- what is found in them
pub row_found : (label : Text) (given : Given) → find (λ r. bytes_eq r.id label) (rows_of given) ≡ option_map row_of (find (λ g. bytes_eq g.0 label) given)
row_found label given = sym (find-map (λ (r : Row). bytes_eq r.id label) row_of given)

first_found : (label : Text) (given : Given) → first_of label (rows_of given) ≡ text_after label given
first_found label given = grind (arith, row_found label given)

given_found : (label : Text) (given : Given) → is_given label (rows_of given) ≡ is_some (text_after label given)
given_found label given = rw (row_found label given) (grind arith)

pub has_found : (label : Text) (given : Given) → has_row label (rows_of given) ≡ is_some (text_after label given)
has_found label [] = refl
has_found label (g ∷ given) = grind (arith, has_found label given)

-- a text of one of these labels is missing
abbrev pub some_missing : Form → List Row → List Text → Bool
some_missing f rows = list_any (λ l. is_needed f l && not (is_given l rows))

-- all the texts are there that are needed, or one is missing
abbrev pub Looked : Form → List Text → Given → Option (List (Option Text)) → Type 0
Looked f labels given (Some texts) =
    (some_missing f (rows_of given) labels ≡ false) × (map (λ l. first_of l (rows_of given)) labels ≡ texts)
Looked f labels given None = some_missing f (rows_of given) labels ≡ true

pub looked : (f : Form) (labels : List Text) (given : Given) → Looked f labels given (texts_of f labels given)
looked f [] given = (refl, refl)
looked f (l ∷ ls) given = grind (arith, looked f ls given, given_found l given, first_found l given)

-- ---- one more text
at_row_fresh : (id : Text) (change : Row → List Row) (missing rows : List Row) → has_row id rows ≡ false → at_row id change missing rows ≡ rows ++ missing
at_row_fresh id change missing [] e = refl
at_row_fresh id change missing (r ∷ rs) e = grind (arith, at_row_fresh id change missing rs)

-- what a text is read as, where it has to be a number, or to name a profile
abbrev parser_for : ProfileNames → Bool → Bool → ValueParser
parser_for profiles is_one is_name =
    parser_of_value (Some (unwrap_or (cond is_one (Some (Unsigned 0 18446744073709551615)) (cond is_name (Some (Names profiles)) None)) String))

-- each is read as it is written
as_written : (profiles : ProfileNames) (is_one is_name : Bool) → reading_of (parser_for profiles is_one is_name) ≡ AsWritten
as_written profiles is_one is_name = grind arith

pub used_fresh : (profiles : ProfileNames) (f : Form) (long : Option Text) (index : Option ℕ) (label t : Text) (given : Given) → text_after label given ≡ None
    → used (text_arg profiles f long index label) (t ∷ []) (rows_of given) ≡ rows_of (given ++ (label, t) ∷ [])
used_fresh profiles f long index label t given fresh =
    let none : has_row label (rows_of given) ≡ false = has_found label given ∙ ap is_some fresh in
    rw (
      as_written profiles (is_among f.numbers label) (is_among f.profiles label),
      at_row_fresh label (λ _. []) [] (rows_of given) none,
      append-nil (rows_of given),
      at_row_fresh label (more_values CommandLine (t ∷ [])) (row_of (label, t) ∷ []) (rows_of given) none,
    ) (sym (map-append row_of given ((label, t) ∷ [])))

-- `clap` takes just such numbers
pub taken_number : (t : Text) → accepts false (Unsigned 0 18446744073709551615) t ≡ is_number t
taken_number t = grind (arith, nat_tests)

-- and just the names of profiles
any_name : (names : List (Bor Text)) (t : Text) → list_any (λ name. bytes_eq name.now t) names ≡ is_among (map (λ name. name.now) names) t
any_name [] t = refl
any_name (name ∷ names) t = ap (λ (b : Bool). bytes_eq name.now t || b) (any_name names t)

taken_profile : (profiles : ProfileNames) → AreProfiles profiles → (t : Text) → accepts false (Names profiles) t ≡ is_profile t
taken_profile profiles are t = any_name profiles.now t ∙ ap (λ (names : List Text). is_among names t) are

-- the kinds of error of one text of a label
abbrev text_kinds : ProfileNames → Bool → Bool → Text → Kinds
text_kinds profiles is_one is_name t = value_kinds false (parser_for profiles is_one is_name) t

-- what is told of a text that isn't what it has to be
abbrev pub misfit_kind : Bool → ErrorKind
misfit_kind true = kind.ValueValidation
misfit_kind false = kind.InvalidValue

pub misfit_usage : (is_one : Bool) → is_usage (misfit_kind is_one ∷ []) ≡ true
misfit_usage is_one = grind arith

fit_kinds : (profiles : ProfileNames) → AreProfiles profiles → (is_one is_name : Bool) (t : Text)
    → cond is_one (is_number t) (cond is_name (is_profile t) true) ≡ true → text_kinds profiles is_one is_name t ≡ []
fit_kinds profiles are is_one is_name t e = grind (arith, taken_profile profiles are t, taken_number t)

misfit_kinds : (profiles : ProfileNames) → AreProfiles profiles → (is_one is_name : Bool) (t : Text)
    → cond is_one (is_number t) (cond is_name (is_profile t) true) ≡ false → text_kinds profiles is_one is_name t ≡ misfit_kind is_one ∷ []
misfit_kinds profiles are is_one is_name t e = grind (arith, taken_profile profiles are t, taken_number t)

-- a text that is kept is the first of its label, and what it has to be
pub kept_both : (before : Option Text) (fit : Bool) → (is_some before || not fit) ≡ false → (before ≡ None) × (fit ≡ true)
kept_both before fit e = grind arith

module _ (profiles : ProfileNames) (are : AreProfiles profiles) (f : Form) (long : Option Text) (index : Option ℕ) (label : Text) where
  pub use_passes : (t : Text) (given : Given) → text_after label given ≡ None → fits f label t ≡ true
      → use_fault false (text_arg profiles f long index label) (t ∷ []) (rows_of given) ≡ []
  use_passes t given fresh fit =
      rw (has_found label given, fresh, fit_kinds profiles are (is_among f.numbers label) (is_among f.profiles label) t fit) refl

  -- a text that isn't what it has to be is refused
  pub use_misfit : (t : Text) (given : Given) → text_after label given ≡ None → fits f label t ≡ false
      → use_fault false (text_arg profiles f long index label) (t ∷ []) (rows_of given) ≡ misfit_kind (is_among f.numbers label) ∷ []
  use_misfit t given fresh misfit =
      rw (has_found label given, fresh, misfit_kinds profiles are (is_among f.numbers label) (is_among f.profiles label) t misfit) refl

  -- a second text of one label is refused
  pub use_twice : (t u : Text) (given : Given) → text_after label given ≡ Some u
      → use_fault false (text_arg profiles f long index label) (t ∷ []) (rows_of given) ≡ kind.ArgumentConflict ∷ []
  use_twice t u given there = rw (has_found label given, there) refl

-- ---- one more flag

-- a flag's row is that of the empty text
pub flagged_fresh : (name : Text) (given : Given) → text_after name given ≡ None → used (flag_arg name) [] (rows_of given) ≡ rows_of (given ++ (name, []) ∷ [])
flagged_fresh name given fresh = used_fresh no_names no_form None None name [] given fresh

pub flag_passes : (name : Text) (given : Given) → text_after name given ≡ None → use_fault false (flag_arg name) [] (rows_of given) ≡ []
flag_passes name given fresh = rw (has_found name given, fresh) refl

-- a second use of one flag is refused
pub flag_twice : (name u : Text) (given : Given) → text_after name given ≡ Some u
    → use_fault false (flag_arg name) [] (rows_of given) ≡ kind.ArgumentConflict ∷ []
flag_twice name u given there = rw (has_found name given, there) refl

-- ---- no argument has a default
abbrev pub Each : {X : Type 0} → (X → Type 0) → List X → Type 0
Each P [] = Unit {0}
Each P (x ∷ xs) = P x × (Each P xs)

same_either : {X : Type 0} (b : Bool) (x : X) → cond b x x ≡ x
same_either b x = grind arith

default_none : (rows : List Row) (a : Rule) → a.defaults ≡ [] → with_default rows a ≡ rows
default_none rows a e = rw e (same_either (has_row a.id rows) rows)

no_fault : (rows : List Row) (a : Rule) → a.defaults ≡ [] → default_fault rows a ≡ []
no_fault rows a e = rw (e, or_right (has_row a.id rows) true refl) refl

pub defaults_none : (rules : List Rule) (rows : List Row) → Each (λ a. a.defaults ≡ []) rules → fold with_default rows rules ≡ rows
defaults_none [] rows e = refl
defaults_none (a ∷ rules) rows e = ap (λ r. fold with_default r rules) (default_none rows a e.0) ∙ defaults_none rules rows e.1

pub no_faults : (rules : List Rule) (rows : List Row) → Each (λ a. a.defaults ≡ []) rules → defaults_fault rows rules ≡ []
unfolding defaults_fault
no_faults [] rows e = refl
no_faults (a ∷ rules) rows e = rw (no_fault rows a e.0) (no_faults rules (with_default rows a) e.1)
