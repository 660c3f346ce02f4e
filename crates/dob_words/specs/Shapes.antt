-- What `clap` reads of the program's commands.
use Rattle.std.specs.Borrow.{Bor}
use Rattle.std.specs.Prelude.{◌≡◌, ◌&&◌, ◌⊎◌, ◌++◌, Bool, List, [], ◌∷◌, Option, None, Some, codes, false, fold, if◌then◌else◌, map, not, true}
use Rattle.std.specs.List.{list_any}
use Rattle.std.specs.Str.{bytes_eq}
use Rattle.clap.specs.declared.builder.Arg.{Arg}
use Rattle.clap.specs.declared.builder.Command.{Command}
use Rattle.clap.specs.declared.builder.Command.TheViews.{out-Command}
use Rattle.clap.specs.declared.parser.ArgMatches.{ArgMatches}
use Rattle.clap.specs.Words.{App, Row as FoundRow, Rule, app_of, first_of, first_value, found_of, new_app, new_rule, rule_of, with_subcommand}
use Rattle.clap.specs.declared.builder.action.ArgAction.TheVariants.{Set}
use Rattle.clap.specs.declared.builder.value_parser.ValueParser.{ValueParser}
use Rattle.clap.specs.declared.builder.value_parser.ValueParser.TheVariants.{Names, Unsigned}
use Rattle.dob_words.specs.declared.table.Presence.{Presence}
use Rattle.dob_words.specs.declared.table.ArgumentKind.{ArgumentKind}
use Rattle.dob_words.specs.declared.table.ArgumentKind.TheVariants as kind
use Rattle.dob_words.specs.Forms.{OptionArgument, Form, Argument, Row, Text, first_rows, forms, is_among, is_may, is_needed, labels, middle_rows}
use Rattle.dob_words.specs.Words.{fits, is_misplaced}

-- the command is read so, and none of its arguments is one of each subcommand too
abbrev pub HasCommandShape : App → Command → Type 0
HasCommandShape app c = (app_of c ≡ app) × ((out-Command c).has_globals ≡ false)

-- the names of the profiles, as `clap` has them
abbrev pub ProfileNames : Type 0
ProfileNames = Bor (List (Bor Text))

abbrev pub AreProfiles : ProfileNames → Type 0
AreProfiles profiles = map (λ name. name.now) profiles.now ≡ codes "A" ∷ codes "B" ∷ []

-- none, for arguments that ask for none
abbrev pub no_names : ProfileNames
no_names = record { ref_ptr = (0, 0); now = [] }

-- what a text of this label is read as
abbrev pub parser_of : ProfileNames → Form → Text → Option ValueParser
parser_of profiles form label =
    if is_among form.numbers label then Some (Unsigned 0 18446744073709551615)
    else if is_among form.profiles label then Some (Names profiles)
    else None

-- a text by its place, as POSITION
abbrev pub text_rule : ProfileNames → Form → Text → Rule
text_rule profiles form label = record (new_rule label) { required = is_needed form label; parser = parser_of profiles form label }

-- an option with its text, as `--set CEG`
abbrev pub option_rule : ProfileNames → Form → Text × Text → Rule
option_rule profiles form o = record (text_rule profiles form o.1) { long = Some o.0 }

-- a flag, as `--numbered`: it is set to the empty text, with no text behind it
abbrev pub flag_rule : Text → Rule
flag_rule name = record (new_rule name) {
  long = Some name;
  action = Some Set;
  range = Some (record { start_inclusive = 0; end_inclusive = 0 });
  missing = [] ∷ [];
}

-- the argument is read so, and it isn't one of each subcommand too
abbrev pub IsRead : Rule → Arg → Type 0
IsRead rule a = (rule_of a ≡ rule) × (a.global ≡ false)

-- a subcommand of this form
abbrev pub form_app : ProfileNames → Form → App
form_app profiles form = record (new_app form.name) {
  top = record (new_app form.name).top {
    rules = map (option_rule profiles form) form.options ++ map flag_rule form.flags ++ map (text_rule profiles form) form.positions;
  };
}

-- ---- what is made of rows of the table

-- what a text of this kind is read as
abbrev pub kind_parser : ProfileNames → ArgumentKind → Option ValueParser
kind_parser profiles kind.Any = None
kind_parser profiles kind.Number = Some (Unsigned 0 18446744073709551615)
kind_parser profiles kind.Profile = Some (Names profiles)
kind_parser profiles kind.Output = None

abbrev pub place_rule : ProfileNames → Argument → Rule
place_rule profiles p = record (new_rule p.0) { required = not (is_may p.2); parser = kind_parser profiles p.1 }

abbrev pub choice_rule : ProfileNames → OptionArgument → Rule
choice_rule profiles c = record (place_rule profiles c.1) { long = Some c.0 }

-- an application with these further arguments
abbrev pub with_rules : App → List Rule → App
with_rules app rules = record app { top = record app.top { rules = app.top.rules ++ rules } }

-- the subcommand of a row, without its places and with them
abbrev pub app_without_places : ProfileNames → Row → App
app_without_places profiles row = with_rules (with_rules (new_app row.0) (map (choice_rule profiles) row.1)) (map flag_rule row.2)

abbrev pub row_app : ProfileNames → Row → App
row_app profiles row = with_rules (app_without_places profiles row) (map (place_rule profiles) row.3)

-- what rows of the table say, as the code reads them
abbrev pub place_said : Bor Text × ArgumentKind × Presence × Bor Text → Argument
place_said p = (p.0.now, p.1, p.2)

abbrev pub choice_said : Bor Text × (Bor Text × ArgumentKind × Presence × Bor Text) → OptionArgument
choice_said c = (c.0.now, place_said c.1)

abbrev pub flag_said : Bor Text × Bor Text → Text
flag_said f = f.0.now

-- a row, as the code reads it
abbrev pub ReadRow : Type 0
ReadRow =
    Bor Text × Bor Text × Bor Text × Bor (List (Bor Text × (Bor Text × ArgumentKind × Presence × Bor Text))) × Bor (List (Bor Text × Bor Text))
    × Bor (List (Bor Text × ArgumentKind × Presence × Bor Text))

abbrev pub row_said : ReadRow → Row
row_said r = (r.0.now, map choice_said r.3.now, map flag_said r.4.now, map place_said r.5.now)

-- the program without its subcommands
abbrev pub bare_app : App
bare_app = record (new_app (codes "dobutsu")) {
  top = record (new_app (codes "dobutsu")).top { no_binary_name = true; subcommand_required = true };
}

-- the program
abbrev pub dobutsu_app : ProfileNames → App
dobutsu_app profiles = fold (λ app form. with_subcommand app (form_app profiles form).top) bare_app forms

-- an application with a subcommand for each row
abbrev pub with_rows : ProfileNames → App → List Row → App
with_rows profiles = fold (λ app row. with_subcommand app (row_app profiles row).top)

-- the program with its first twelve subcommands
abbrev pub first_app : ProfileNames → App
first_app profiles = with_rows profiles (with_rows profiles bare_app first_rows) middle_rows

abbrev pub IsProgram : Command → Type 0
IsProgram c = (profiles : ProfileNames) × AreProfiles profiles × HasCommandShape (dobutsu_app profiles) c

-- what is given for this label is a number or names a profile where it has to, or is left out where it may be
abbrev pub IsFit : Form → Text → Option Text → Type 0
IsFit form label None = is_needed form label ≡ false
IsFit form label (Some t) = fits form label t ≡ true

-- so is what is given for each of these labels
abbrev pub AreFit : Form → List Text → List (Option Text) → Type 0
AreFit form (label ∷ more) (t ∷ texts) = IsFit form label t × AreFit form more texts
AreFit form _ _ = Unit {0}

-- the subcommand of this form was met, with these texts
abbrev pub Finds : Form → List (Option Text) → Option (Text × List FoundRow) → Type 0
Finds form texts met =
    (rows : List FoundRow) × (met ≡ Some (form.name, rows)) × (map (λ label. first_of label rows) (labels form) ≡ texts)
    × AreFit form (labels form) texts

-- that of one of these forms was met, by this name and with these texts
abbrev pub IsMet : List Form → Text → List (Option Text) → Option (Text × List FoundRow) → Type 0
IsMet [] name texts met = ⊥
IsMet (form ∷ more) name texts met = ((form.name ≡ name) × Finds form texts met) ⊎ IsMet more name texts met

-- a subcommand of the program was met
abbrev pub IsMetBySome : Option (Text × List FoundRow) → Type 0
IsMetBySome met = (name : Text) × (texts : List (Option Text)) × IsMet forms name texts met

-- ---- a subcommand's own matches

-- one of the forms has this name
abbrev pub IsNamed : Text → List Form → Type 0
IsNamed name [] = ⊥
IsNamed name (form ∷ more) = (form.name ≡ name) ⊎ IsNamed name more

-- the texts that they have for the labels of the form
abbrev pub texts_in : Form → ArgMatches → List (Option Text)
texts_in form matches = map (first_value (found_of matches)) (labels form)

-- each of them fits
abbrev pub HasFit : Form → ArgMatches → Type 0
HasFit form matches = AreFit form (labels form) (texts_in form matches)

-- they have a stream for this option, where it has to have the name of a file that is written
abbrev pub is_stream_for : ArgMatches → OptionArgument → Bool
is_stream_for matches choice = is_misplaced choice (first_value (found_of matches) choice.1.0)

-- so for an option of this row, which is of this name
abbrev pub is_stream_in : Text → ArgMatches → Row → Bool
is_stream_in name matches row = bytes_eq row.0 name && list_any (is_stream_for matches) row.1
