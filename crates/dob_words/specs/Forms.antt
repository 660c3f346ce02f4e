-- The subcommands of the program: what each of them takes, by its row in src/rows.rt.
use Rattle.std.specs.Prelude.{ℕ, ◌+◌, Bool, true, false, not, List, [], ◌++◌, length, take, drop, map, find, unwrap_or}
use Rattle.std.specs.List.{filter, list_any}
use Rattle.std.specs.Str.{bytes_eq}
use Rattle.dob_words.specs.declared.table.ArgumentKind.{ArgumentKind}
use Rattle.dob_words.specs.declared.table.ArgumentKind.TheVariants as kind
use Rattle.dob_words.specs.declared.table.Presence.{Presence}
use Rattle.dob_words.specs.declared.table.Presence.TheVariants as need
use Rattle.dob_words.specs.declared.rows.TheConstants.{FIRST_ROWS, LAST_ROWS, LATER_ROWS, MIDDLE_ROWS}

abbrev pub Text : Type 0
Text = List ℕ

-- what a subcommand takes
pub record Form : Type 0 where
  pub name : Text
  -- its options, each with one text: the name behind `--`, and what its text is called
  pub options : List (Text × Text)
  -- its flags, each with no text: the name behind `--`, and so it is called
  pub flags : List Text
  -- what the texts are called that come with no option, in the order of their places
  pub positions : List Text
  -- what those of its texts are called that are numbers
  pub numbers : List Text
  -- what those of its texts are called that name a profile of the rules
  pub profiles : List Text
  -- what those of its texts are called that may be left out
  pub optional : List Text

-- what all its texts are called; a flag that is given has the empty one
abbrev pub labels : Form → List Text
labels form = map (λ o. o.1) form.options ++ form.flags ++ form.positions

-- the label is one of these
abbrev pub is_among : List Text → Text → Bool
is_among labels label = list_any (λ l. bytes_eq l label) labels

-- the text of this label has to be given
abbrev pub is_needed : Form → Text → Bool
is_needed form label = not (is_among (form.optional ++ form.flags) label)

-- ---- rows of the table, without what the help says of them

-- a text: what it is called, what it has to be, and whether it may be left out
abbrev pub Argument : Type 0
Argument = Text × ArgumentKind × Presence

-- an option: the name behind `--`, and its text
abbrev pub OptionArgument : Type 0
OptionArgument = Text × Argument

-- a subcommand: its name, its options, its flags, and the texts that come with no option
abbrev pub Row : Type 0
Row = Text × List OptionArgument × List Text × List Argument

-- those of src/rows.rt
abbrev pub rows : List Row
rows = map (λ r. (
  r.0.now,
  map (λ c. (c.0.now, (c.1.0.now, c.1.1, c.1.2))) r.3.now,
  map (λ f. f.0.now) r.4.now,
  map (λ p. (p.0.now, p.1, p.2)) r.5.now,
)) (FIRST_ROWS.now ++ MIDDLE_ROWS.now ++ LATER_ROWS.now ++ LAST_ROWS.now)

-- those of each of its lists
abbrev pub first_rows : List Row
first_rows = take (length FIRST_ROWS.now) rows

abbrev pub middle_rows : List Row
middle_rows = take (length MIDDLE_ROWS.now) (drop (length FIRST_ROWS.now) rows)

abbrev pub later_rows : List Row
later_rows = take (length LATER_ROWS.now) (drop (length FIRST_ROWS.now + length MIDDLE_ROWS.now) rows)

abbrev pub last_rows : List Row
last_rows = drop (length FIRST_ROWS.now + length MIDDLE_ROWS.now + length LATER_ROWS.now) rows

abbrev pub is_number_kind : ArgumentKind → Bool
is_number_kind kind.Number = true
is_number_kind _ = false

abbrev pub is_profile_kind : ArgumentKind → Bool
is_profile_kind kind.Profile = true
is_profile_kind _ = false

abbrev pub is_output_kind : ArgumentKind → Bool
is_output_kind kind.Output = true
is_output_kind _ = false

abbrev pub is_may : Presence → Bool
is_may need.May = true
is_may need.Must = false

-- the texts of a row, those of its options first
abbrev pub places_of : Row → List Argument
places_of row = map (λ c. c.1) row.1 ++ row.3

-- what those are called that pass
abbrev pub labels_where : (Argument → Bool) → Row → List Text
labels_where passes row = map (λ p. p.0) (filter passes (places_of row))

abbrev pub form_of : Row → Form
form_of row = record {
  name = row.0;
  options = map (λ c. (c.0, c.1.0)) row.1;
  flags = row.2;
  positions = map (λ p. p.0) row.3;
  numbers = labels_where (λ p. is_number_kind p.1) row;
  profiles = labels_where (λ p. is_profile_kind p.1) row;
  optional = labels_where (λ p. is_may p.2) row;
}

-- the subcommands, in the order of the help
abbrev pub forms : List Form
forms = map form_of rows

abbrev pub no_form : Form
no_form = record { name = []; options = []; flags = []; positions = []; numbers = []; profiles = []; optional = [] }

-- the one of this name
abbrev pub form_named : Text → Form
form_named name = unwrap_or (find (λ form. bytes_eq form.name name) forms) no_form
