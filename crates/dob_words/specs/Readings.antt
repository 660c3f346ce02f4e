-- How what was read of the words goes with what they ask for.
use Rattle.std.specs.Prelude.{◌≡◌, ◌||◌, IfSome, true, List, [], ◌∷◌, None, Option, Some, codes, is_some, option_map}
use Rattle.std.specs.Borrow.{Bor}
use Rattle.clap.specs.declared.error.kind.ErrorKind.{ErrorKind}
use Rattle.clap.specs.declared.error.kind.ErrorKind.TheVariants as kind
use Rattle.clap.specs.declared.parser.ArgMatches.{ArgMatches}
use Rattle.dob_words.specs.Forms.{Form, Text, form_named, forms}
use Rattle.dob_words.specs.Lines.{IsAmong, IsCommandLine}
use Rattle.dob_words.specs.Words.{Meaning, asks, help, is_number, number_in, profile_named, usage, version}
use Rattle.dob_words.specs.Shapes.{texts_in}
use Rattle.dob_words.specs.declared.command.orders.Asked.{Asked}
use Rattle.dob_words.specs.declared.command.orders.By.{By}
use Rattle.dob_words.specs.declared.command.orders.By.TheVariants as way
use Rattle.dob_words.specs.declared.command.orders.LineForm.{LineForm}
use Rattle.dob_words.specs.declared.command.orders.LineForm.TheVariants as line
use Rattle.dob_words.specs.declared.command.orders.LinesOrder.{LinesOrder}
use Rattle.dob_words.specs.declared.command.orders.LinesOrder.TheVariants as lines
use Rattle.dob_words.specs.declared.command.orders.MovesForm.TheVariants as moves
use Rattle.dob_words.specs.declared.command.orders.Order.{Order}
use Rattle.dob_words.specs.declared.command.orders.Order.TheVariants as order
use Rattle.dob_words.specs.declared.command.orders.Question.{Question}
use Rattle.dob_words.specs.declared.command.orders.Question.TheVariants as question
use Rattle.dob_words.specs.declared.command.orders.StatsForm.{StatsForm}
use Rattle.dob_words.specs.declared.command.orders.StatsForm.TheVariants as stats
use Rattle.dob_words.specs.declared.command.orders.ValueForm.TheVariants as value
use Rattle.dob_words.specs.declared.command.Reading.{Reading}
use Rattle.dob_words.specs.declared.command.Reading.TheVariants as reading

-- the name of the subcommand that asks this question by that of a file
abbrev pub name_by : By → Question → Text
name_by way.Table (question.Value _) = codes "probe"
name_by way.Records (question.Value _) = codes "look"
name_by _ (question.Moves moves.Best) = codes "best"
name_by _ (question.Moves _) = codes "moves"
name_by _ (question.Line _) = codes "line"

abbrev pub name_asked : Asked → Text
name_asked asked = name_by asked.by asked.question

-- the name of the subcommand that the order is for
abbrev pub name_of : LinesOrder → Text
name_of (lines.Value _ _) = codes "value"
name_of (lines.Count _ _) = codes "count"
name_of (lines.Reach _ _ _) = codes "reach"
name_of (lines.Build _) = codes "build"
name_of (lines.Ask _ asked _) = name_asked asked
name_of (lines.Check _ _) = codes "check"
name_of (lines.Show _ _ _) = codes "show"
name_of (lines.Stats _ _) = codes "stats"
name_of (lines.Zugzwangs _ _) = codes "zugzwangs"
name_of (lines.Puzzles _ _) = codes "puzzles"
name_of (lines.Migrate _ _) = codes "migrate"
name_of (lines.Certify _) = codes "certify"
name_of (lines.Verify _ _) = codes "verify"
name_of (lines.Reply _ _) = codes "reply"
name_of (lines.Info _ _) = codes "info"

abbrev pub name_of_order : Order → Text
name_of_order (order.Lines o) = name_of o
name_of_order (order.EachLine file asked) = name_asked asked

-- how a line is told, by the texts of `--numbered` and `--json`: as JSON, also where its moves are to be numbered
abbrev pub line_form : Option Text → Option Text → LineForm
line_form numbered (Some _) = line.Object
line_form (Some _) None = line.Numbered
line_form None None = line.Plain

-- how statistics are told, by those of `--csv` and `--json`: as JSON, also where they are to be for scripts
abbrev pub stats_form : Option Text → Option Text → StatsForm
stats_form csv (Some _) = stats.Objects
stats_form (Some _) None = stats.Csv
stats_form None None = stats.Lines

-- The flags `--numbered`, `--records`, `--each` and `--json` are given where that is asked so. Moves are asked of the records alone, and a line of the whole
-- table where neither `--records` nor `--each` is given.
abbrev pub IsFlaggedBy : By → Question → Option Text → Option Text → Option Text → Option Text → Type 0
IsFlaggedBy _ (question.Value value.Plain) numbered records each json = json ≡ None
IsFlaggedBy _ (question.Value value.Object) numbered records each json = is_some json ≡ true
IsFlaggedBy way.Table (question.Moves _) numbered records each json = ⊥
IsFlaggedBy way.Records (question.Moves moves.Plain) numbered records each json = json ≡ None
IsFlaggedBy way.Records (question.Moves moves.Object) numbered records each json = is_some json ≡ true
IsFlaggedBy way.Records (question.Moves moves.Best) numbered records each json = Unit {0}
IsFlaggedBy way.Table (question.Line form) numbered records each json = (records ≡ None) × (each ≡ None) × (form ≡ line_form numbered json)
IsFlaggedBy way.Records (question.Line form) numbered records each json =
    ((is_some records || is_some each) ≡ true) × (form ≡ line_form numbered json)

-- the texts by which the question is asked, by those of FILE, `--numbered`, `--records`, `--each`, `--json` and POSITION
abbrev pub texts_asked : Question → Option Text → Option Text → Option Text → Option Text → Option Text → Option Text → List (Option Text)
texts_asked (question.Moves moves.Best) file numbered records each json position = file ∷ each ∷ position ∷ []
texts_asked (question.Line _) file numbered records each json position = file ∷ numbered ∷ records ∷ each ∷ json ∷ position ∷ []
texts_asked _ file numbered records each json position = file ∷ each ∷ json ∷ position ∷ []

-- the text that may be left out
abbrev pub text_given : Option (Bor Text) → Option Text
text_given = option_map (λ t. t.now)

-- it has these texts, in the order of the subcommand's form; of a number the text may be any that tells it
abbrev pub HasLinesTexts : List (Option Text) → LinesOrder → Type 0
HasLinesTexts texts (lines.Value profile position) =
    (rules : Option Text) × (rules ∷ Some position.now ∷ [] ≡ texts) × (profile ≡ profile_named rules)
HasLinesTexts texts (lines.Count profile set) =
    (rules : Option Text) × (Some set.now ∷ rules ∷ [] ≡ texts) × (profile ≡ profile_named rules)
HasLinesTexts texts (lines.Reach search file position) =
    (rules levels values json flag : Option Text)
    × (text_given file ∷ rules ∷ levels ∷ values ∷ json ∷ flag ∷ Some position.now ∷ [] ≡ texts) × (search.profile ≡ profile_named rules)
    × (search.has_levels ≡ is_some levels) × (search.has_values ≡ is_some values) × (search.is_json ≡ is_some json)
    × (search.is_watched ≡ is_some flag)
HasLinesTexts texts (lines.Build build) =
    (n rules flag : Option Text) × (Some build.set.now ∷ n ∷ Some build.file.now ∷ rules ∷ flag ∷ [] ≡ texts) × IfSome n (λ t. is_number t ≡ true)
    × (build.nodes ≡ option_map number_in n) × (build.profile ≡ profile_named rules) × (build.is_watched ≡ is_some flag)
HasLinesTexts texts (lines.Ask file asked position) =
    (numbered records json : Option Text) × (texts_asked asked.question (Some file.now) numbered records None json (Some position.now) ≡ texts)
    × IsFlaggedBy asked.by asked.question numbered records None json
HasLinesTexts texts (lines.Check file is_watched) = (flag : Option Text) × (Some file.now ∷ flag ∷ [] ≡ texts) × (is_watched ≡ is_some flag)
HasLinesTexts texts (lines.Show file picture position) = text_given file ∷ text_given picture ∷ Some position.now ∷ [] ≡ texts
HasLinesTexts texts (lines.Stats file form) = (csv json : Option Text) × (Some file.now ∷ csv ∷ json ∷ [] ≡ texts) × (form ≡ stats_form csv json)
HasLinesTexts texts (lines.Zugzwangs file listed) =
    (n : Option Text) × (Some file.now ∷ n ∷ [] ≡ texts) × IfSome n (λ t. is_number t ≡ true) × (listed ≡ option_map number_in n)
HasLinesTexts texts (lines.Puzzles file search) =
    (d n : Text) × (f s flag : Option Text) × (Some file.now ∷ Some d ∷ Some n ∷ f ∷ s ∷ flag ∷ [] ≡ texts) × (is_number d ≡ true)
    × (search.plies ≡ number_in d) × (is_number n ≡ true) × (search.count ≡ number_in n) × (search.from ≡ option_map number_in f)
    × (search.seed ≡ option_map number_in s) × (search.is_numbered ≡ is_some flag)
HasLinesTexts texts (lines.Migrate file out) = Some file.now ∷ Some out.now ∷ [] ≡ texts
HasLinesTexts texts (lines.Certify made) =
    (n exact flag : Option Text) × (Some made.file.now ∷ Some made.out.now ∷ n ∷ exact ∷ flag ∷ Some made.position.now ∷ [] ≡ texts)
    × IfSome n (λ t. is_number t ≡ true) × (made.most ≡ option_map number_in n) × (made.is_exact ≡ is_some exact) × (made.is_watched ≡ is_some flag)
HasLinesTexts texts (lines.Verify file is_watched) = (flag : Option Text) × (Some file.now ∷ flag ∷ [] ≡ texts) × (is_watched ≡ is_some flag)
HasLinesTexts texts (lines.Reply file position) = Some file.now ∷ Some position.now ∷ [] ≡ texts
HasLinesTexts texts (lines.Info file is_object) = (json : Option Text) × (json ∷ Some file.now ∷ [] ≡ texts) × (is_object ≡ is_some json)

abbrev pub HasTexts : List (Option Text) → Order → Type 0
HasTexts texts (order.Lines o) = HasLinesTexts texts o
HasTexts texts (order.EachLine file asked) =
    (numbered records json : Option Text) × (each : Text) × (texts_asked asked.question (Some file.now) numbered records (Some each) json None ≡ texts)
    × IsFlaggedBy asked.by asked.question numbered records (Some each) json

-- the order is for this subcommand and these texts
abbrev pub IsOrder : Text → List (Option Text) → Order → Type 0
IsOrder name texts o = (name_of_order o ≡ name) × HasTexts texts o

-- what lines answer is for the subcommand of this name and the texts of its matches
abbrev pub IsLinesOrder : Text → ArgMatches → LinesOrder → Type 0
IsLinesOrder name matches o = IsOrder name (texts_in (form_named name) matches) (order.Lines o)

-- what was read is what the words ask for
abbrev pub IsReadingOf : Meaning → Reading → Type 0
IsReadingOf (asks name texts) (reading.Order o) = IsOrder name texts o
IsReadingOf help (reading.Help _) = Unit {0}
IsReadingOf version reading.Version = Unit {0}
IsReadingOf usage (reading.Usage _) = Unit {0}
IsReadingOf _ _ = ⊥

-- what matches were read as is what they ask for; they are read as nothing where that isn't clear
abbrev pub IsReadFor : Meaning → Option Order → Type 0
IsReadFor meant (Some o) = IsReadingOf meant (reading.Order o)
IsReadFor meant None = meant ≡ usage

-- what is asked for by the texts of `--each` and of POSITION: the lines of standard input, or that position; nothing where both are given, or none
abbrev pub IsOneOf : Option Text → Option Text → Option (Option (Bor Text)) → Type 0
IsOneOf each position (Some None) = (flag : Text) × (each ≡ Some flag) × (position ≡ None)
IsOneOf each position (Some (Some text)) = (each ≡ None) × (position ≡ Some text.now)
IsOneOf each position None = is_some each ≡ is_some position

-- the words are a line for the subcommand of this name and these texts
abbrev pub SomeLine : List Text → Text → List (Option Text) → Type 0
SomeLine words name texts = (form : Form) × IsAmong form forms × (form.name ≡ name) × IsCommandLine form words texts

-- an order is read only from a line that asks for it
abbrev pub ComesFromLine : List Text → Reading → Type 0
ComesFromLine words (reading.Order o) = (texts : List (Option Text)) × HasTexts texts o × SomeLine words (name_of_order o) texts
ComesFromLine words _ = Unit {0}

-- what an error of this kind is read as
abbrev pub IsReadingOfKind : ErrorKind → Reading → Type 0
IsReadingOfKind kind.OutOfMemory _ = ⊥
IsReadingOfKind kind.DisplayHelp (reading.Help _) = Unit {0}
IsReadingOfKind kind.DisplayHelp _ = ⊥
IsReadingOfKind _ (reading.Usage _) = Unit {0}
IsReadingOfKind _ _ = ⊥
