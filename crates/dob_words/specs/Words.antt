-- What the words after the program's name ask for, without a word on how they are read. A word is
-- the list of its bytes, which are UTF-8.
use Rattle.std.specs.Prelude.{◌==◌, ◌&&◌, ◌||◌, ◌^◌, ℕ, Bool, false, true, not, List, [], ◌∷◌, ◌++◌, Option, None, Some, is_some}
use Rattle.std.specs.Prelude.{if◌then◌else◌, codes, length, nat_lt, slice_get, find, fold, map, option_map}
use Rattle.std.specs.List.{before_first, after_first, list_all, list_any, starts_with}
use Rattle.std.specs.Char.{digit_value}
use Rattle.std.specs.Option.{option_map_or}
use Rattle.std.specs.Str.{bytes_eq, chars}
use Rattle.std.specs.Str.Parse.{digits_value, without_leading_plus}
use Rattle.dob_pieces.specs.Bytes.{hyphen, equals_sign, lower_h}
use Rattle.dob_pieces.specs.declared.profile.Profile.{Profile}
use Rattle.dob_pieces.specs.declared.profile.Profile.TheVariants.{A, B}
use Rattle.dob_words.specs.Forms.{OptionArgument, Form, forms, is_among, is_needed, is_output_kind, labels, rows}
pub use Rattle.dob_words.specs.Forms.{Text}

-- ---- what one word is

-- the character after a word's leading hyphen; a lone hyphen has none
abbrev pub flag_of : Text → Option ℕ
flag_of [] = None
flag_of (c ∷ rest) = if c == hyphen then slice_get (chars rest) 0 else None

-- the word is a text: it does not begin with a hyphen, or is a lone one
abbrev pub is_text : Text → Bool
is_text word = not (is_some (flag_of word))

abbrev pub is_dashes : Text → Bool
is_dashes word = bytes_eq (codes "--") word

-- the word is `--help`, `-h` or begins with `-h`
abbrev pub is_help_flag : Text → Bool
is_help_flag word =
    bytes_eq (codes "--help") word || option_map_or (λ c. lower_h == c) (flag_of word) false

-- the name in what follows `--`: all before the first `=`
abbrev pub name_in : Text → Text
name_in rest = before_first (λ c. c == equals_sign) rest

-- the text in what follows `--`: all behind the first `=`
abbrev pub text_in : Text → Option Text
text_in rest =
    if list_any (λ c. c == equals_sign) rest then Some (after_first (λ c. c == equals_sign) rest) else None

-- the number that a text's digits tell; a plus may stand before them
abbrev pub number_in : Text → ℕ
number_in t = digits_value 10 (without_leading_plus t)

-- the text is a number below 2^64
abbrev pub is_number : Text → Bool
is_number t =
    nat_lt 0 (length (without_leading_plus t)) && list_all (λ d. nat_lt (digit_value d) 10) (without_leading_plus t) && nat_lt (number_in t) (2 ^ 64)

-- the text names a profile of the rules
abbrev pub is_profile : Text → Bool
is_profile t = is_among (codes "A" ∷ codes "B" ∷ []) t

-- the profile that it names; where it is left out, A
abbrev pub profile_named : Option Text → Profile
profile_named None = A
profile_named (Some t) = if bytes_eq (codes "B") t then B else A

-- the text of this label is a number, or names a profile, where it has to
abbrev pub fits : Form → Text → Text → Bool
fits form label t =
    if is_among form.numbers label then is_number t
    else if is_among form.profiles label then is_profile t
    else true

-- what a word is to a subcommand of a form
pub data Part : Type 0 where
  -- a text
  text : Part
  -- `--`
  dashes : Part
  -- a call for help
  call : Part
  -- `--NAME` for the text of this name
  option : Text → Part
  -- `--NAME=TEXT`
  valued : Text → Text → Part
  -- `--NAME` for the flag of this name
  flag : Text → Part
  -- an option or a flag that it does not know
  unknown : Part

-- the label of the option's text
abbrev pub label_of : List (Text × Text) → Text → Option Text
label_of options name = option_map (λ o. o.1) (find (λ o. bytes_eq o.0 name) options)

-- a flag's word, by what follows `--`: it has no text
abbrev pub flag_part : List Text → Text → Part
flag_part flags rest = if is_among flags (name_in rest) && not (is_some (text_in rest)) then flag (name_in rest) else unknown

-- an option's word or a flag's, by what follows `--`
abbrev pub named_part : Form → Text → Part
named_part form rest =
    option_map_or (λ label. option_map_or (valued label) (text_in rest) (option label)) (label_of form.options (name_in rest)) (flag_part form.flags rest)

-- what follows a word's `--`
abbrev pub after_dashes : Text → Option Text
after_dashes [] = None
after_dashes (a ∷ []) = None
after_dashes (a ∷ b ∷ rest) = if a == hyphen && b == hyphen then Some rest else None

abbrev pub part_named : Form → Text → Part
part_named form word =
    if is_text word then text
    else if is_dashes word then dashes
    else if is_help_flag word then call
    else option_map_or (named_part form) (after_dashes word) unknown

-- ---- what the words come to

-- what the words ask for
pub data Meaning : Type 0 where
  -- what the subcommand of this name does with these texts, in the order of its form; what may be left out may have none
  asks : Text → List (Option Text) → Meaning
  -- a help text
  help : Meaning
  -- the program's version
  version : Meaning
  -- nothing that the program knows
  usage : Meaning

-- the texts given so far, each with its label
abbrev pub Given : Type 0
Given = List (Text × Text)

abbrev pub text_after : Text → Given → Option Text
text_after label given = option_map (λ g. g.1) (find (λ g. bytes_eq g.0 label) given)

-- what is given for these labels, where each that is needed is
abbrev pub texts_of : Form → List Text → Given → Option (List (Option Text))
texts_of form [] given = Some []
texts_of form (label ∷ more) given =
    if is_needed form label && not (is_some (text_after label given)) then None
    else option_map (λ texts. text_after label given ∷ texts) (texts_of form more given)

-- where the words of a subcommand stand after some of them: what is given, and the labels of the places that are left
pub data Stand : Type 0 where
  -- any part may follow
  between : Given → List Text → Stand
  -- the text of this label must follow
  wants : Text → Given → List Text → Stand
  -- after `--`: only texts may follow, and anything is one
  behind : Given → List Text → Stand
  -- whatever follows, this is what the words come to
  ended : Meaning → Stand

-- no text is given twice
abbrev pub once : Text → Given → Stand → Stand
once label given stand = if is_some (text_after label given) then ended usage else stand

-- nor one that isn't what it has to be
abbrev pub kept : Form → Text → Text → Given → Stand → Stand
kept form label t given stand = if is_some (text_after label given) || not (fits form label t) then ended usage else stand

-- the word is the text of the next place
abbrev pub placed : Form → (Given → List Text → Stand) → Given → List Text → Text → Stand
placed form stand given [] word = ended usage
placed form stand given (label ∷ left) word = kept form label word given (stand (given ++ (label, word) ∷ []) left)

abbrev pub after_part : Form → Given → List Text → Text → Part → Stand
after_part form given left word text = placed form between given left word
after_part form given left word dashes = behind given left
after_part form given left word call = ended help
after_part form given left word (option label) = once label given (wants label given left)
after_part form given left word (valued label t) = kept form label t given (between (given ++ (label, t) ∷ []) left)
after_part form given left word (flag name) = kept form name [] given (between (given ++ (name, []) ∷ []) left)
after_part form given left word unknown = ended usage

-- the word is the text of the option before it
abbrev pub wanted : Form → Text → Given → List Text → Text → Stand
wanted form label given left word = if fits form label word then between (given ++ (label, word) ∷ []) left else ended usage

-- after one more word
abbrev pub after_word : Form → Stand → Text → Stand
after_word form (between given left) word = after_part form given left word (part_named form word)
after_word form (wants label given left) word = if is_text word then wanted form label given left word else ended usage
after_word form (behind given left) word = placed form behind given left word
after_word form (ended meaning) word = ended meaning

-- what is asked for where these texts were given
abbrev pub asked : Form → Given → Meaning
asked form given = option_map_or (asks form.name) (texts_of form (labels form) given) usage

-- after the last word
abbrev pub at_end : Form → Stand → Meaning
at_end form (between given left) = asked form given
at_end form (wants label given left) = usage
at_end form (behind given left) = asked form given
at_end form (ended meaning) = meaning

-- of the words after a subcommand's name
abbrev pub meaning_of_form : Form → List Text → Meaning
meaning_of_form form words = at_end form (fold (after_word form) (between [] form.positions) words)

-- after a first word that names no subcommand
abbrev pub meaning_of_other : Text → Meaning
meaning_of_other word = if is_help_flag word then help else usage

-- the first word is `--version`
abbrev pub is_version : List Text → Bool
is_version [] = false
is_version (word ∷ rest) = bytes_eq (codes "--version") word

-- the first word is `help`
abbrev pub is_topic : List Text → Bool
is_topic [] = false
is_topic (word ∷ rest) = bytes_eq (codes "help") word

-- a subcommand has this name, `help` among them
abbrev pub names_subcommand : Text → Bool
names_subcommand word = list_any (λ name. bytes_eq name word) (codes "help" ∷ map (λ form. form.name) forms)

-- `help` alone, or with the name of a subcommand
abbrev pub has_topic : List Text → Bool
has_topic (word ∷ []) = true
has_topic (word ∷ name ∷ []) = names_subcommand name
has_topic _ = false

-- of words from `help` on
abbrev pub meaning_of_topic : List Text → Meaning
meaning_of_topic words = if has_topic words then help else usage

-- of words that ask neither for the version nor by `help`
abbrev pub meaning_of_command : List Text → Meaning
meaning_of_command [] = usage
meaning_of_command (word ∷ rest) =
    option_map_or (λ form. meaning_of_form form rest) (find (λ form. bytes_eq form.name word) forms) (meaning_of_other word)

-- the subcommands that take one of `--each` and a POSITION
abbrev pub takes_lines : Text → Bool
takes_lines name =
    bytes_eq (codes "probe") name || (bytes_eq (codes "look") name
    || (bytes_eq (codes "moves") name || (bytes_eq (codes "best") name || bytes_eq (codes "line") name)))

-- of `--each` and a POSITION, which these have behind FILE, with `--json` between them but in `best`, and `line` with two flags before them, just one is given
abbrev pub is_clear : List (Option Text) → Bool
is_clear (file ∷ each ∷ position ∷ []) = if is_some each then not (is_some position) else is_some position
is_clear (file ∷ each ∷ json ∷ position ∷ []) = if is_some each then not (is_some position) else is_some position
is_clear (file ∷ numbered ∷ records ∷ each ∷ json ∷ position ∷ []) = if is_some each then not (is_some position) else is_some position
is_clear texts = true

-- a line for each value is asked for, by the text of `--values`, and no FILE is named
abbrev pub lacks_file : Option Text → Option Text → Bool
lacks_file file values = is_some values && not (is_some file)

-- so it is among the texts of `reach`: FILE, those of `--rules`, `--levels`, `--values`, `--json` and `--progress`, and POSITION
abbrev pub reaches_without_file : Text → List (Option Text) → Bool
reaches_without_file name (file ∷ rules ∷ levels ∷ values ∷ json ∷ progress ∷ position ∷ []) = bytes_eq (codes "reach") name && lacks_file file values
reaches_without_file name texts = false

-- what is asked for, where one of `--each` and a POSITION is given, and a file where each value is asked for
abbrev pub cleared : Meaning → Meaning
cleared (asks name texts) = if (takes_lines name && not (is_clear texts)) || reaches_without_file name texts then usage else asks name texts
cleared help = help
cleared version = version
cleared usage = usage

-- names of the program's own streams
abbrev pub streams : List Text
streams = codes "-" ∷ codes "/dev/stdin" ∷ codes "/dev/stdout" ∷ codes "/dev/stderr" ∷ []

-- the text is no name of a file, but that of one of the program's own streams
abbrev pub is_stream : Text → Bool
is_stream t =
    is_among streams t
    || (starts_with ◌==◌ t (codes "/dev/fd/") || starts_with ◌==◌ t (codes "/proc/self/fd/"))

-- so is the one that is given for this option, where a file is written by that name
abbrev pub is_misplaced : OptionArgument → Option Text → Bool
is_misplaced choice t = is_output_kind choice.1.1 && option_map_or is_stream t false

-- so is one of the texts, which begin with those of these options
abbrev pub is_some_misplaced : List OptionArgument → List (Option Text) → Bool
is_some_misplaced (choice ∷ more) (t ∷ texts) = is_misplaced choice t || is_some_misplaced more texts
is_some_misplaced _ _ = false

-- a file is to be written to a stream, by the subcommand of this name with these texts
abbrev pub writes_stream : Text → List (Option Text) → Bool
writes_stream name texts = list_any (λ row. bytes_eq row.0 name && is_some_misplaced row.1 texts) rows

-- what is asked for, where that can be
abbrev pub without_conflict : Meaning → Meaning
without_conflict (asks name texts) = if writes_stream name texts then usage else cleared (asks name texts)
without_conflict help = help
without_conflict version = version
without_conflict usage = usage

-- of all the words
abbrev pub meaning_of : List Text → Meaning
meaning_of words =
    if is_version words then version
    else if is_topic words then meaning_of_topic words
    else without_conflict (meaning_of_command words)

-- ---- what is asked for, by name, where a law speaks of it

-- the value of the position that the text names, by the rules that are named
abbrev pub value : Option Text → Text → Meaning
value rules position = asks (codes "value") (rules ∷ Some position ∷ [])

-- a file of the table of the piece set that the text names, by the rules that are named, built by so many nodes where a number is given; and
-- what is given for the flag `--progress`
abbrev pub build : Option Text → Text → Option Text → Text → Option Text → Meaning
build rules set nodes file progress = asks (codes "build") (Some set ∷ nodes ∷ Some file ∷ rules ∷ progress ∷ [])

-- the value of the position by the table of the file
abbrev pub probe : Text → Text → Meaning
probe file position = asks (codes "probe") (Some file ∷ None ∷ None ∷ Some position ∷ [])
