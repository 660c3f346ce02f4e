-- What the program owes where it is asked for the statistics of a database file.
use Rattle.std.specs.Prelude.{◌≡◌, ℕ, List, [], ◌∷◌, ◌++◌, Option, None, Some, codes, flat_map, fold}
use Rattle.std.specs.Fmt.{decimal}
use Rattle.dob_pieces.specs.declared.setup.Setup.{Setup}
use Rattle.dob_pieces.specs.Bytes.{line_feed, space}
use Rattle.dob_text.specs.PositionText.{text_of}
use Rattle.dob_rank.specs.Families.{HasClass, IsRepresentative}
use Rattle.dob_distance.specs.declared.value.Value.{Value}
use Rattle.dob_distance.specs.declared.value.Value.TheVariants.{Win, Loss, Draw}
use Rattle.dob_value.specs.Follows.{ClassTable}
use Rattle.dob_probe.specs.declared.groups.Group.{Group}
use Rattle.dob_probe.specs.Statistics.{AreGroups}
use Rattle.dob_survey.specs.declared.stats.Longest.{Longest}
use Rattle.dob_words.specs.declared.command.orders.StatsForm.{StatsForm}
use Rattle.dob_words.specs.declared.command.orders.StatsForm.TheVariants as forms
use Rattle.dob_lines.specs.Objects.{count_object}
use Rattle.dob_lines.specs.Tallies.{class_lines}
use Rattle.dob_files.specs.Owed.{Owed, table_owed}
use Rattle.dob_files.specs.Tables.{IsOpeningFault}

-- a value and how many classes have it, with a text between them, as `win 3,12`
abbrev pub value_row : List ℕ → Value → ℕ → List ℕ
value_row between (Win plies) classes = codes "win " ++ (decimal plies ++ (between ++ (decimal classes ++ line_feed ∷ [])))
value_row between (Loss plies) classes = codes "loss " ++ (decimal plies ++ (between ++ (decimal classes ++ line_feed ∷ [])))
value_row between Draw classes = codes "draw" ++ (between ++ (decimal classes ++ line_feed ∷ []))

-- how many classes have a distance, as `win 3 12`; the draws come before
abbrev pub distance_line : Value → ℕ → List ℕ
distance_line Draw classes = []
distance_line distance classes = value_row (codes " ") distance classes

abbrev pub group_line : Group → List ℕ
group_line group = distance_line group.value group.classes

-- the same for scripts
abbrev pub csv_row : Group → List ℕ
csv_row group = value_row (codes ",") group.value group.classes

abbrev pub group_object : Group → List ℕ
group_object group = count_object group.value group.classes

-- the line of a group in one of the three ways
abbrev pub group_text : StatsForm → Group → List ℕ
group_text forms.Lines = group_line
group_text forms.Csv = csv_row
group_text forms.Objects = group_object

-- the names of both fields, and a line for each value that occurs: the draws, and then by ascending distance
abbrev pub csv_lines : List Group → List ℕ
csv_lines groups = codes "value,classes" ++ (line_feed ∷ flat_map csv_row groups)

-- a group is the last of its kind so far
abbrev pub with_value : Value → Group → Longest → Longest
with_value (Win plies) group longest = record longest { win = Some group }
with_value (Loss plies) group longest = record longest { loss = Some group }
with_value Draw group longest = longest

abbrev pub with_group : Longest → Group → Longest
with_group longest group = with_value group.value group longest

-- the last group of wins and the last of losses: of groups by ascending distance the longest ones
abbrev pub longest_of : List Group → Longest
longest_of groups = fold with_group (record { win = None; loss = None }) groups

-- the longest win or loss with an example, as `longest win 3 ..l/.../L../... - -`
abbrev pub longest_text : Value → List ℕ → List ℕ
longest_text (Win plies) text = codes "longest win " ++ (decimal plies ++ (space ∷ (text ++ line_feed ∷ [])))
longest_text (Loss plies) text = codes "longest loss " ++ (decimal plies ++ (space ∷ (text ++ line_feed ∷ [])))
longest_text Draw text = []

-- the line of the group's value with the text of the representative of its first class, or none where there is no group
abbrev pub IsLongestLine : ClassTable → Option Group → List ℕ → Type 0
IsLongestLine table None line = line ≡ []
IsLongestLine table (Some group) line =
    (position : Setup) × IsRepresentative table.family position × HasClass table.family position group.first
    × (line ≡ longest_text group.value (text_of position))

-- The four lines of a build, a line for each distance that occurs, ascending, and then the longest win and the longest loss.
pub record AreStatsOf (table : ClassTable) (groups : List Group) (lines : List ℕ) : Type 0 where
  pub win : List ℕ
  pub loss : List ℕ
  pub longest_win : IsLongestLine table (longest_of groups).win win
  pub longest_loss : IsLongestLine table (longest_of groups).loss loss
  pub same : lines ≡ class_lines table.values ++ (flat_map group_line groups ++ (win ++ loss))

-- what is printed of the table by its groups, in one of the three ways
abbrev pub AreStatsFor : StatsForm → ClassTable → List Group → List ℕ → Type 0
AreStatsFor forms.Lines table groups lines = AreStatsOf table groups lines
AreStatsFor forms.Csv table groups lines = lines ≡ csv_lines groups
AreStatsFor forms.Objects table groups lines = lines ≡ flat_map group_object groups

-- the lines give the numbers of the table, by the groups of its classes of one value
pub record AreStatsLines (form : StatsForm) (table : ClassTable) (lines : List ℕ) : Type 0 where
  pub groups : List Group
  pub grouped : AreGroups table.values groups
  pub told : AreStatsFor form table groups lines

abbrev pub stats_owed : List ℕ → StatsForm → Owed
stats_owed file form = table_owed file (AreStatsLines form) IsOpeningFault
