-- What the program owes where it is asked what a game from a position can reach.
use Rattle.std.specs.Prelude.{◌≡◌, ℕ, zero, suc, ◌-◌, Bool, true, false, List, [], ◌∷◌, ◌++◌, Option, None, Some, codes, if◌then◌else◌, length, slice_index_or}
use Rattle.std.specs.Fmt.{decimal}
use Rattle.dob_pieces.specs.declared.profile.Family.{Family}
use Rattle.dob_pieces.specs.declared.profile.Profile.{Profile}
use Rattle.dob_pieces.specs.declared.setup.Setup.{Setup}
use Rattle.dob_pieces.specs.Bytes.{line_feed, space}
use Rattle.dob_text.specs.Faults.{HasTextFault}
use Rattle.dob_rank.specs.Families.{IsPositionOf, class_number}
use Rattle.dob_distance.specs.Codes.{value_of_code}
use Rattle.dob_distance.specs.declared.value.Value.{Value}
use Rattle.dob_value.specs.Follows.{ClassTable}
use Rattle.dob_reach.specs.declared.search.Reached.{Reached}
use Rattle.dob_reach.specs.declared.values.ByValue.{ByValue}
use Rattle.dob_reach.specs.Codes.{AreCodesCountedFrom}
use Rattle.dob_reach.specs.Reached.{AreReachedFrom}
use Rattle.dob_reach.specs.Values.{AreCountedFrom}
use Rattle.dob_files.specs.declared.fault.ProgramFault.{ProgramFault}
use Rattle.dob_files.specs.declared.fault.ProgramFault.TheVariants.{Text, Memory}
use Rattle.dob_words.specs.declared.command.orders.ReachSearch.{ReachSearch}
use Rattle.dob_files.specs.Owed.{Owed, lines_owed, table_owed}
use Rattle.dob_lines.specs.Objects.{count_object}
use Rattle.dob_lines.specs.Tallies.{count_line}
use Rattle.dob_survey.specs.Stats.{distance_line}
use Rattle.dob_files.specs.Tables.{IsPositionFault, IsTextOf}

-- ---- lines, of which each is a JSON object where that is asked for

-- a distance from the first class and how many classes have it, as `2 17`
abbrev pub level_line : Bool → ℕ → ℕ → List ℕ
level_line false distance classes = decimal distance ++ (space ∷ (decimal classes ++ line_feed ∷ []))
level_line true distance classes =
    codes "{\"ply\":" ++ (decimal distance ++ (codes ",\"classes\":" ++ (decimal classes ++ (codes "}" ++ line_feed ∷ []))))

-- those of so many first distances
abbrev pub level_lines : Bool → List ℕ → ℕ → List ℕ
level_lines is_json levels zero = []
level_lines is_json levels (suc distance) = level_lines is_json levels distance ++ level_line is_json distance (slice_index_or levels distance 0)

-- of all distances, where they are asked for
abbrev pub levels_asked : ReachSearch → List ℕ → List ℕ
levels_asked search levels = if search.has_levels then level_lines search.is_json levels (length levels) else []

-- a value and how many classes have it, as `win 3 12`; a draw has a line where it is an object, and where none has the value there is no line
abbrev pub value_line : Bool → Value → ℕ → List ℕ
value_line is_json value zero = []
value_line false value classes = distance_line value classes
value_line true value classes = count_object value classes

-- those of so many first codes: draws, and then by ascending distance to the end
abbrev pub code_lines : Bool → List ℕ → ℕ → List ℕ
code_lines is_json counts zero = []
code_lines is_json counts (suc code) = code_lines is_json counts code ++ value_line is_json (value_of_code code) (slice_index_or counts code 0)

-- how many classes are won, lost and drawn
abbrev pub value_text : ByValue → List ℕ
value_text counts = count_line (codes "win ") counts.win ++ (count_line (codes "loss ") counts.loss ++ count_line (codes "draw ") counts.draw)

-- the same, where that is known
abbrev pub value_lines : Option ByValue → List ℕ
value_lines None = []
value_lines (Some counts) = value_text counts

-- how many classes are reached, how many of them are open, and the greatest distance
abbrev pub number_lines : Reached → List ℕ
number_lines reached =
    count_line (codes "classes ") reached.classes
    ++ (count_line (codes "open ") reached.opens ++ count_line (codes "depth ") (length reached.levels.items - 1))

-- the same numbers, and those of the values where they are known, as fields of an object
abbrev pub value_fields : Option ByValue → List ℕ
value_fields None = []
value_fields (Some counts) =
    codes ",\"win\":" ++ (decimal counts.win ++ (codes ",\"loss\":" ++ (decimal counts.loss ++ (codes ",\"draw\":" ++ decimal counts.draw))))

abbrev pub number_object : Reached → Option ByValue → List ℕ
number_object reached counts =
    codes "{\"classes\":" ++ (decimal reached.classes ++ (codes ",\"open\":" ++ (decimal reached.opens
    ++ (codes ",\"depth\":" ++ (decimal (length reached.levels.items - 1) ++ (value_fields counts ++ (codes "}" ++ line_feed ∷ [])))))))

abbrev pub front_lines : Bool → Reached → Option ByValue → List ℕ
front_lines false reached counts = number_lines reached ++ value_lines counts
front_lines true reached counts = number_object reached counts

-- the numbers, then a line for each value, by the numbers of their codes, and one for each distance
abbrev pub reach_lines : ReachSearch → Reached → Option ByValue → List ℕ → List ℕ
reach_lines search reached counts by_code =
    front_lines search.is_json reached counts ++ (code_lines search.is_json by_code (length by_code) ++ levels_asked search reached.levels.items)

-- the lines tell what is reached from the class of the text's position, by the rules of the profile
pub record AreReachLines (search : ReachSearch) (words lines : List ℕ) : Type 0 where
  pub family : Family
  pub rules : family.profile ≡ search.profile
  pub position : Setup
  pub named : IsTextOf words position
  pub member : IsPositionOf family position
  pub reached : Reached
  pub found : AreReachedFrom family (class_number family position) reached
  pub same : lines ≡ reach_lines search reached None []

-- how many of the classes that are reached have which value by the table, where that is asked for
abbrev pub AreValuesAsked : Bool → ClassTable → ℕ → List ℕ → Type 0
AreValuesAsked false table from by_code = by_code ≡ []
AreValuesAsked true table from by_code = AreCodesCountedFrom table.family from table.values by_code

-- the lines tell it by the rules of the table, with how many of the classes have which value by it
pub record AreReachLinesBy (search : ReachSearch) (words : List ℕ) (table : ClassTable) (lines : List ℕ) : Type 0 where
  pub position : Setup
  pub named : IsTextOf words position
  pub member : IsPositionOf table.family position
  pub reached : Reached
  pub found : AreReachedFrom table.family (class_number table.family position) reached
  pub counts : ByValue
  pub counted : AreCountedFrom table.family (class_number table.family position) table.values counts
  pub by_code : List ℕ
  pub valued : AreValuesAsked search.has_values table (class_number table.family position) by_code
  pub same : lines ≡ reach_lines search reached (Some counts) by_code

-- ---- faults

-- the fault is the text's, E26 behind all others; or memory failed
abbrev pub IsReachFault : Profile → List ℕ → ProgramFault → Type 0
IsReachFault profile words (Text fault) = HasTextFault profile words fault
IsReachFault profile words Memory = Unit {0}
IsReachFault profile words _ = ⊥

-- ---- what the program owes

-- by the file of that name where one is named
abbrev pub reach_owed : ReachSearch → Option (List ℕ) → List ℕ → Owed
reach_owed search None words = lines_owed (λ c. AreReachLines search words) (λ c. IsReachFault search.profile words)
reach_owed search (Some file) words = table_owed file (AreReachLinesBy search words) (λ Has. IsPositionFault Has words)
