-- What the program owes where it is asked for the zugzwangs of a database file.
use Rattle.std.specs.Prelude.{◌≡◌, ◌<◌, ℕ, List, [], ◌∷◌, ◌++◌, Option, None, Some, Contains, codes, flat_map, length, take}
use Rattle.std.specs.Fmt.{decimal}
use Rattle.dob_pieces.specs.declared.profile.Family.{Family}
use Rattle.dob_pieces.specs.declared.setup.Setup.{Setup}
use Rattle.dob_pieces.specs.Bytes.{line_feed}
use Rattle.dob_text.specs.PositionText.{text_of}
use Rattle.dob_rank.specs.Families.{class_setup}
use Rattle.dob_distance.specs.declared.value.Value.{Value}
use Rattle.dob_distance.specs.declared.value.Value.TheVariants.{Win, Loss, Draw}
use Rattle.dob_value.specs.Follows.{ClassTable}
use Rattle.dob_zugzwang.specs.declared.counts.PairCounts.{PairCounts}
use Rattle.dob_zugzwang.specs.declared.pairs.Zugzwang.{Zugzwang}
use Rattle.dob_zugzwang.specs.Counts.{AreCounts}
use Rattle.dob_zugzwang.specs.Pairs.{ArePairs}
use Rattle.dob_files.specs.Owed.{Owed, table_owed}
use Rattle.dob_lines.specs.Tallies.{count_line}
use Rattle.dob_files.specs.Tables.{IsOpeningFault}

-- ---- lines

-- a value, as `loss 26`
abbrev pub value_words : Value → List ℕ
value_words (Win plies) = codes "win " ++ decimal plies
value_words (Loss plies) = codes "loss " ++ decimal plies
value_words Draw = codes "draw"

-- a position, its value, and the value of its turn, as `.../..l/E.c/L.g - -  loss 26  loss 24`
abbrev pub pair_text : Setup → Zugzwang → List ℕ
pair_text position pair =
    text_of position ++ (codes "  " ++ (value_words pair.value ++ (codes "  " ++ (value_words pair.turn_value ++ line_feed ∷ []))))

-- the same of a pair's lower class, whose representative is the position
abbrev pub pair_line : Family → Zugzwang → List ℕ
pair_line family pair = pair_text (class_setup family pair.class) pair

-- how many pairs are lost by both, and how many by one where the other draws
abbrev pub count_text : PairCounts → List ℕ
count_text counts = count_line (codes "lost by both ") counts.lost_by_both ++ count_line (codes "loss and draw ") counts.loss_and_draw

-- the deepest pair, where there is one
abbrev pub deepest_line : Family → Option Zugzwang → List ℕ
deepest_line family None = []
deepest_line family (Some pair) = codes "deepest " ++ pair_line family pair

-- the first of the pairs, as many as are asked for
abbrev pub first_pairs : Option ℕ → List Zugzwang → List Zugzwang
first_pairs None pairs = []
first_pairs (Some count) pairs = take count pairs

abbrev pub zugzwang_lines : Family → PairCounts → Option ℕ → List Zugzwang → List ℕ
zugzwang_lines family counts listed pairs =
    count_text counts ++ (deepest_line family counts.deepest ++ flat_map (pair_line family) (first_pairs listed pairs))

-- the lines tell the pairs of the table
pub record AreZugzwangLines (listed : Option ℕ) (table : ClassTable) (lines : List ℕ) : Type 0 where
  pub pairs : List Zugzwang
  pub found : ArePairs table pairs
  pub counts : PairCounts
  pub counted : AreCounts pairs counts
  pub same : lines ≡ zugzwang_lines table.family counts listed pairs

-- ---- what is known of pairs whose lines are written

-- the pair's lower class is one of the table's
abbrev pub IsOfTable : ClassTable → Zugzwang → Type 0
IsOfTable table pair = pair.class < length table.values

abbrev pub AreOfTable : ClassTable → List Zugzwang → Type 0
AreOfTable table pairs = (pair : Zugzwang) → Contains pairs pair → IsOfTable table pair

-- ---- what the program owes
abbrev pub zugzwangs_owed : List ℕ → Option ℕ → Owed
zugzwangs_owed file listed = table_owed file (AreZugzwangLines listed) IsOpeningFault
