-- How many values of a table are wins, losses and draws, and lines of counts.
use Rattle.std.specs.Fmt.{decimal}
use Rattle.std.specs.List.{count_by}
use Rattle.std.specs.Prelude.{◌++◌, ◌<◌, ◌^◌, ◌∷◌, ◌≡◌, Bool, List, Some, [], codes, false, length, slice_get, true, ℕ}
use Rattle.dob_lines.specs.declared.tally.Tally.{Tally}
use Rattle.dob_pieces.specs.Bytes.{line_feed}
use Rattle.dob_distance.specs.Entries.{is_draw}
use Rattle.dob_distance.specs.declared.value.Value.{Value}
use Rattle.dob_distance.specs.declared.value.Value.TheVariants.{Loss, Win}

abbrev pub is_win : Value → Bool
is_win (Win plies) = true
is_win _ = false

abbrev pub is_loss : Value → Bool
is_loss (Loss plies) = true
is_loss _ = false

-- so many of the values are wins, losses and draws
pub record IsTally (values : List Value) (tally : Tally) : Type 0 where
  pub wins : tally.wins ≡ count_by is_win values
  pub losses : tally.losses ≡ count_by is_loss values
  pub draws : tally.draws ≡ count_by is_draw values

-- the tally of the one value that stands at a place
abbrev pub IsTallyAt : List Value → ℕ → Tally → Type 0
IsTallyAt values place tally = (value : Value) × (slice_get values place ≡ Some value) × IsTally (value ∷ []) tally

-- two tallies added up: of values that one half has and those that the other half has, as many as a length can tell, the tally of all
abbrev pub AreAddedUp : Tally → Tally → Tally → Type 0
AreAddedUp left right both =
    (values more : List Value) → length (values ++ more) < 2 ^ 64 → IsTally values left → IsTally more right → IsTally (values ++ more) both

-- ---- lines

-- a line with a name and a number, and its line feed
abbrev pub count_line : List ℕ → ℕ → List ℕ
count_line name number = name ++ decimal number ++ line_feed ∷ []

-- the four lines that say how many classes there are, and how many of them have which value
abbrev pub class_lines : List Value → List ℕ
class_lines values =
    count_line (codes "classes ") (length values)
    ++ (count_line (codes "win ") (count_by is_win values)
    ++ (count_line (codes "loss ") (count_by is_loss values)
    ++ count_line (codes "draw ") (count_by is_draw values)))
