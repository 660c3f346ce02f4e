-- The numbers of an index: how many classes of the family stand before a place.
use Rattle.std.specs.Prelude.{◌≡◌, ℕ, ◌+◌, ◌*◌, ◌<◌, ◌≤◌, ◌^◌, List, length, get_or}
use Rattle.dob_pieces.specs.declared.profile.Family.{Family}
use Rattle.dob_rank.specs.Families.{is_marked, classes_of}
use Rattle.dob_rank.specs.Marks.{marks_below}
use Rattle.dob_rank.specs.Numbers.{product, block_bases, start_of}
use Rattle.dob_rank.specs.Runs.{run_size, run_start, run_kind, lion_pairs}
use Rattle.dob_rank.specs.declared.runs.RunKind.TheVariants.{Mixed}
use Rattle.dob_index.specs.Layout.{mark_of, row_at, entry_places, entries_in, words_of}

-- the numbers are marked as those of an index of the family, say that they are as many as it has, and are no fewer
pub record IsMarked (family : Family) (words : List ℕ) : Type 0 where
  pub mark_is : get_or words 0 0 ≡ mark_of family
  pub length_is : get_or words 2 0 ≡ words_of family.set
  pub whole : words_of family.set ≤ length words

-- before the block of that number
pub record IsBlockRow (family : Family) (block : ℕ) (words : List ℕ) : Type 0 where
  pub before_is : get_or words (row_at block + 100) 0 ≡ marks_below (is_marked family) (start_of family.set block)
  pub first_is : get_or words (row_at block) 0 ≡ 0

-- of the block's first runs before the one behind that of those lions
abbrev pub IsNextRun : Family → ℕ → ℕ → List ℕ → Type 0
IsNextRun family block lions words =
    marks_below (is_marked family) (start_of family.set block) + get_or words (row_at block + (lions + 1)) 0
    ≡ marks_below (is_marked family) (run_start family.set block (lions + 1))

-- of the run of those lions before the places of its entries
abbrev pub AreEntriesFrom : Family → ℕ → ℕ → ℕ → List ℕ → Type 0
AreEntriesFrom family block lions at words = (entry : ℕ) → entry * entry_places ≤ run_size family.set block
    → marks_below (is_marked family) (run_start family.set block lions) + get_or words (at + entry) 0
    ≡ marks_below (is_marked family) (run_start family.set block lions + entry * entry_places)

pub record IsIndex (family : Family) (words : List ℕ) : Type 0 where
  pub marked : IsMarked family words
  pub count_is : get_or words 1 0 ≡ classes_of family
  pub rows : (block : ℕ) → block < product (block_bases family.set) → IsBlockRow family block words
  pub runs : (block lions : ℕ) → block < product (block_bases family.set) → lions < lion_pairs → IsNextRun family block lions words
  pub entries : (block lions : ℕ) → block < product (block_bases family.set) → lions < lion_pairs → run_kind lions ≡ Mixed
      → AreEntriesFrom family block lions (get_or words (row_at block + (101 + lions)) 0) words
  pub small : (block lions : ℕ) → block < product (block_bases family.set) → lions < lion_pairs → run_kind lions ≡ Mixed
      → get_or words (row_at block + (101 + lions)) 0 ≤ 2 ^ 42

-- ---- what is written of an index

-- of the run of those lions, its entries below a place
pub record IsKeptRun (family : Family) (block lions upto : ℕ) (words : List ℕ) : Type 0 where
  pub next : IsNextRun family block lions words
  pub entries : run_kind lions ≡ Mixed → AreEntriesFrom family block lions (get_or words (row_at block + (101 + lions)) 0) words
  pub behind : run_kind lions ≡ Mixed → row_at (product (block_bases family.set)) ≤ get_or words (row_at block + (101 + lions)) 0
  pub within : run_kind lions ≡ Mixed → get_or words (row_at block + (101 + lions)) 0 + entries_in family.set block ≤ upto

-- of a block
pub record IsKeptBlock (family : Family) (block upto : ℕ) (words : List ℕ) : Type 0 where
  pub row : IsBlockRow family block words
  pub runs : (lions : ℕ) → lions < lion_pairs → IsKeptRun family block lions upto words
