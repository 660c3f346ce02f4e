-- The tables of runs and of their marks that the classes of a block of a family keep.
use Rattle.std.specs.Prelude.{◌≡◌, ℕ, ◌+◌, ◌<◌, List, length, slice_index_or}
use Rattle.dob_pieces.specs.declared.profile.Family.{Family}
use Rattle.dob_classes.specs.declared.runs.FirstRun.{FirstRun}
use Rattle.dob_rank.specs.declared.runs.RunKind.TheVariants.{Mixed}
use Rattle.dob_classes.specs.declared.stretch_tables.StretchTable.{StretchTable}
use Rattle.dob_rank.specs.Marks.{marks_below}
use Rattle.dob_rank.specs.Families.{is_marked}
use Rattle.dob_rank.specs.Numbers.{digits_of, start_of}
use Rattle.dob_rank.specs.Runs.{run_bases, run_digits, run_start, run_kind}
use Rattle.dob_rank.specs.declared.runs.RunDigits.{RunDigits}
use Rattle.dob_pieces.specs.declared.piece_set.PieceSet.{PieceSet}

-- the stretches of the first hand's run of those lions
pub record IsTableOfRun (family : Family) (block lions : ℕ) (table : StretchTable) : Type 0 where
  pub family_is : table.family ≡ family
  pub block_is : table.block ≡ block
  pub run_is : table.run ≡ lions

-- the table of that run, if its lions don't give its marks
abbrev pub HasTable : Family → ℕ → ℕ → ℕ → List StretchTable → Type 0
HasTable family block lions number tables = run_kind lions ≡ Mixed →
    (number < length tables) × ((other : StretchTable) → IsTableOfRun family block lions (slice_index_or tables number other))

-- the entry of that run: how many marks of the block are before it, its kind, and where its table is if that is mixed
pub record IsRun (family : Family) (block lions : ℕ) (tables : List StretchTable) (entry : FirstRun) : Type 0 where
  pub before_is : marks_below (is_marked family) (start_of family.set block) + entry.before ≡ marks_below (is_marked family) (run_start family.set block lions)
  pub kind_is : entry.kind ≡ run_kind lions
  pub table_is : HasTable family block lions entry.table tables

-- the entries of the first runs of a block
pub record AreRuns (family : Family) (block count : ℕ) (runs : List FirstRun) (tables : List StretchTable) : Type 0 where
  pub long : length runs ≡ count
  pub each : (lions : ℕ) (other : FirstRun) → lions < count → IsRun family block lions tables (slice_index_or runs lions other)

-- the digits of the first runs of a block of those numbers on the board
pub record AreDigits (set : PieceSet) (ob : List ℕ) (count : ℕ) (digits : List RunDigits) : Type 0 where
  pub long : length digits ≡ count
  pub each : (run : ℕ) (other : RunDigits) → run < count → run_digits (slice_index_or digits run other) ≡ digits_of (run_bases set ob) run
