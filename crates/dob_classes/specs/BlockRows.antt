-- The row of a block: how many classes of the family stand in the first hand's runs before each, and how many before the block.
use Rattle.std.specs.Prelude.{◌≡◌, ℕ, ◌+◌, ◌%◌, ◌≤◌, List, length, get_or}
use Rattle.dob_pieces.specs.declared.profile.Family.{Family}
use Rattle.dob_rank.specs.Families.{is_marked}
use Rattle.dob_rank.specs.Marks.{marks_below}
use Rattle.dob_rank.specs.Numbers.{start_of}
use Rattle.dob_rank.specs.Runs.{run_start, lion_pairs}
use Rattle.dob_classes.specs.declared.rows.Row.{Row}

pub record IsRow (family : Family) (block : ℕ) (row : List ℕ) : Type 0 where
  pub size : length row ≡ 101
  pub start : (e : ℕ) → get_or row 100 e ≡ marks_below (is_marked family) (start_of family.set block)
  pub counts : (k e : ℕ) → k ≤ 99
      → marks_below (is_marked family) (start_of family.set block) + get_or row k e ≡ marks_below (is_marked family) (run_start family.set block k)

-- what it says of the block's run of that number, or of the end of the last
pub record IsRowOf (family : Family) (block run : ℕ) (row : Row) : Type 0 where
  pub before_is : row.before ≡ marks_below (is_marked family) (start_of family.set block)
  pub hand_is : marks_below (is_marked family) (start_of family.set block) + row.hand ≡ marks_below (is_marked family) (run_start family.set block lion_pairs)
  pub run_is : marks_below (is_marked family) (start_of family.set block) + row.run
      ≡ marks_below (is_marked family) (run_start family.set block (run % lion_pairs))
