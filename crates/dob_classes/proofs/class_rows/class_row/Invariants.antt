-- The row has what is counted so far.
use Rattle.dob_classes.proofs.Common.{◌+◌, ◌≡◌, ◌≤◌, get_or, length, ℕ, classes_to_block, classes_to_run}
use Rattle.dob_classes.proofs.class_rows.class_row.Given as goal

abbrev pub invariant-loop-run : goal.invariant-loop-run
invariant-loop-run l =
    (length l.row ≡ 101)
    × (classes_to_block l.family l.block + l.count ≡ classes_to_run l.family l.block l.run)
    × ((e : ℕ) → get_or l.row 100 e ≡ l.before)
    × ((k e : ℕ) → k ≤ l.run
    → classes_to_block l.family l.block + get_or l.row k e ≡ classes_to_run l.family l.block k)
