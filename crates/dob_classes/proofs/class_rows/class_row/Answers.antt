-- Each run of the first hand adds its own classes, and they are written behind it.
use Rattle.dob_classes.proofs.Common.{◌+◌, ◌<◌, ◌∙◌, ◌≡◌, ◌≤◌, List, ap, arith, get_or, inl, inr, length, slice_set, sym, ℕ, cases_lt, get_or-set_other}
use Rattle.dob_classes.proofs.Common.{get_or-set_same, length-set, classes_to_block, classes_to_run}
use Rattle.dob_classes.proofs.Tables.RunTables.{marks_small}
use Rattle.dob_classes.proofs.Counting.ClassesBefore.{none_before, all_lions, one_run_more}
use Rattle.dob_classes.proofs.class_rows.class_row.Goals as goal
use Rattle.dob_classes.proofs.class_rows.class_row.Goals.{After-classes_in_run-count}

-- one number more of the row
written : (row : List ℕ) (f : ℕ → ℕ) (s n value : ℕ) → length row ≡ 101 → n < 99 → ((k e : ℕ) → k ≤ n → s + get_or row k e ≡ f k) → s + value ≡ f (n + 1)
    → (k e : ℕ) → k ≤ n + 1 → s + get_or (slice_set row (n + 1) value) k e ≡ f k
written row f s n value len low all more k e upto = elim (cases_lt k (n + 1)) [
  | inl lt ↦ ap (λ (v : ℕ). s + v) (get_or-set_other row (n + 1) k value e (λ is. omega (arith, lt, is))) ∙ all k e (omega (arith, lt))
  | inr ge ↦ let same : k ≡ n + 1 = omega (arith, upto, ge) in
      ap (λ (v : ℕ). s + v) (ap (λ (j : ℕ). get_or (slice_set row (n + 1) value) j e) same ∙ get_or-set_same row (n + 1) value e (omega (arith, len, low)))
      ∙ more ∙ ap f (sym same)
]

-- the row at first
opened : (row : List ℕ) (f : ℕ → ℕ) (s before : ℕ) → length row ≡ 101 → s + 0 ≡ f 0 → (k e : ℕ) → k ≤ 0
    → s + get_or (slice_set (slice_set row 100 before) 0 0) k e ≡ f k
opened row f s before len first k e low =
    let same : k ≡ 0 = omega (arith, low) in
    rw (same, get_or-set_same (slice_set row 100 before) 0 0 e (omega (arith, length-set row 100 before, len))) first

pub loop-run-init : goal.loop-run-init
loop-run-init c = (
  length-set (slice_set c.args.row.now 100 c.args.before) 0 0 ∙ length-set c.args.row.now 100 c.args.before ∙ c.requires.room,
  none_before c.args.family c.args.block,
  λ e. get_or-set_other (slice_set c.args.row.now 100 c.args.before) 0 100 0 e (λ is. omega (arith, is))
      ∙ get_or-set_same c.args.row.now 100 c.args.before e (let room = c.requires.room in omega (arith, room)),
  opened c.args.row.now (λ (k : ℕ). classes_to_run c.args.family c.args.block k)
      (classes_to_block c.args.family c.args.block) c.args.before c.requires.room (none_before c.args.family c.args.block),
)

pub classes_in_run-count-requires-clause-run : goal.classes_in_run-count-requires-clause-run
classes_in_run-count-requires-clause-run c = omega (arith, all_lions c.args.family c.args.block c.requires.block, c.loop-run-test.true)

more : (c : After-classes_in_run-count) → classes_to_block c.args.family c.args.block + (c.loop-run.count + c.classes_in_run-count.result)
    ≡ classes_to_run c.args.family c.args.block (c.loop-run.run + 1)
more c = one_run_more c.args.family c.args.block c.loop-run.run c.run_size_in-size.result c.loop-run.count c.classes_in_run-count.result
    c.run_size_in-size.ensures.value c.loop-run.invariant.1 c.classes_in_run-count.ensures

pub overflow_add-count : goal.overflow_add-count
overflow_add-count c =
    let all = all_lions c.args.family c.args.block c.requires.block in
    let low = c.loop-run-test.true in
    omega (
      arith,
      more (goal.at.overflow_add-count c).After-classes_in_run-count,
      marks_small c.args.family c.args.block (c.loop-run.run + 1) c.requires.block (omega (arith, all, low)),
    )

pub loop-run-preserved : goal.loop-run-preserved
loop-run-preserved c =
    let sum = more (goal.at.loop-run-preserved c).After-classes_in_run-count in (
      length-set c.loop-run.row (c.loop-run.run + 1) (c.loop-run.count + c.classes_in_run-count.result) ∙ c.loop-run.invariant.0,
      sum,
      λ e. get_or-set_other c.loop-run.row (c.loop-run.run + 1) 100 (c.loop-run.count + c.classes_in_run-count.result) e
          (λ is. let low = c.loop-run-test.true in omega (arith, is, low)) ∙ c.loop-run.invariant.2 e,
      written c.loop-run.row (λ (k : ℕ). classes_to_run c.args.family c.args.block k)
          (classes_to_block c.args.family c.args.block) c.loop-run.run (c.loop-run.count + c.classes_in_run-count.result)
          c.loop-run.invariant.0 c.loop-run-test.true c.loop-run.invariant.3 sum,
    )
