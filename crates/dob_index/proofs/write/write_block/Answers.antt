-- Each run is written behind those before it.
use Rattle.dob_index.proofs.Common.{◌+◌, ◌∙◌, ◌≡◌, ◌≤◌, ap, arith, inl, length, refl, ℕ, length-set, block_bases, product, run_kind, run_size, all_lions}
use Rattle.dob_index.proofs.Common.{none_before, one_run_more, classes_to_block, classes_to_run, marks_small, row_at, where_mixed}
use Rattle.dob_index.proofs.Places.{run_more, run_fits, after_rows, words_few}
use Rattle.dob_index.proofs.Kept.{AreAllRuns, row_opened, one_run, runs_stay, all_runs, outside, both_sides}
use Rattle.dob_index.proofs.write.write_block.Goals.{After-count_runs, After-write_run-count}
use Rattle.dob_index.proofs.write.write_block.Goals as goal

pub loop-lions-init : goal.loop-lions-init
loop-lions-init c =
    let set = c.args.family.set in
    let rows = after_rows set (product (block_bases set)) 0 in
    let room : row_at (c.args.block + 1) ≤ length c.args.words.now = omega (arith, rows, c.requires.block, c.requires.room) in
    let opened = row_opened c.args.block c.args.before c.row_at-row.result c.args.words.now c.row_at-row.ensures room in
    record {
      size = opened.size;
      count = none_before c.args.family c.args.block;
      at = c.requires.first;
      first_is = opened.first_is;
      before_is = opened.before_is;
      runs = λ k low. absurd (omega (arith, low));
      others = λ i out side. opened.others i out;
    }

pub write_run-count-requires-clause-room : goal.write_run-count-requires-clause-room
write_run-count-requires-clause-room c =
    let long = length-set c.loop-lions.words (c.row_at-row.result + 101 + c.loop-lions.lions) c.loop-lions.at in
    let fits = run_fits c.args.family.set c.args.block c.loop-lions.lions c.loop-lions.at c.requires.block c.loop-lions-test.true c.loop-lions.invariant.at in
    omega (arith, long, c.loop-lions.invariant.size, fits, c.requires.room)

-- the classes up to the next run
counted : (c : After-write_run-count) → classes_to_block c.args.family c.args.block + (c.loop-lions.count + c.write_run-count.result)
    ≡ classes_to_run c.args.family c.args.block (c.loop-lions.lions + 1)
counted c =
    one_run_more c.args.family c.args.block c.loop-lions.lions (run_size c.args.family.set c.args.block) c.loop-lions.count c.write_run-count.result refl
    c.loop-lions.invariant.count c.write_run-count.ensures.count

pub overflow_add-count : goal.overflow_add-count
overflow_add-count c =
    let all = all_lions c.args.family c.args.block c.requires.block in
    omega (
      arith,
      counted (goal.at.overflow_add-count c).After-write_run-count,
      marks_small c.args.family c.args.block (c.loop-lions.lions + 1) c.requires.block (omega (arith, all, c.loop-lions-test.true)),
    )

pub overflow_add-at : goal.overflow_add-at
overflow_add-at c =
    omega (
      arith,
      c.run_words-at.ensures ∙ ap (where_mixed (run_kind c.loop-lions.lions)) c.entries_in-entries.ensures,
      run_fits c.args.family.set c.args.block c.loop-lions.lions c.loop-lions.at c.requires.block c.loop-lions-test.true c.loop-lions.invariant.at,
      words_few c.args.family.set,
    )

pub loop-lions-preserved : goal.loop-lions-preserved
loop-lions-preserved c =
    let family = c.args.family in
    let set = family.set in
    let block = c.args.block in
    let lions = c.loop-lions.lions in
    let at = c.loop-lions.at in
    let next = at + c.run_words-at.result in
    let low = c.loop-lions-test.true in
    let words = c.run_words-at.ensures ∙ ap (where_mixed (run_kind lions)) c.entries_in-entries.ensures in
    let at_is = c.loop-lions.invariant.at in
    let size = c.loop-lions.invariant.size in
    let rows = after_rows set block lions in
    let all_rows = after_rows set (product (block_bases set)) 0 in
    let behind : row_at (product (block_bases set)) ≤ at = omega (arith, rows, at_is) in
    let room : row_at (product (block_bases set)) ≤ length c.loop-lions.words = omega (arith, all_rows, size, c.requires.room) in
    let first : c.args.first ≤ at = omega (arith, at_is, c.requires.first) in
    let count = counted (goal.at.loop-lions-preserved c).After-write_run-count in
    let step = one_run family block lions at next (c.loop-lions.count + c.write_run-count.result) c.row_at-row.result c.loop-lions.words c.write_run-count.new.words
    c.requires.block low c.row_at-row.ensures behind room (ap (λ (n : ℕ). at + n) words) c.write_run-count.ensures.size c.write_run-count.ensures.others
    c.write_run-count.ensures.entries count in
    record {
      size = step.size ∙ size;
      count = count;
      at = (let more = run_more set block lions in omega (arith, at_is, words, more));
      first_is = step.agrees (row_at block) (λ is. omega (arith, is)) (λ is. omega (arith, is)) (inl (omega (arith, behind, c.requires.block)))
          ∙ c.loop-lions.invariant.first_is;
      before_is = step.agrees (row_at block + 100) (λ is. omega (arith, is)) (λ is. omega (arith, is, low)) (inl (omega (arith, behind, c.requires.block)))
          ∙ c.loop-lions.invariant.before_is;
      runs = runs_stay family block lions at next c.loop-lions.words _ c.requires.block low behind (omega arith) step c.loop-lions.invariant.runs;
      others = λ i out side.
          (let sides = both_sides i c.args.first at next first (omega arith) side in
          step.agrees i (outside block i (101 + lions) out (omega (arith, low))) (outside block i (lions + 1) out (omega (arith, low))) sides.0
          ∙ c.loop-lions.invariant.others i out sides.1);
    }

-- all runs of the block are written
all : (c : After-count_runs) → AreAllRuns c.args.family c.args.block c.args.before c.loop-lions.count c.count_runs.result
all c =
    let same : c.loop-lions.lions ≡ 99 = omega (arith, c.loop-lions.auto.lions-end, c.loop-lions-test.false) in
    all_runs c.args.family c.args.block c.args.before c.loop-lions.count c.count_runs.result c.requires.block c.count_runs.ensures.value c.requires.before
    (c.loop-lions.invariant.count ∙ ap (λ (n : ℕ). classes_to_run c.args.family c.args.block n) same)

pub overflow_mul-result : goal.overflow_mul-result
overflow_mul-result c = let few = (all (goal.at.overflow_mul-result c).After-count_runs).few in omega (arith, few)

pub overflow_add-result : goal.overflow_add-result
overflow_add-result c = let few = (all (goal.at.overflow_add-result c).After-count_runs).few in omega (arith, few)

pub returns-clause-before : goal.returns-clause-before
returns-clause-before c = (all (goal.at.returns-clause-before c).After-count_runs).sum_is
