-- The marks of runs: how many there are before each place of a block, and the tables that say so.
use Rattle.dob_rank.proofs.Common.{◌%◌, ◌*◌, ◌+◌, ◌<◌, ◌^◌, ◌∙◌, ◌≡◌, ◌≤◌, Bool, ap, arith, suc, sym, zero, ℕ, add-mul, PieceSet, marks_below, one_if}
use Rattle.dob_rank.proofs.Common.{block_bases, block_size, product, start_of, sum_below, lion_pairs, run_size, run_start, runs_in}
use Rattle.dob_rank.proofs.Positions.Blocks.{block_size-small, blocks_small}
use Rattle.dob_rank.proofs.Marked.Words.{marks_below_more, marks_below_none, no_later, marks_later}
use Rattle.dob_rank.proofs.InRuns.RunPlaces.{block_size-runs, run_start-is}

-- ---- places of runs
pub run_start_first : (set : PieceSet) (block : ℕ) → run_start set block 0 ≡ start_of set block
run_start_first set block = run_start-is set block 0 ∙ (let e : start_of set block + 0 * run_size set block ≡ start_of set block = omega arith in e)

pub run_start_next : (set : PieceSet) (block run : ℕ) → run_start set block (run + 1) ≡ run_start set block run + run_size set block
run_start_next set block run =
    let next = run_start-is set block (run + 1) in
    let here = run_start-is set block run in
    let more : (run + 1) * run_size set block ≡ run * run_size set block + 1 * run_size set block = add-mul run 1 (run_size set block) in
    omega (arith, next, here, more)

pub run_start_end : (set : PieceSet) (block : ℕ) → run_start set block (runs_in set block) ≡ start_of set block + block_size set block
run_start_end set block = run_start-is set block (runs_in set block) ∙ ap (λ n. start_of set block + n) (sym (block_size-runs set block))

-- ---- bounds
sums_small : (set : PieceSet) (block : ℕ) → block ≤ product (block_bases set) → sum_below (block_size set) block ≤ block * 2 ^ 36
sums_small set zero upto = omega arith
sums_small set (suc block) upto =
    let rest = sums_small set block (omega arith) in
    let here = block_size-small set block (omega arith) in
    omega (arith, rest, here)

pub start_small : (set : PieceSet) (block : ℕ) → block ≤ product (block_bases set) → start_of set block ≤ 27 * 2 ^ 36
start_small set block upto =
    let sum = sums_small set block upto in
    let few = blocks_small set in
    omega (arith, sum, few)

-- ---- the marks of a mixed run, by its table
pub marks_agree : (f g : ℕ → Bool) (n : ℕ) → ((k : ℕ) → k < n → f k ≡ g k) → marks_below f n ≡ marks_below g n
marks_agree f g zero same = marks_below_none f ∙ sym (marks_below_none g)
marks_agree f g (suc n) same =
    let rest = marks_agree f g n (λ k below. same k (omega arith)) in
    let here : one_if (f n) ≡ one_if (g n) = ap one_if (same n (omega arith)) in
    omega (arith, rest, here, marks_below_more f n, marks_below_more g n)

pub marks_from : (mark : ℕ → Bool) (from n : ℕ) → marks_below mark from + marks_below (λ k. mark (from + k)) n ≡ marks_below mark (from + n)
marks_from mark from zero =
    omega (arith, marks_below_none (λ k. mark (from + k)), no_later mark from)
marks_from mark from (suc n) = omega (arith, marks_from mark from n, marks_below_more (λ k. mark (from + k)) n, marks_later mark from n)

pub lions_run : (run : ℕ) → run % lion_pairs % lion_pairs ≡ run % lion_pairs
lions_run run = omega arith
