-- How many positions of a family a run has, and how many stand before it in its block.
use Rattle.dob_rank.proofs.Common.{◌%◌, ◌*◌, ◌+◌, ◌<◌, ◌∙◌, ◌≡◌, ◌≤◌, List, ap, arith, slice_index, suc, sym, zero, ℕ}
use Rattle.dob_rank.proofs.Common.{Family, Profile, sum_alike, sum_blocks, sum_same, is_present, marks_below, block_bases, block_size}
use Rattle.dob_rank.proofs.Common.{choose, digits_of, free_squares, order, product, settle, start_of, sum_below, form_bases, lion_pairs, run_size, run_start}
use Rattle.dob_rank.proofs.Common.{runs_in, square_bases, forms_in, forms_on, lions_before, others_forms, others_squares, weight, Chicks, drop}
use Rattle.dob_rank.proofs.Arithmetic.MixedRadix.{product-append}
use Rattle.dob_rank.proofs.Positions.Blocks.{sum_below_more, few_in_block, hand_bases, positive_product, squares_positive, AreFewOnBoard-digits}
use Rattle.dob_rank.proofs.InRuns.Lions.{lions_layers}
use Rattle.dob_rank.proofs.Marked.Words.{marks_below_none}
use Rattle.dob_rank.proofs.InRuns.RunMarks.{run_start_first, run_start_next, run_start_end}
use Rattle.dob_rank.proofs.InRuns.RunSums.{runs_by_hand}
use Rattle.dob_rank.specs.Weights.{allowed_place}
use Rattle.dob_rank.proofs.OfFamilies.PlaceCounts.{in_whole_run, place_by, present_upto, run_size-parts}

-- the numbers on the board of a block
abbrev pub ob_of : Family → ℕ → List ℕ
ob_of family block = digits_of (block_bases family.set) block

pub others_squares-some : (family : Family) (block : ℕ) → block < product (block_bases family.set) → 0 < others_squares (ob_of family block)
others_squares-some family block within =
    positive_product (drop 1 (square_bases (ob_of family block)))
    (squares_positive (ob_of family block) (AreFewOnBoard-digits family.set (ob_of family block) (few_in_block family.set block within))).1

run_whole : (family : Family) (block : ℕ) → run_size family.set block
    ≡ place_by (ob_of family block) (choose free_squares (slice_index (ob_of family block) 0)) 0 0 0
unfolding run_size
run_whole family block = product-append (square_bases (ob_of family block)) (form_bases (ob_of family block)) ∙ run_size-parts (ob_of family block)

-- the positions of the next run come after those of this one
pub run_present : (family : Family) (block run : ℕ) → block < product (block_bases family.set) → run < runs_in family.set block
    → marks_below (is_present family) (run_start family.set block run)
    + forms_in family.profile (slice_index (ob_of family block) 0) run * (others_squares (ob_of family block) * others_forms (ob_of family block))
    ≡ marks_below (is_present family) (run_start family.set block (run + 1))
run_present family block run within below =
    sym (ap (marks_below (is_present family)) (run_start_next family.set block run)
    ∙ present_upto family block run (run_size family.set block) within below (omega arith)
    ∙ ap (λ (x : ℕ). marks_below (is_present family) (run_start family.set block run) + x)
    (ap (marks_below (allowed_place family.profile (ob_of family block) run)) (run_whole family block)
    ∙ in_whole_run family.profile (ob_of family block) run (others_squares-some family block within)))

-- ---- the runs of a block
pub runs_present : (family : Family) (block run : ℕ) → block < product (block_bases family.set) → run ≤ runs_in family.set block
    → marks_below (is_present family) (start_of family.set block)
    + sum_below (forms_in family.profile (slice_index (ob_of family block) 0)) run * (others_squares (ob_of family block) * others_forms (ob_of family block))
    ≡ marks_below (is_present family) (run_start family.set block run)
runs_present family block zero within upto = grind (arith, run_start_first)
runs_present family block (suc run) within upto = grind (arith, run_present, (runs_present family block run within (omega arith)))

-- the lions alone say how many a run has
pub lions_alike : (profile : Profile) (chicks a b : ℕ) → a % lion_pairs ≡ b % lion_pairs → forms_in profile chicks a ≡ forms_in profile chicks b
lions_alike profile chicks a b e =
    ap (λ (m : ℕ). sum_below (λ c. weight (forms_on profile) (order Chicks) 0 (settle (order Chicks) chicks c (lions_layers m))) (choose free_squares chicks)) e

pub by_hands : (profile : Profile) (chicks hands lions : ℕ) → lions ≤ lion_pairs
    → sum_below (forms_in profile chicks) (hands * lion_pairs + lions) ≡ hands * lions_before profile chicks lion_pairs + lions_before profile chicks lions
by_hands profile chicks hands lions upto =
    sum_blocks (forms_in profile chicks) lion_pairs hands lions
    ∙ ap (λ (x : ℕ). x + sum_below (λ r. forms_in profile chicks (hands * lion_pairs + r)) lions)
    (sum_same (λ q. sum_below (λ r. forms_in profile chicks (q * lion_pairs + r)) lion_pairs) (λ q. lions_before profile chicks lion_pairs) hands
    (λ q lq. sum_same (λ r. forms_in profile chicks (q * lion_pairs + r)) (forms_in profile chicks) lion_pairs
    (λ r lr. lions_alike profile chicks (q * lion_pairs + r) r (alike q r)))
    ∙ sum_alike (lions_before profile chicks lion_pairs) hands)
    ∙ ap (λ (x : ℕ). hands * lions_before profile chicks lion_pairs + x)
    (sum_same (λ r. forms_in profile chicks (hands * lion_pairs + r)) (forms_in profile chicks) lions
    (λ r lr. lions_alike profile chicks (hands * lion_pairs + r) r (alike hands r)))
  where
    alike : (q r : ℕ) → (q * lion_pairs + r) % lion_pairs ≡ r % lion_pairs
    alike q r = omega arith

-- before the run of those lions of a hand
pub present_before_run : (family : Family) (block hands lions : ℕ) → block < product (block_bases family.set) → lions ≤ lion_pairs
    → hands * lion_pairs + lions ≤ runs_in family.set block
    → marks_below (is_present family) (start_of family.set block)
    + (hands * lions_before family.profile (slice_index (ob_of family block) 0) lion_pairs + lions_before family.profile (slice_index (ob_of family block) 0)
    lions)
    * (others_squares (ob_of family block) * others_forms (ob_of family block))
    ≡ marks_below (is_present family) (run_start family.set block (hands * lion_pairs + lions))
present_before_run family block hands lions within few upto =
    ap (λ (x : ℕ). marks_below (is_present family) (start_of family.set block) + x * (others_squares (ob_of family block) * others_forms (ob_of family block)))
    (sym (by_hands family.profile (slice_index (ob_of family block) 0) hands lions few))
    ∙ runs_present family block (hands * lion_pairs + lions) within upto

-- ---- the blocks of a set

-- how many positions of the family a block has
abbrev pub present_size : Family → ℕ → ℕ
present_size family block =
    product (hand_bases family.set (ob_of family block)) * lions_before family.profile (slice_index (ob_of family block) 0) lion_pairs
    * (others_squares (ob_of family block) * others_forms (ob_of family block))

pub block_present : (family : Family) (block : ℕ) → block < product (block_bases family.set)
    → marks_below (is_present family) (start_of family.set block) + present_size family block
    ≡ marks_below (is_present family) (start_of family.set (block + 1))
block_present family block within =
    let whole = runs_by_hand family.set block in
    ap (λ (x : ℕ). marks_below (is_present family) (start_of family.set block) + x * (others_squares (ob_of family block) * others_forms (ob_of family block)))
    (none_more (product (hand_bases family.set (ob_of family block)) * lions_before family.profile (slice_index (ob_of family block) 0) lion_pairs))
    ∙ present_before_run family block (product (hand_bases family.set (ob_of family block))) 0 within (omega arith) (omega (arith, whole))
    ∙ ap (λ (x : ℕ). marks_below (is_present family) (run_start family.set block x)) (omega (arith, whole))
    ∙ ap (marks_below (is_present family)) (run_start_end family.set block ∙ sym (sum_below_more (block_size family.set) block))
  where
    none_more : (n : ℕ) → n ≡ n + 0
    none_more n = omega arith

pub blocks_present : (family : Family) (block : ℕ) → block ≤ product (block_bases family.set)
    → marks_below (is_present family) (start_of family.set block) ≡ sum_below (present_size family) block
blocks_present family zero upto = marks_below_none (is_present family)
blocks_present family (suc block) upto =
    ap (λ (x : ℕ). marks_below (is_present family) (start_of family.set x)) (let e : suc block ≡ block + 1 = omega arith in e)
    ∙ sym (block_present family block (omega (arith, upto)))
    ∙ ap (λ (x : ℕ). x + present_size family block) (blocks_present family block (omega (arith, upto)))
