-- The run in which the representative of a class stands: its hand by a division, since each hand has as many, and its lions among the first hand's.
use Rattle.dob_classes.proofs.Common.{◌%◌, ◌*◌, ◌+◌, ◌-◌, ◌/◌, ◌<◌, ◌∙◌, ◌≡◌, ◌≤◌, ap, arith, refl, sym, ℕ, div-add-mod', div_below, Family}
use Rattle.dob_classes.proofs.Common.{is_marked, marks_below-upto, mul-le-mul_right, run_size, run_start}
use Rattle.dob_rank.proofs.InRuns.RunPlaces.{run_start-is}
use Rattle.dob_classes.proofs.Common.{mod-mul-add, block_bases, lion_pairs, product, runs_in, classes_to_block, classes_to_run}
use Rattle.dob_rank.proofs.Arithmetic.MixedRadix.{factor_positive}
use Rattle.dob_rank.proofs.InRuns.RunSums.{lions_there, runs_by_hand}
use Rattle.dob_classes.proofs.MarksOfRuns.FamilyMarks.{classes_before_next, marks_of_lions, run_marks}
use Rattle.dob_classes.proofs.Counting.ClassesBefore.{block_end, by_hands, none_before}
use Rattle.dob_classes.specs.BlockRows.{IsRowOf}

-- a run, and how many representatives stand in it before that of the class
pub record IsRunOf (family : Family) (block run left class : ℕ) : Type 0 where
  pub run_below : run < runs_in family.set block
  pub left_is : classes_to_run family block run + left ≡ class
  pub high : class < classes_to_run family block (run + 1)

left_told : (to part first r before class run : ℕ) → to + (part + first) ≡ run → part + r ≡ class - before → before ≡ to → before ≤ class → first ≤ r
    → run + (r - first) ≡ class
left_told to part first r before class run a b c d e = omega (arith, a, b, c, d, e)

module _ (family : Family) (block hands before hand class : ℕ) (within : block < product (block_bases family.set))
    (hands_are : runs_in family.set block ≡ hands * lion_pairs) (before_is : before ≡ classes_to_block family block)
    (hand_is : before + hand ≡ classes_to_run family block lion_pairs) (low : before ≤ class) (high : class < classes_to_block family (block + 1)) where
  hand_told : classes_to_block family block + hand ≡ classes_to_run family block lion_pairs
  hand_told = omega (arith, before_is, hand_is)

  whole : classes_to_block family block + hands * hand ≡ classes_to_block family (block + 1)
  whole =
      let sums = by_hands family block (runs_in family.set block) hands 0 hand 0 within (omega arith) (omega (arith, hands_are)) (omega (arith, hands_are))
      hand_told (none_before family block) in
      omega (arith, sums.sum_is, block_end family block (runs_in family.set block) refl)

  inside : class - before < hands * hand
  inside = omega (arith, whole, before_is, low, high)

  pub some : 0 < hand
  some = factor_positive (class - before) hands hand inside

  pub run_of_class : (lions first : ℕ) → lions < lion_pairs → classes_to_block family block + first ≡ classes_to_run family block lions
      → classes_to_run family block lions ≤ before + (class - before) % hand → before + (class - before) % hand < classes_to_run family block (lions + 1)
      → IsRunOf family block ((class - before) / hand * lion_pairs + lions) ((class - before) % hand - first) class
  run_of_class lions first lions_low first_is from upto = told ((class - before) / hand) ((class - before) % hand) (div_below (class - before) hand hands some inside)
      (div-add-mod' (class - before) hand) from upto
    where
      told : (q r : ℕ) → q < hands → q * hand + r ≡ class - before → classes_to_run family block lions ≤ before + r
          → before + r < classes_to_run family block (lions + 1) → IsRunOf family block (q * lion_pairs + lions) (r - first) class
      told q r few parts from upto =
          let run = q * lion_pairs + lions in
          let below : run < runs_in family.set block = omega (arith, few, hands_are, lions_low) in
          let sums = by_hands family block run q lions hand first within (omega (arith, below)) (omega (arith, lions_low)) (omega (arith, lions_low))
          hand_told first_is in
          let more = classes_before_next family block run within below in
          let same : run_marks family block lions ≡ run_marks family block run
          = ap (run_marks family block) (sym (mod-mul-add q lion_pairs lions lions_low)) ∙ marks_of_lions family block run within below in
          let one = classes_before_next family block lions within (lions_there family.set block lions within lions_low) in
          let left_is : classes_to_run family block run + (r - first) ≡ class
          = left_told (classes_to_block family block) (q * hand) first r before class _ sums.sum_is parts before_is low (omega (arith, from, first_is, before_is)) in
          record {
            run_below = below;
            left_is = left_is;
            high = omega (arith, left_is, more, same, one, upto, from, first_is, before_is);
          }

-- ---- later runs
pub classes_rise : (family : Family) (block run later : ℕ) → run ≤ later → classes_to_run family block run ≤ classes_to_run family block later
classes_rise family block run later upto =
    let size = run_size family.set block in
    let times : run * size ≤ later * size = mul-le-mul_right size upto in
    marks_below-upto (is_marked family) (run_start family.set block run) (run_start family.set block later)
    (omega (arith, run_start-is family.set block run, run_start-is family.set block later, times))

-- ---- the end of the last run
pub row_at_end : (family : Family) (block runs before hand : ℕ) → block < product (block_bases family.set) → runs ≡ runs_in family.set block
    → before ≡ classes_to_block family block → classes_to_block family block + hand ≡ classes_to_run family block lion_pairs
    → IsRowOf family block runs (record { before = before; hand = hand; run = 0 })
row_at_end family block runs before hand within runs_are before_is hand_is =
    let by = runs_by_hand family.set block in
    let none : 0 ≡ runs % lion_pairs = omega (arith, runs_are, by) in
    record { before_is = before_is; hand_is = hand_is; run_is = none_before family block ∙ ap (λ n. classes_to_run family block n) none }
