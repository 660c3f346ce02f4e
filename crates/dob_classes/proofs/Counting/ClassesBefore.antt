-- How many classes of a family stand before a run of a block and before a place of a run, as sums over the runs of one hand.
use Rattle.dob_classes.proofs.Common.{◌%◌, ◌*◌, ◌+◌, ◌/◌, ◌<◌, ◌^◌, ◌∙◌, ◌≡◌, ◌≤◌, Bool, ap, arith, cond, refl, sym, ℕ, mod-mul-add, Family, Setup}
use Rattle.dob_classes.proofs.Common.{run_start_end, run_start_first, run_start_next, spot_there, marks_below-upto, sum_below_more, IsPositionOf, class_number}
use Rattle.dob_classes.proofs.Common.{is_marked, marks_below, block_bases, block_of, block_size, product, rank_of_set, sum_below, RepresentativeOf, IsInRun}
use Rattle.dob_classes.proofs.Common.{lion_pairs, run_kind, run_of, run_start, runs_in, local_of, run_size, is_there, local_marks_in, classes_to_block}
use Rattle.dob_classes.proofs.Common.{classes_to_place, classes_to_run, classes_to_setup}
use Rattle.dob_lists.proofs.Sums.{sum_same, sum_blocks, sum_alike}
use Rattle.dob_rank.proofs.Arithmetic.MixedRadix.{digit_below}
use Rattle.dob_rank.proofs.InRuns.RunSums.{lions_there}
use Rattle.dob_classes.proofs.MarksOfRuns.FamilyMarks.{classes_before_place, kind_if, marks_of_lions, marks_of_runs, marks_told, run_marks}
use Rattle.dob_classes.proofs.Tables.RunTables.{marks_small}
use Rattle.dob_classes.proofs.OfFamilies.FamilyNumbers.{earlier_is}

-- ---- a position's place

-- at that place of a run stands the position
pub record IsAt (family : Family) (s : Setup) (block run local : ℕ) : Type 0 where
  pub in_run : IsInRun family.set block run local
  pub rank_is : run_start family.set block run + local ≡ rank_of_set family.set s

pub stands_at : (family : Family) (s : Setup) (block run local : ℕ) → IsPositionOf family s → block ≡ block_of family.set s → run ≡ run_of family.set s
    → local ≡ local_of s → IsAt family s block run local
stands_at family s block run local p block_is run_is local_is =
    let spot = spot_there family.set s family.set block run local p.of_set refl block_is run_is local_is in
    record { in_run = spot.there; rank_is = spot.rank_is }

-- the classes before the position's representative are before its class
pub class_of_earlier : (family : Family) (s representative : Setup) → IsPositionOf family s → RepresentativeOf s representative
    → classes_to_setup family representative ≡ class_number family s
class_of_earlier family s representative p represents = sym (earlier_is family s representative p represents).number_is

-- ---- the runs before one

-- all pairs of lions have a run of the first hand
pub all_lions : (family : Family) (block : ℕ) → block < product (block_bases family.set) → lion_pairs ≤ runs_in family.set block
all_lions family block within = (let last = lions_there family.set block 98 within (omega arith) in omega (arith, last))

pub none_before : (family : Family) (block : ℕ) → classes_to_block family block + 0 ≡ classes_to_run family block 0
none_before family block = omega (arith, ap (marks_below (is_marked family)) (run_start_first family.set block))

-- one run more
pub one_run_more : (family : Family) (block run size count marks : ℕ) → size ≡ run_size family.set block
    → classes_to_block family block + count ≡ classes_to_run family block run → classes_to_run family block run + marks ≡ classes_to_place family block run size
    → classes_to_block family block + (count + marks) ≡ classes_to_run family block (run + 1)
one_run_more family block run size count marks size_is counted more = omega (
  arith,
  counted,
  more,
  ap (λ n. classes_to_place family block run n) size_is ∙ ap (marks_below (is_marked family)) (sym (run_start_next family.set block run)),
)

-- each hand before has as many as the first, and the run's own hand those of the lions before
pub record AreByHands (family : Family) (block run hands whole part : ℕ) : Type 0 where
  pub sum_is : classes_to_block family block + (hands * whole + part) ≡ classes_to_run family block run
  pub few : hands * whole + part ≤ 2 ^ 42

pub by_hands : (family : Family) (block run hands lions whole part : ℕ) → block < product (block_bases family.set) → run ≤ runs_in family.set block
    → hands ≡ run / lion_pairs → lions ≡ run % lion_pairs → classes_to_block family block + whole ≡ classes_to_run family block lion_pairs
    → classes_to_block family block + part ≡ classes_to_run family block lions → AreByHands family block run hands whole part
by_hands family block run hands lions whole part within upto hands_are lions_are whole_is part_is = record {
  sum_is = sum;
  few = (let small = marks_small family block run within upto in omega (arith, sum, small));
}
  where
    run_is : run ≡ hands * lion_pairs + lions
    run_is = omega (arith, hands_are, lions_are)

    each : (k : ℕ) → k < run → run_marks family block (k % lion_pairs) ≡ run_marks family block k
    each k low = marks_of_lions family block k within (omega (arith, low, upto))

    whole_sum : whole ≡ sum_below (run_marks family block) lion_pairs
    whole_sum = (let runs = marks_of_runs family block lion_pairs within (all_lions family block within) in omega (arith, whole_is, runs))

    part_sum : part ≡ sum_below (run_marks family block) lions
    part_sum = (let runs = marks_of_runs family block lions within (omega (arith, upto, run_is)) in omega (arith, part_is, runs))

    of_hands : sum_below (λ q. sum_below (λ r. run_marks family block (q * lion_pairs + r)) lion_pairs) hands
        ≡ hands * sum_below (run_marks family block) lion_pairs
    of_hands =
        sum_same (λ q. sum_below (λ r. run_marks family block (q * lion_pairs + r)) lion_pairs) (λ q. sum_below (run_marks family block) lion_pairs) hands
        (λ q earlier. sum_same (λ r. run_marks family block (q * lion_pairs + r)) (run_marks family block) lion_pairs
        (λ r low. sym (each (q * lion_pairs + r) (let below = digit_below q hands lion_pairs r earlier low in omega (arith, below, run_is)))
        ∙ ap (run_marks family block) (mod-mul-add q lion_pairs r low)))
        ∙ sum_alike (sum_below (run_marks family block) lion_pairs) hands

    of_lions : sum_below (λ r. run_marks family block (hands * lion_pairs + r)) lions ≡ sum_below (run_marks family block) lions
    of_lions =
        sum_same (λ r. run_marks family block (hands * lion_pairs + r)) (run_marks family block) lions
        (λ r low. sym (each (hands * lion_pairs + r) (omega (arith, low, run_is)))
        ∙ ap (run_marks family block) (mod-mul-add hands lion_pairs r (omega (arith, low, lions_are))))

    split : sum_below (run_marks family block) run
        ≡ sum_below (λ q. sum_below (λ r. run_marks family block (q * lion_pairs + r)) lion_pairs) hands
        + sum_below (λ r. run_marks family block (hands * lion_pairs + r)) lions
    split = ap (sum_below (run_marks family block)) run_is ∙ sum_blocks (run_marks family block) lion_pairs hands lions

    parts : hands * whole + part ≡ sum_below (run_marks family block) run
    parts =
        ap (λ n. hands * n + part) whole_sum ∙ ap (λ n. hands * sum_below (run_marks family block) lion_pairs + n) part_sum
        ∙ ap (λ n. n + sum_below (run_marks family block) lions) (sym of_hands)
        ∙ ap (λ n. sum_below (λ q. sum_below (λ r. run_marks family block (q * lion_pairs + r)) lion_pairs) hands + n) (sym of_lions)
        ∙ sym split

    sum : classes_to_block family block + (hands * whole + part) ≡ classes_to_run family block run
    sum = ap (λ n. classes_to_block family block + n) parts ∙ marks_of_runs family block run within upto

-- all runs of a block
pub block_end : (family : Family) (block runs : ℕ) → runs ≡ runs_in family.set block → classes_to_run family block runs ≡ classes_to_block family (block + 1)
block_end family block runs runs_are = rw runs_are (ap (marks_below (is_marked family))
    (run_start_end family.set block ∙ sym (sum_below_more (block_size family.set) block)))

pub one_block_more : (family : Family) (block runs count marks : ℕ) → runs ≡ runs_in family.set block → count ≡ classes_to_block family block
    → classes_to_block family block + marks ≡ classes_to_run family block runs → count + marks ≡ classes_to_block family (block + 1)
one_block_more family block runs count marks runs_are counted more = rw counted (more ∙ block_end family block runs runs_are)

-- ---- the places before one

-- the representatives among the run's positions before a place
pub in_run_before : (family : Family) (block run place marks : ℕ) → block < product (block_bases family.set) → run < runs_in family.set block
    → place ≤ run_size family.set block → marks ≡ marks_below (local_marks_in family block run) (marks_below (is_there family block run) place)
    → classes_to_run family block run + marks ≡ classes_to_place family block run place
in_run_before family block run place marks within below upto is =
    rw is (sym (classes_before_place family block run within below place upto))

-- where the lions show it
pub told_before : (family : Family) (block run place : ℕ) (on : Bool) → block < product (block_bases family.set) → run < runs_in family.set block
    → place ≤ run_size family.set block → run_kind (run % lion_pairs) ≡ kind_if on
    → classes_to_run family block run + cond on (marks_below (is_there family block run) place) 0 ≡ classes_to_place family block run place
told_before family block run place on within below upto kind =
    in_run_before family block run place (cond on (marks_below (is_there family block run) place) 0) within below upto
    (sym (marks_told family block run within below (marks_below (is_there family block run) place) on
    (marks_below-upto (is_there family block run) place (run_size family.set block) upto) kind))

-- ---- a position's block, run and place
pub record AreBefore (family : Family) (s : Setup) (runs places : ℕ) : Type 0 where
  pub sum_is : runs + places ≡ classes_to_setup family s
  pub few : runs + places ≤ 2 ^ 42

pub are_before : (family : Family) (s : Setup) (block run local runs places : ℕ) → IsAt family s block run local → runs ≡ classes_to_run family block run
    → classes_to_run family block run + places ≡ classes_to_place family block run local → AreBefore family s runs places
are_before family s block run local runs places at runs_are places_are =
    let sum : runs + places ≡ classes_to_place family block run local = omega (arith, runs_are, places_are) in
    let next = run_start_next family.set block run in
    let low = at.in_run.local_below in
    let run_low = at.in_run.run_below in
    let marks = marks_below-upto (is_marked family) (run_start family.set block run + local) (run_start family.set block (run + 1)) (omega (arith, next, low)) in
    let small = marks_small family block (run + 1) at.in_run.block_below (omega (arith, run_low)) in
    record { sum_is = sum ∙ ap (marks_below (is_marked family)) at.rank_is; few = omega (arith, sum, marks, small) }
