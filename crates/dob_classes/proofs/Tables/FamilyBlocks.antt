-- The blocks of a family: what a block of the list says of the family's positions and classes.
use Rattle.dob_classes.proofs.Common.{◌%◌, ◌*◌, ◌++◌, ◌+◌, ◌-◌, ◌<◌, ◌^◌, ◌∙◌, ◌∷◌, ◌≡◌, ◌≤◌, List, [], ap, arith, length, refl, slice_index, slice_index_or}
use Rattle.dob_classes.proofs.Common.{subst, sym, true, ℕ, length_push, Family, Profile, A, B, Setup, AreFewOnBoard-digits, marks_from, run_start_next}
use Rattle.dob_classes.proofs.Common.{start_small, spot_there, marks_below-le, marks_below_none, classes_of-below, HasClasses-classes_of, represents, there}
use Rattle.dob_classes.proofs.Common.{HasDigits-numbers, sum_below_more, local_in_bases, made_in_block, run_in_bases, HasClasses, IsPositionOf, family_of}
use Rattle.dob_classes.proofs.Common.{is_present, classes_of, is_marked, marks_below, HasDigits, block_bases, block_of, digits_of, number_of, product}
use Rattle.dob_classes.proofs.Common.{rank_of_set, start_of, size_of_set, AreFewOnBoard, lion_pairs, local_bases, run_bases, run_of, run_start, runs_in}
use Rattle.dob_classes.proofs.Common.{local_of, run_size, IsInRunOf, IsNumbered, classes_before, is_there, local_marks_in, run_size_in, BlockClasses}
use Rattle.dob_classes.proofs.Common.{classes_to_block, classes_to_place, classes_to_run, classes_to_setup}
use Rattle.dob_classes.specs.BlockTables.{IsBlock, AreBlocks}
use Rattle.dob_rank.specs.Places.{IsPresentAt, IsPlaceFor}
use Rattle.dob_rank.specs.Weights.{forms_in, others_squares, others_forms}
use Rattle.dob_rank.proofs.Positions.Numbering.{HasBlock, rank_of_set-block}
use Rattle.dob_rank.proofs.InRuns.RunPlaces.{run_start-is}
use Rattle.dob_rank.proofs.OfFamilies.FamilyRuns.{ob_of, lions_alike}
use Rattle.dob_classes.proofs.OfFamilies.FamilyNumbers.{IsAtClass, at_class}
use Rattle.dob_classes.proofs.MarksOfRuns.FamilyMarks.{mark_of_number, number_of_position}
use Rattle.dob_classes.proofs.Counting.RunNumbers.{all_there, run_size_in-parts, same_left}
use Rattle.dob_classes.proofs.Tables.Pushed.{each_pushed}

-- ---- the place of a number
pub few_on_board : (block : BlockClasses) → AreFewOnBoard block.on_board
few_on_board block = AreFewOnBoard-digits block.family.set block.on_board (HasDigits-numbers block.family.set block.number block.on_board block.within block.numbers)

pub lions_below : (run : ℕ) → run % lion_pairs < lion_pairs
lions_below run = omega arith

-- in profile A the number itself
pub place_of_own : (family : Family) (block run number : ℕ) → IsInRunOf family block run number → family.profile ≡ A → IsNumbered family block run number number
place_of_own family block run number at a = record {
  in_run = record {
    block_below = at.block_below;
    run_below = at.run_below;
    local_below = subst (λ n. number < n) (all_there family block run (run_size family.set block) a) at.number_below;
  };
  there = there family (run_start family.set block run + number) a;
  number_is = all_there family block run number a;
}

-- in profile B one of so many
pub number_fits : (family : Family) (block run number : ℕ) (ob : List ℕ) → IsInRunOf family block run number → family.profile ≡ B
    → ob ≡ digits_of (block_bases family.set) block
    → number < forms_in B (slice_index ob 0) (run % lion_pairs) * (others_squares ob * others_forms ob)
number_fits family block run number ob at b ob_is =
    subst (λ n. number < n)
    (run_size_in-parts family block run at.block_below at.run_below
    ∙ ap (λ (p : Profile). forms_in p (slice_index (ob_of family block) 0) run * (others_squares (ob_of family block) * others_forms (ob_of family block))) b
    ∙ ap (λ n. n * (others_squares (ob_of family block) * others_forms (ob_of family block)))
    (lions_alike B (slice_index (ob_of family block) 0) run (run % lion_pairs) (omega arith))
    ∙ ap (λ (xs : List ℕ). forms_in B (slice_index xs 0) (run % lion_pairs) * (others_squares xs * others_forms xs)) (sym ob_is))
    at.number_below

pub place_of_b : (family : Family) (block run number place : ℕ) (ob : List ℕ) → IsInRunOf family block run number → family.profile ≡ B
    → ob ≡ digits_of (block_bases family.set) block → IsPlaceFor ob (run % lion_pairs) number place → IsNumbered family block run number place
place_of_b family block run number place ob at b ob_is found =
    let here : IsPresentAt family block run number place
    = subst (λ (p : Profile). IsPresentAt (family_of family.set p) block run number place) (sym b)
    (found family.set block run at.block_below ob_is at.run_below refl) in
    record {
      in_run = record { block_below = at.block_below; run_below = at.run_below; local_below = here.local_below };
      there = here.present;
      number_is = same_left (marks_below (is_present family) (run_start family.set block run)) (marks_below (is_there family block run) place) number
          (marks_from (is_present family) (run_start family.set block run) place ∙ here.before);
    }

-- ---- the representative of a class in its run
pub record IsRepresentativeAt (family : Family) (block run local class : ℕ) : Type 0 where
  pub local_below : local < run_size family.set block
  pub mark_is : is_marked family (run_start family.set block run + local) ≡ true
  pub class_is : classes_to_place family block run local ≡ class

pub representative_at : (family : Family) (block run number place left class : ℕ) → IsNumbered family block run number place
    → local_marks_in family block run number ≡ true → marks_below (local_marks_in family block run) number ≡ left
    → classes_to_run family block run + left ≡ class → IsRepresentativeAt family block run place class
representative_at family block run number place left class at on left_is sum =
    let by = mark_of_number family block run number place at in
    record {
      local_below = at.in_run.local_below;
      mark_is = sym by.mark_is ∙ on;
      class_is = sym by.before_is ∙ ap (λ n. classes_to_run family block run + n) left_is ∙ sum;
    }

-- ---- the block of a position

-- a run and number of a family's block that are the position's own
pub record IsSpotFor (family : Family) (s : Setup) (of : Family) (block run number : ℕ) : Type 0 where
  pub run_below : run < runs_in of.set block
  pub number_below : number < run_size_in of block run
  pub mark_is : local_marks_in of block run number ≡ is_marked family (rank_of_set family.set s)
  pub before_is : classes_before of block run number ≡ classes_to_setup family s

own_spot : (family : Family) (s : Setup) → IsPositionOf family s → IsSpotFor family s family (block_of family.set s) (run_of family.set s)
    (marks_below (is_there family (block_of family.set s) (run_of family.set s)) (local_of s))
own_spot family s p =
    let at = number_of_position family s p in
    let by = mark_of_number family (block_of family.set s) (run_of family.set s) (marks_below (is_there family (block_of family.set s) (run_of family.set s)) (local_of s))
    (local_of s) at in
    let rank = (spot_there family.set s family.set (block_of family.set s) (run_of family.set s) (local_of s) p.of_set refl refl refl refl).rank_is in
    record {
      run_below = at.in_run.run_below;
      number_below = by.number_below;
      mark_is = by.mark_is ∙ ap (is_marked family) rank;
      before_is = by.before_is ∙ ap (marks_below (is_marked family)) rank;
    }

spot_of : (family : Family) (s : Setup) (of : Family) (block run number : ℕ) → IsPositionOf family s → of ≡ family → block ≡ block_of family.set s
    → run ≡ run_of family.set s → number ≡ marks_below (is_there family (block_of family.set s) (run_of family.set s)) (local_of s)
    → IsSpotFor family s of block run number
spot_of family s of block run number p of_is block_is run_is number_is = grind (arith, own_spot)

-- and of the block that is read
pub spot_read : (family : Family) (s : Setup) (blocks : List BlockClasses) (index run number : ℕ) (block : BlockClasses) → IsPositionOf family s
    → index ≡ block_of family.set s → run ≡ run_of family.set s
    → number ≡ marks_below (is_there family (block_of family.set s) (run_of family.set s)) (local_of s) → AreBlocks family blocks → index < length blocks
    → block ≡ slice_index_or blocks index block → IsSpotFor family s block.family block.number run number
spot_read family s blocks index run number block p is run_is number_is are below read =
    let there : IsBlock family index block = subst (IsBlock family index) (sym read) (are index block below) in
    spot_of family s block.family block.number run number p there.family_is (there.number_is ∙ is) run_is number_is

-- ---- how many classes stand before the blocks

-- the block that stands at a number
pub record HasClassesFrom (family : Family) (index : ℕ) (block : BlockClasses) : Type 0 where
  pub is : IsBlock family index block
  pub before_is : block.before ≡ classes_to_block family index
  pub after_is : block.after ≡ classes_to_block family (index + 1)

from_block : (family : Family) (index : ℕ) (block : BlockClasses) → IsBlock family index block → HasClassesFrom family index block
from_block family index block is = grind (arith, sum_below_more)

pub classes_read : (family : Family) (blocks : List BlockClasses) (index : ℕ) (block : BlockClasses) → AreBlocks family blocks → index < length blocks
    → block ≡ slice_index_or blocks index block → HasClassesFrom family index block
classes_read family blocks index block are below read = from_block family index block (subst (IsBlock family index) (sym read) (are index block below))

pub new_block : (family : Family) (number : ℕ) (block : BlockClasses) → block.family ≡ family → block.number ≡ number → HasClassesFrom family number block
new_block family number block family_is number_is = from_block family number block (record { family_is = family_is; number_is = number_is })

-- one more block
pub AreBlocks-push : (family : Family) (blocks news : List BlockClasses) (block : BlockClasses) (number : ℕ) → AreBlocks family blocks
    → length blocks ≡ number → IsBlock family number block → news ≡ blocks ++ block ∷ [] → AreBlocks family news
AreBlocks-push family blocks news block number are long is grown = λ k other below.
    let longer : length news ≡ length blocks + 1 = ap length grown ∙ length_push blocks block in
    each_pushed (IsBlock family) blocks news block (length blocks) refl are (subst (λ n. IsBlock family n block) (sym long) is) grown k other
    (omega (arith, below, longer))

pub AreBlocks-none : (family : Family) (blocks : List BlockClasses) → blocks ≡ [] → AreBlocks family blocks
AreBlocks-none family blocks none = λ k other below. (let empty = ap length none in absurd (omega (arith, below, empty)))

-- ---- the classes of all blocks
pub classes_all : (family : Family) (number count : ℕ) → number ≡ product (block_bases family.set) → count ≡ classes_to_block family number
    → count ≡ classes_of family
unfolding classes_of size_of_set
classes_all family number count is counted = counted ∙ ap (λ n. classes_to_block family n) is

-- what is said of the number of classes, by whatever it was found
pub count_told : (family : Family) (count : ℕ) → count ≡ classes_of family → HasClasses family count × (count < 2 ^ 31)
count_told family count is = subst (λ (n : ℕ). HasClasses family n × (n < 2 ^ 31)) (sym is) (HasClasses-classes_of family, classes_of-below family)

pub no_classes_yet : (family : Family) → 0 ≡ classes_to_block family 0
no_classes_yet family = sym (marks_below_none (is_marked family))

pub class_in_blocks : (family : Family) (class number : ℕ) → class < classes_of family → number ≡ product (block_bases family.set)
    → class < classes_to_block family number
class_in_blocks family class number below is = subst (λ n. class < n) (sym (classes_all family number _ is refl)) below

pub in_first : (family : Family) (class number : ℕ) → number ≤ 0 → class < classes_to_block family number → ⊥
in_first family class number none below = grind (arith, no_classes_yet)

pub classes_few : (family : Family) (block : ℕ) → block ≤ product (block_bases family.set) → classes_to_block family block ≤ 27 * 2 ^ 36
classes_few family block upto = grind (arith, start_small, marks_below-le)

-- ---- the position at a spot of the block that is read
pub record IsSpotOf (family : Family) (block : BlockClasses) (run local : ℕ) : Type 0 where
  pub on_board_has : HasDigits (block_bases family.set) block.on_board
  pub run_below : run < product (run_bases family.set block.on_board)
  pub local_below : local < product (local_bases block.on_board)

pub spot_in_block : (family : Family) (run local : ℕ) (block : BlockClasses) → block.family ≡ family → run < runs_in block.family.set block.number
    → local < run_size block.family.set block.number → IsSpotOf family block run local
spot_in_block family run local block is run_low local_low = grind (arith, HasDigits-numbers, run_in_bases, local_in_bases)

-- at a marked spot stands the representative of its class
pub at_spot_in : (family : Family) (run local class : ℕ) (block : BlockClasses) (s : Setup) → block.family ≡ family
    → is_marked block.family (run_start block.family.set block.number run + local) ≡ true → classes_to_place block.family block.number run local ≡ class
    → HasBlock family.set (number_of (block_bases family.set) block.on_board) (run * product (local_bases block.on_board) + local) s → IsAtClass family s class
at_spot_in family run local class block s is on number made =
    let of = block.family in
    let made_there = made_in_block of.set block.number run local block.on_board s block.within block.numbers
    (subst (λ (f : Family). HasBlock f.set (number_of (block_bases f.set) block.on_board) (run * product (local_bases block.on_board) + local) s)
    (sym is) made) in
    let start = run_start-is of.set block.number run in
    let whole : start_of of.set block.number + (run * run_size of.set block.number + local) ≡ run_start of.set block.number run + local
    = omega (arith, start) in
    let rank : rank_of_set of.set s ≡ run_start of.set block.number run + local
    = rank_of_set-block of.set block.number (run * run_size of.set block.number + local) s made_there ∙ whole in
    let marked : is_marked of (rank_of_set of.set s) ≡ true = ap (is_marked of) rank ∙ on in
    subst (λ (f : Family). IsAtClass f s class) is
    (at_class of s class (represents of s made_there.position marked).0 marked (ap (marks_below (is_marked of)) rank ∙ number))
