-- How many positions of a family a run has before a place, and in all.
use Rattle.dob_classes.proofs.Common.{◌%◌, ◌*◌, ◌+◌, ◌<◌, ◌∙◌, ◌≡◌, ◌≤◌, List, ap, arith, slice_index, sym, true, ℕ, PieceSet, Family, A, B}
use Rattle.dob_classes.proofs.Common.{lions_run, marks_agree, marks_from, run_start_next, there, family_of, is_present, marks_below, block_bases, digits_of, product}
use Rattle.dob_classes.proofs.Common.{lion_pairs, run_start, runs_in, run_size, is_there, run_size_in}
use Rattle.dob_rank.specs.Weights.{allowed_place, forms_in, others_squares, others_forms}
use Rattle.dob_rank.proofs.OfFamilies.PlaceCounts.{same_lions}
use Rattle.dob_rank.proofs.OfFamilies.PlaceCounts.{there as place_there}
use Rattle.dob_rank.proofs.OfFamilies.FamilyRuns.{ob_of, run_present, lions_alike}
use Rattle.dob_classes.proofs.MarksOfRuns.FamilyMarks.{all_alike}

pub same_left : (x y z : ℕ) → x + y ≡ x + z → y ≡ z
same_left x y z e = omega (arith, e)

-- in profile A each place is one of the family's
pub all_there : (family : Family) (block run n : ℕ) → family.profile ≡ A → marks_below (is_there family block run) n ≡ n
all_there family block run n a = all_alike (is_there family block run) true n (λ k low. there family (run_start family.set block run + k) a)

-- in profile B those that the lions and the choice of the chicks' squares allow
pub count_by_places : (set : PieceSet) (block run place : ℕ) (ob : List ℕ) → block < product (block_bases set) → run < runs_in set block
    → place ≤ run_size set block → ob ≡ digits_of (block_bases set) block
    → marks_below (allowed_place B ob (run % lion_pairs)) place ≡ marks_below (is_there (family_of set B) block run) place
count_by_places set block run place ob within below upto ob_is =
    ap (λ (xs : List ℕ). marks_below (allowed_place B xs (run % lion_pairs)) place) ob_is
    ∙ marks_agree (allowed_place B (digits_of (block_bases set) block) (run % lion_pairs)) (is_there (family_of set B) block run) place
    (λ k low. same_lions B (digits_of (block_bases set) block) (run % lion_pairs) run k (lions_run run)
    ∙ sym (place_there (family_of set B) block run k (record { block_below = within; run_below = below; local_below = inside k place _ low upto })))
  where
    inside : (k place size : ℕ) → k < place → place ≤ size → k < size
    inside k place size h e = omega (arith, h, e)

-- all of a run
pub run_size_in-parts : (family : Family) (block run : ℕ) → block < product (block_bases family.set) → run < runs_in family.set block
    → run_size_in family block run
    ≡ forms_in family.profile (slice_index (ob_of family block) 0) run * (others_squares (ob_of family block) * others_forms (ob_of family block))
run_size_in-parts family block run within below =
    same_left (marks_below (is_present family) (run_start family.set block run)) (run_size_in family block run)
    (forms_in family.profile (slice_index (ob_of family block) 0) run * (others_squares (ob_of family block) * others_forms (ob_of family block)))
    (marks_from (is_present family) (run_start family.set block run) (run_size family.set block)
    ∙ ap (marks_below (is_present family)) (sym (run_start_next family.set block run))
    ∙ sym (run_present family block run within below))

pub whole_run : (set : PieceSet) (block run place forms others : ℕ) (ob : List ℕ) → block < product (block_bases set) → run < runs_in set block
    → place ≡ run_size set block → ob ≡ digits_of (block_bases set) block → forms ≡ forms_in B (slice_index ob 0) (run % lion_pairs)
    → others ≡ others_squares ob * others_forms ob → forms * others ≡ marks_below (is_there (family_of set B) block run) place
whole_run set block run place forms others ob within below place_is ob_is forms_is others_is =
    product_is forms _ others _ (forms_is ∙ ap (λ (xs : List ℕ). forms_in B (slice_index xs 0) (run % lion_pairs)) ob_is
    ∙ lions_alike B (slice_index (digits_of (block_bases set) block) 0) (run % lion_pairs) run (lions_run run))
    (others_is ∙ ap (λ (xs : List ℕ). others_squares xs * others_forms xs) ob_is)
    ∙ sym (run_size_in-parts (family_of set B) block run within below) ∙ ap (marks_below (is_there (family_of set B) block run)) (sym place_is)
  where
    product_is : (a b c d : ℕ) → a ≡ b → c ≡ d → a * c ≡ b * d
    product_is a b c d e f = cc
