-- A place of a block and its number among the positions of the family there.
use Rattle.dob_rank.proofs.Common.{◌%◌, ◌*◌, ◌+◌, ◌/◌, ◌<◌, ◌^◌, ◌∙◌, ◌≡◌, ◌≤◌, List, ap, arith, slice_index, subst, sym, true, ℕ, Family, Profile}
use Rattle.dob_rank.proofs.Common.{A, B, Setup, family_of, is_present, rank_of, marks_below, block_bases, digits_of, product, rank_of_set, size_of_set}
use Rattle.dob_rank.proofs.Common.{start_of, IsPositionOfSet, IsInRun, lion_pairs, local_bases, run_size, run_start, lions_before, others_forms}
use Rattle.dob_rank.proofs.Common.{hand_size, others_squares, IsPlaceFor}
use Rattle.dob_rank.specs.Weights.{allowed_place}
use Rattle.dob_rank.proofs.Positions.Numbering.{rank_of_set-below}
use Rattle.dob_rank.proofs.Marked.Words.{marks_below-le}
use Rattle.dob_rank.proofs.InRuns.RunMarks.{lions_run, marks_agree, start_small}
use Rattle.dob_rank.proofs.InRuns.RunPlaces.{run_start-is}
use Rattle.dob_rank.proofs.OfFamilies.Present.{all_present}
use Rattle.dob_rank.proofs.OfFamilies.PlaceCounts.{there, present_upto, same_lions}
use Rattle.dob_rank.proofs.OfFamilies.FamilyRuns.{ob_of, present_before_run}

by_hand : (run : ℕ) → run / lion_pairs * lion_pairs + run % lion_pairs ≡ run
by_hand run = omega arith

rest_below : (run : ℕ) → run % lion_pairs ≤ lion_pairs
rest_below run = omega arith

upto_whole : (run same runs : ℕ) → same ≡ run → run < runs → same ≤ runs
upto_whole run same runs e h = omega (arith, e, h)

weaker : (a b : ℕ) → a < b → a ≤ b
weaker a b h = omega (arith, h)

both_parts : (a b n c m d : ℕ) → a + b ≡ c → n ≡ m → d ≡ c + m → a + (b + n) ≡ d
both_parts a b n c m d e f g = omega (arith, e, f, g)

all_parts : (start from run local place x y : ℕ) → from ≡ start + run → place ≡ run + local → x ≡ start → y ≡ from + local → x + place ≡ y
all_parts start from run local place x y e f g h = omega (arith, e, f, g, h)

-- in profile A all places count
pub placed_in_a : (family : Family) (block run local place size : ℕ) → family.profile ≡ A → size ≡ run_size family.set block → place ≡ run * size + local
    → marks_below (is_present family) (start_of family.set block) + place ≡ marks_below (is_present family) (run_start family.set block run + local)
placed_in_a family block run local place size a size_is place_is =
    all_parts (start_of family.set block) (run_start family.set block run) (run * run_size family.set block) local place _ _
    (run_start-is family.set block run) (place_is ∙ ap (λ (n : ℕ). run * n + local) size_is)
    (all_present family (start_of family.set block) a) (all_present family (run_start family.set block run + local) a)

-- of the choices and forms in the runs before, and of the run's own before the place
pub placed : (family : Family) (block run place chosen others number : ℕ) → IsInRun family.set block run place
    → chosen ≡ run / lion_pairs * lions_before family.profile (slice_index (ob_of family block) 0) lion_pairs
    + lions_before family.profile (slice_index (ob_of family block) 0) (run % lion_pairs)
    → others ≡ others_squares (ob_of family block) * others_forms (ob_of family block)
    → number ≡ marks_below (allowed_place family.profile (ob_of family block) (run % lion_pairs)) place
    → marks_below (is_present family) (start_of family.set block) + (chosen * others + number)
    ≡ marks_below (is_present family) (run_start family.set block run + place)
placed family block run place chosen others number at chosen_is others_is number_is =
    let whole = by_hand run in
    let before : marks_below (is_present family) (start_of family.set block) + chosen * others ≡ marks_below (is_present family) (run_start family.set block run)
    = rw (chosen_is, others_is) (present_before_run family block (run / lion_pairs) (run % lion_pairs) at.block_below (rest_below run) (upto_whole run (run / lion_pairs * lion_pairs + run % lion_pairs) _ whole at.run_below)
    ∙ ap (λ (n : ℕ). marks_below (is_present family) (run_start family.set block n)) whole) in
    let upto = present_upto family block run place at.block_below at.run_below (weaker place _ at.local_below) in
    let same = marks_agree (allowed_place family.profile (ob_of family block) (run % lion_pairs)) (allowed_place family.profile (ob_of family block) run) place
    (λ k low. same_lions family.profile (ob_of family block) (run % lion_pairs) run k (lions_run run)) in
    both_parts (marks_below (is_present family) (start_of family.set block)) (chosen * others) number (marks_below (is_present family) (run_start family.set block run))
    (marks_below (allowed_place family.profile (ob_of family block) run) place) _ before (number_is ∙ same) upto

-- the place of a number
pub place_for : (ob : List ℕ) (lions number place : ℕ) → lions < lion_pairs → place < product (local_bases ob) → allowed_place B ob lions place ≡ true
    → marks_below (allowed_place B ob lions) place ≡ number → IsPlaceFor ob lions number place
unfolding run_size
place_for ob lions number place few low on is = λ set block run within ob_is below run_is.
    let family = family_of set B in
    let inside : place < product (local_bases (digits_of (block_bases set) block)) = subst (λ (xs : List ℕ). place < product (local_bases xs)) ob_is low in
    let rest : run % lion_pairs ≡ lions % lion_pairs = omega (arith, run_is, few) in
    record {
      local_below = inside;
      present = there family block run place (record { block_below = within; run_below = below; local_below = inside })
          ∙ same_lions B (digits_of (block_bases set) block) run lions place rest ∙ ap (λ (xs : List ℕ). allowed_place B xs lions place) (sym ob_is) ∙ on;
      before = present_upto family block run place within below (omega (arith, inside))
          ∙ ap (λ (x : ℕ). marks_below (is_present family) (run_start set block run) + x)
          (marks_agree (allowed_place B (digits_of (block_bases set) block) run) (allowed_place B ob lions) place
          (λ k _. same_lions B (digits_of (block_bases set) block) run lions k rest ∙ ap (λ (xs : List ℕ). allowed_place B xs lions k) (sym ob_is)) ∙ is);
    }

pub rank_of-small : (family : Family) (s : Setup) → IsPositionOfSet family.set s → rank_of family s < 2 ^ 42
unfolding rank_of size_of_set
rank_of-small family s p =
    omega (
      arith,
      marks_below-le (is_present family) (rank_of_set family.set s),
      rank_of_set-below family.set s p,
      start_small family.set (product (block_bases family.set)) (omega arith),
    )

-- a position's rank
pub rank_by_place : (family : Family) (s : Setup) (block run local start place : ℕ) → start ≡ marks_below (is_present family) (start_of family.set block)
    → marks_below (is_present family) (start_of family.set block) + place ≡ marks_below (is_present family) (run_start family.set block run + local)
    → run_start family.set block run + local ≡ rank_of_set family.set s → start + place ≡ rank_of family s
unfolding rank_of
rank_by_place family s block run local start place start_is place_is rank_is =
    ap (λ (n : ℕ). n + place) start_is ∙ place_is ∙ ap (marks_below (is_present family)) rank_is

-- in profile B those that the code finds
pub placed_by : (family : Family) (block run place : ℕ) (ob : List ℕ) (hand lions others number : ℕ) → family.profile ≡ B → IsInRun family.set block run place
    → ob ≡ digits_of (block_bases family.set) block → hand ≡ hand_size B (slice_index ob 0) → lions ≡ lions_before B (slice_index ob 0) (run % lion_pairs)
    → others ≡ others_squares ob * others_forms ob → number ≡ marks_below (allowed_place B ob (run % lion_pairs)) place
    → marks_below (is_present family) (start_of family.set block) + ((run / lion_pairs * hand + lions) * others + number)
    ≡ marks_below (is_present family) (run_start family.set block run + place)
unfolding hand_size
placed_by family block run place ob hand lions others number b at ob_is hand_is lions_is others_is number_is =
    placed family block run place (run / lion_pairs * hand + lions) others number at
    (sums (run / lion_pairs) hand lions _ _ (hand_is ∙ ap (λ (xs : List ℕ). lions_before B (slice_index xs 0) lion_pairs) ob_is
    ∙ ap (λ (p : Profile). lions_before p (slice_index (ob_of family block) 0) lion_pairs) (sym b))
    (lions_is ∙ ap (λ (xs : List ℕ). lions_before B (slice_index xs 0) (run % lion_pairs)) ob_is
    ∙ ap (λ (p : Profile). lions_before p (slice_index (ob_of family block) 0) (run % lion_pairs)) (sym b)))
    (others_is ∙ ap (λ (xs : List ℕ). others_squares xs * others_forms xs) ob_is)
    (number_is ∙ ap (λ (xs : List ℕ). marks_below (allowed_place B xs (run % lion_pairs)) place) ob_is
    ∙ ap (λ (p : Profile). marks_below (allowed_place p (ob_of family block) (run % lion_pairs)) place) (sym b))
  where
    sums : (h a b x y : ℕ) → a ≡ x → b ≡ y → h * a + b ≡ h * x + y
    sums h a b x y e f = cc
