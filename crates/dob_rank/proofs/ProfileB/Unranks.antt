-- The position of a rank of profile B: its block, its spot there, and that it is the one of that rank.
use Rattle.dob_rank.proofs.Common.{◌%◌, ◌*◌, ◌+◌, ◌-◌, ◌/◌, ◌<◌, ◌^◌, ◌∙◌, ◌≡◌, ◌≤◌, List, ap, arith, refl, slice_index, subst, sym, ℕ}
use Rattle.dob_rank.proofs.Common.{mul_comm, div-add-mod', div_below, is_allowed, PieceSet, Family, Profile, A, B, Setup, IsPositionOf, IsRanked, family_of}
use Rattle.dob_rank.proofs.Common.{is_present, size_of, marks_below, HasBlock, block_bases, digits_of, nth, number_of, product, rank_of_set, size_of_set}
use Rattle.dob_rank.proofs.Common.{start_of, IsPositionOfSet, IsPlaceFor, IsPresentIn, IsSpotFor, lion_pairs, local_bases, run_size, run_start}
use Rattle.dob_rank.proofs.Common.{runs_in, forms_in, hand_size, lions_before, others_forms, others_squares}
use Rattle.dob_rank.proofs.Positions.Blocks.{sum_below_more, hand_bases}
use Rattle.dob_rank.proofs.Marked.Words.{marks_below-le}
use Rattle.dob_rank.proofs.InRuns.RunMarks.{start_small}
use Rattle.dob_rank.proofs.Positions.Numbering.{rank_of_set-block, nth-rank_of_set}
use Rattle.dob_rank.proofs.Positions.Found.{made_in_block}
use Rattle.dob_rank.proofs.InRuns.RunPlaces.{run_start-is, in_set}
use Rattle.dob_rank.proofs.InRuns.RunSums.{runs_by_hand}
use Rattle.dob_rank.proofs.OfFamilies.Present.{size_of-whole, rank_of-whole, HasRank-rank_of}
use Rattle.dob_rank.proofs.OfFamilies.FamilyOrder.{ranked_at}
use Rattle.dob_rank.proofs.OfFamilies.FamilyRuns.{present_before_run, block_present}
use Rattle.dob_rank.proofs.ProfileB.PlaceNumbers.{in_choice}

-- ---- what the search for the lions keeps
pub hand_size_is : (chicks : ℕ) → hand_size B chicks ≡ lions_before B chicks lion_pairs
unfolding hand_size
hand_size_is chicks = refl

pub next_above : (f : ℕ → ℕ) (low high number : ℕ) → low < high → high - low ≤ 1 → number < f high → number < f (low + 1)
next_above f low high number apart close above = subst (λ (x : ℕ). number < f x) (let e : high ≡ low + 1 = omega (arith, apart, close) in e) above

-- ---- the spot in a block

-- the forms of the others, and of the choices those before the run of the lions found
pub record IsBeforeRun (number others before forms : ℕ) : Type 0 where
  pub low : before * others ≤ number
  pub left : number - before * others < forms * others

pub before_run : (chicks lions number others hand before_lions : ℕ) → 0 < others → 0 < hand → hand ≡ hand_size B chicks
    → lions_before B chicks lions ≤ number / others % hand → number / others % hand < lions_before B chicks (lions + 1)
    → before_lions ≡ lions_before B chicks lions
    → IsBeforeRun number others (number / others / hand * hand + before_lions) (forms_in B chicks lions)
before_run chicks lions number others hand before_lions some some_hand hand_is low high is =
    let parts = div-add-mod' (number / others) hand in
    let more = sum_below_more (forms_in B chicks) lions in
    let at = in_choice others number (number / others / hand * hand + before_lions) (forms_in B chicks lions) some (omega (
      arith,
      parts,
      is,
      low,
    )) (omega (arith, parts, is, more, high)) in
    record { low = at.low; left = omega (arith, at.left, mul_comm others (forms_in B chicks lions)) }

less : (start number next size : ℕ) → start + number < next → start + size ≡ next → number < size
less start number next size h e = omega (arith, h, e)

-- a number below the block's is one of its hands
hand_within : (set : PieceSet) (block number others hand : ℕ) → block < product (block_bases set)
    → others ≡ others_squares (digits_of (block_bases set) block) * others_forms (digits_of (block_bases set) block) → 0 < others
    → hand ≡ lions_before B (slice_index (digits_of (block_bases set) block) 0) lion_pairs → 0 < hand
    → marks_below (is_present (family_of set B)) (start_of set block) + number < marks_below (is_present (family_of set B)) (start_of set (block + 1))
    → number / others / hand < product (hand_bases set (digits_of (block_bases set) block))
hand_within set block number others hand within others_is some hand_is some_hand low =
    let whole = block_present (family_of set B) block within in
    let all = product (hand_bases set (digits_of (block_bases set) block)) in
    let below : number < all * hand * others = rw (
      others_is,
      hand_is,
    ) (less (marks_below (is_present (family_of set B)) (start_of set block)) number _ _ low whole) in
    div_below (number / others) hand all some_hand (div_below number others (all * hand) some below)

in_runs : (hands all lions runs : ℕ) → hands < all → lions < lion_pairs → runs ≡ all * lion_pairs → hands * lion_pairs + lions < runs
in_runs hands all lions runs h k e = omega (arith, h, k, e)

rest : (hands lions : ℕ) → lions < lion_pairs → (hands * lion_pairs + lions) % lion_pairs ≡ lions
rest hands lions h = omega (arith, h)

weaker : (lions : ℕ) → lions < lion_pairs → lions ≤ lion_pairs
weaker lions h = omega (arith, h)

weaker_runs : (run runs : ℕ) → run < runs → run ≤ runs
weaker_runs run runs h = omega (arith, h)

whole : (start before number run : ℕ) → start + before ≡ run → before ≤ number → run + (number - before) ≡ start + number
whole start before number run e h = omega (arith, e, h)

-- the spot, where the lions' run has it
spot_in : (set : PieceSet) (block lions number others hand before local : ℕ) → block < product (block_bases set) → lions < lion_pairs
    → others ≡ others_squares (digits_of (block_bases set) block) * others_forms (digits_of (block_bases set) block) → 0 < others
    → hand ≡ lions_before B (slice_index (digits_of (block_bases set) block) 0) lion_pairs → 0 < hand
    → before ≡ lions_before B (slice_index (digits_of (block_bases set) block) 0) lions
    → (number / others / hand * hand + before) * others ≤ number
    → IsPlaceFor (digits_of (block_bases set) block) lions (number - (number / others / hand * hand + before) * others) local
    → marks_below (is_present (family_of set B)) (start_of set block) + number < marks_below (is_present (family_of set B)) (start_of set (block + 1))
    → IsPresentIn (family_of set B) block number (number / others / hand * lion_pairs + lions) local
spot_in set block lions number others hand before local within few others_is some hand_is some_hand before_is upto place low =
    let ob = digits_of (block_bases set) block in
    let hands = hand_within set block number others hand within others_is some hand_is some_hand low in
    let below = in_runs (number / others / hand) (product (hand_bases set ob)) lions (runs_in set block) hands few (runs_by_hand set block) in
    let at = place set block (number / others / hand * lion_pairs + lions) within refl below (rest (number / others / hand) lions few) in
    let start = present_before_run (family_of set B) block (number / others / hand) lions within (weaker lions few) (weaker_runs _ _ below) in
    let known : marks_below (is_present (family_of set B)) (start_of set block) + (number / others / hand * hand + before) * others
    ≡ marks_below (is_present (family_of set B)) (run_start set block (number / others / hand * lion_pairs + lions)) = cc (
      hand_is,
      before_is,
      others_is,
      start,
    ) in
    record {
      run_below = below;
      local_below = at.local_below;
      present = at.present;
      before = at.before ∙ whole (marks_below (is_present (family_of set B)) (start_of set block)) ((number / others / hand * hand + before) * others) number _
          known upto;
    }

pub spot_for : (ob : List ℕ) (lions number others hand before local run : ℕ) → lions < lion_pairs → others ≡ others_squares ob * others_forms ob → 0 < others
    → hand ≡ hand_size B (slice_index ob 0) → 0 < hand → before ≡ lions_before B (slice_index ob 0) lions
    → (number / others / hand * hand + before) * others ≤ number
    → IsPlaceFor ob lions (number - (number / others / hand * hand + before) * others) local → run ≡ number / others / hand * lion_pairs + lions
    → IsSpotFor ob number run local
spot_for ob lions number others hand before local run few others_is some hand_is some_hand before_is upto place run_is = λ set block within ob_is low.
    subst (λ (x : ℕ). IsPresentIn (family_of set B) block number x local) (sym run_is)
    (spot_in set block lions number others hand before local within few
    (others_is ∙ ap (λ (xs : List ℕ). others_squares xs * others_forms xs) ob_is) some
    (hand_is ∙ hand_size_is (slice_index ob 0) ∙ ap (λ (xs : List ℕ). lions_before B (slice_index xs 0) lion_pairs) ob_is) some_hand
    (before_is ∙ ap (λ (xs : List ℕ). lions_before B (slice_index xs 0) lions) ob_is) upto
    (subst (λ (xs : List ℕ). IsPlaceFor xs lions (number - (number / others / hand * hand + before) * others) local) ob_is place) low)

-- ---- the position there
pub ranked_in_block : (set : PieceSet) (block number rank run local : ℕ) (ob : List ℕ) (s : Setup) → block < product (block_bases set)
    → ob ≡ digits_of (block_bases set) block → IsPresentIn (family_of set B) block number run local
    → marks_below (is_present (family_of set B)) (start_of set block) + number ≡ rank
    → HasBlock set (number_of (block_bases set) ob) (run * product (local_bases ob) + local) s → IsRanked (family_of set B) s rank
ranked_in_block set block number rank run local ob s within ob_is at is made =
    let here = made_in_block set block run local ob s within ob_is made in
    let start = run_start-is set block run in
    let rank_is : rank_of_set set s ≡ run_start set block run + local = rank_of_set-block set block (run * run_size set block + local) s here ∙ omega (
      arith,
      start,
    ) in
    let below = in_set set block run local (record { block_below = within; run_below = at.run_below; local_below = at.local_below }) in
    let back : nth set (run_start set block run + local) ≡ s = ap (nth set) (sym rank_is) ∙ nth-rank_of_set set s here.position in
    rw (back, at.before ∙ is) at (ranked_at (family_of set B) (run_start set block run + local) below at.present)

-- ---- the two profiles
pub below_in_A : (family : Family) (rank : ℕ) → family.profile ≡ A → rank < size_of family → rank < size_of_set family.set
below_in_A family rank a low = subst (λ (n : ℕ). rank < n) (size_of-whole family a) low

pub ranked_in_A : (family : Family) (rank : ℕ) (s : Setup) → family.profile ≡ A → IsPositionOfSet family.set s → rank_of_set family.set s ≡ rank → IsRanked
    family s rank
ranked_in_A family rank s a p is =
    let here : IsPositionOf family s = record { of_set = p; allowed = ap (λ (q : Profile). is_allowed q s) a } in
    let rank_is = rank_of-whole family s a ∙ is in
    record { position = here; rank_is = rank_is; count = rw rank_is at (HasRank-rank_of family s here) }

same_family : (family : Family) → family.profile ≡ B → family_of family.set B ≡ family
same_family family b = ap (family_of family.set) (sym b)

pub below_in_B : (family : Family) (rank : ℕ) → family.profile ≡ B → rank < size_of family → rank < size_of (family_of family.set B)
below_in_B family rank b low = subst (λ (f : Family). rank < size_of f) (sym (same_family family b)) low

pub ranked_in_B : (family : Family) (rank : ℕ) (s : Setup) → family.profile ≡ B → IsRanked (family_of family.set B) s rank → IsRanked family s rank
ranked_in_B family rank s b at = subst (λ (f : Family). IsRanked f s rank) (same_family family b) at

-- ---- what the code finds
size_small : (set : PieceSet) → size_of (family_of set B) < 2 ^ 42
unfolding size_of size_of_set
size_small set = grind (arith, marks_below-le, start_small)

-- the number of a rank is below all ranks
pub number_small : (set : PieceSet) (start number rank : ℕ) → start + number ≡ rank → rank < size_of (family_of set B) → number < 2 ^ 42
number_small set start number rank is below = grind (arith, size_small)

pub spot_within : (set : PieceSet) (block number rank : ℕ) (ob : List ℕ) (run local : ℕ) → block < product (block_bases set)
    → ob ≡ digits_of (block_bases set) block → marks_below (is_present (family_of set B)) (start_of set block) + number ≡ rank
    → rank < marks_below (is_present (family_of set B)) (start_of set (block + 1)) → IsSpotFor ob number run local
    → IsPresentIn (family_of set B) block number run local
spot_within set block number rank ob run local within ob_is is below at = grind arith
