-- The forms of chicks by rules B: by the row of a square, by the squares of two chicks, and by those that two lions leave.
use Rattle.dob_rank.proofs.Common.{◌%◌, ◌&&◌, ◌*◌, ◌+◌, ◌-◌, ◌/◌, ◌<◌, ◌^◌, ◌∙◌, ◌≡◌, ◌≤◌, ◌⊎◌, Bool, ap, arith, false, inl, inr, not, refl, subst, suc, sym}
use Rattle.std.specs.Bool.{◌==◌}
use lib.Count.{ones}
use Rattle.dob_rank.proofs.Common.{all_below, all_below-at, bit_and, nat_eq}
use Rattle.dob_rank.proofs.Positions.BlockStarts.{same_number}
use Rattle.dob_rank.proofs.Common.{true, zero, ℕ, div-mul-add, mod-eq_of_lt, mod-mul-add, mul_comm, nat_tests, sum_blocks, sum_same, sum_times}
use Rattle.dob_rank.proofs.Common.{B, choose, free_squares, marks_below, one_if, sum_below, choice_weight, forms_before, forms_in, forms_on, forms_stand, may_have}
use Rattle.dob_rank.proofs.Common.{cases_eq, first_place, second_place, lower_of, higher_of, past, enemy_squares, lion_pairs, hand_size}
use Rattle.dob_rank.specs.Weights.{forms_left, forms_upto, left_square, pairs_before}
use Rattle.dob_rank.proofs.Common.{cases_lt, div-add-mod', mod_below, mul-le-mul}
use Rattle.dob_rank.proofs.Positions.Blocks.{sum_below_more}
use Rattle.dob_rank.proofs.Marked.Words.{marks_below_more, marks_below_none}
use Rattle.dob_rank.proofs.InRuns.RunMarks.{marks_agree}
use Rattle.dob_rank.proofs.ProfileB.Weights.{one_if-and}
use Rattle.dob_rank.proofs.OfFamilies.PlaceCounts.{forms_of_choice}
use Rattle.dob_rank.proofs.ProfileB.FormSquares.{chick_squares_are}
use Rattle.dob_rank.proofs.ProfileB.PairSums.{closed, pair_at, pair_number, pair_rises, pair_sum, pair_total, seen_upto}

-- ---- on one square

-- a square's row says which forms a chick or hen may have
abbrev row_form : ℕ → ℕ → Bool
row_form row zero = not (row == 3)
row_form row (suc zero) = true
row_form row (suc (suc zero)) = not (row == 0)
row_form row (suc (suc (suc n))) = true

by_row : (s row n : ℕ) → s / 3 ≡ row → marks_below (may_have B s) n ≡ marks_below (row_form row) n
by_row s row n e = marks_agree (may_have B s) (row_form row) n (λ k low. own k ∙ ap (λ (r : ℕ). row_form r k) e)
  where
    own : (k : ℕ) → may_have B s k ≡ row_form (s / 3) k
    own zero = refl
    own (suc zero) = refl
    own (suc (suc zero)) = refl
    own (suc (suc (suc n))) = refl

-- how many of the forms before one there are
pub low_on_first : (s f : ℕ) → s / 3 ≡ 0 → f < 3 → f ≡ marks_below (may_have B s) f
unfolding marks_below
low_on_first s zero e low = refl
low_on_first s (suc zero) e low = sym (by_row s 0 1 e)
low_on_first s (suc (suc zero)) e low = sym (by_row s 0 2 e)
low_on_first s (suc (suc (suc n))) e low = absurd (omega (arith, low))

pub high_on_first : (s f : ℕ) → s / 3 ≡ 0 → 3 ≤ f → f ≤ 4 → f - 1 ≡ marks_below (may_have B s) f
unfolding marks_below
high_on_first s (suc (suc (suc zero))) e low upto = sym (by_row s 0 3 e)
high_on_first s (suc (suc (suc (suc zero)))) e low upto = sym (by_row s 0 4 e)
high_on_first s (suc (suc (suc (suc (suc n))))) e low upto = absurd (omega (arith, upto))
high_on_first s f e low upto = absurd (omega (arith, low))

pub on_last : (s f : ℕ) → s / 3 ≡ 3 → f ≤ 4 → f - 1 ≡ marks_below (may_have B s) f
unfolding marks_below
on_last s zero e upto = refl
on_last s (suc zero) e upto = sym (by_row s 3 1 e)
on_last s (suc (suc zero)) e upto = sym (by_row s 3 2 e)
on_last s (suc (suc (suc zero))) e upto = sym (by_row s 3 3 e)
on_last s (suc (suc (suc (suc zero)))) e upto = sym (by_row s 3 4 e)
on_last s (suc (suc (suc (suc (suc n))))) e upto = absurd (omega (arith, upto))

all_counted : (mark : ℕ → Bool) → ((k : ℕ) → mark k ≡ true) → (n : ℕ) → n ≡ marks_below mark n
all_counted mark each zero = sym (marks_below_none mark)
all_counted mark each (suc n) = omega (arith, all_counted mark each n, marks_below_more mark n, ap one_if (each n))

pub on_others : (s f : ℕ) → (s / 3 ≡ 0 → ⊥) → (s / 3 ≡ 3 → ⊥) → f ≡ marks_below (may_have B s) f
on_others s f first last = all_counted (may_have B s) each f
  where
    each : (k : ℕ) → may_have B s k ≡ true
    each zero = grind (arith, nat_tests, last)
    each (suc zero) = refl
    each (suc (suc zero)) = grind (arith, nat_tests, first)
    each (suc (suc (suc n))) = refl

pub three_or_four : (s : ℕ) → (forms_on B s ≡ 3) ⊎ (forms_on B s ≡ 4)
unfolding marks_below
three_or_four s = elim (cases_eq (s / 3) 0) [
  | inl first ↦ inl (by_row s 0 4 first)
  | inr not_first ↦ elim (cases_eq (s / 3) 3) [
    | inl last ↦ inl (by_row s 3 4 last)
    | inr not_last ↦ inr (sym (on_others s 4 not_first not_last))
  ]
]

-- ---- of two chicks

-- the numbers of forms before one: those with an earlier form of the first chick, and those with its form and an earlier one of the second
pub two_forms : (a b q r : ℕ) → q ≤ 4 → r ≤ 4
    → marks_below (forms_stand 2 a b) (q * 4 + r) ≡ marks_below (may_have B a) q * marks_below (may_have B b) 4 + one_if (may_have B a (q % 4))
    * marks_below (may_have B b) r
unfolding marks_below
two_forms a b q r few upto =
    sum_blocks (λ (n : ℕ). one_if (forms_stand 2 a b n)) 4 q r
    ∙ ap (λ (x : ℕ). x + sum_below (λ k. one_if (forms_stand 2 a b (q * 4 + k))) r)
    (sum_same (λ p. sum_below (λ k. one_if (forms_stand 2 a b (p * 4 + k))) 4) (λ p. sum_below (λ k. one_if (may_have B b k)) 4 * one_if (may_have B a p)) q
    (λ p low. row p 4 (omega arith) ∙ ap (λ (n : ℕ). one_if (may_have B a n) * sum_below (λ k. one_if (may_have B b k)) 4) (mod-eq_of_lt (omega (
      arith,
      low,
      few,
    )))
    ∙ mul_comm (one_if (may_have B a p)) (sum_below (λ k. one_if (may_have B b k)) 4))
    ∙ sum_times (sum_below (λ k. one_if (may_have B b k)) 4) (λ p. one_if (may_have B a p)) q
    ∙ mul_comm (sum_below (λ k. one_if (may_have B b k)) 4) (sum_below (λ p. one_if (may_have B a p)) q))
    ∙ ap (λ (x : ℕ). sum_below (λ p. one_if (may_have B a p)) q * sum_below (λ k. one_if (may_have B b k)) 4 + x) (row q r upto)
  where
    row : (p n : ℕ) → n ≤ 4 → sum_below (λ k. one_if (forms_stand 2 a b (p * 4 + k))) n ≡ one_if (may_have B a (p % 4)) * sum_below
        (λ k. one_if (may_have B b k)) n
    row p n few =
        sum_same (λ k. one_if (forms_stand 2 a b (p * 4 + k))) (λ k. one_if (may_have B a (p % 4)) * one_if (may_have B b k)) n
        (λ k low. ap (λ (m : ℕ). one_if (may_have B a (m % 4) && may_have B b ((p * 4 + k) % 4))) (div-mul-add p 4 k (omega (arith, low, few)))
        ∙ ap (λ (m : ℕ). one_if (may_have B a (p % 4) && may_have B b m)) (mod-mul-add p 4 k (omega (arith, low, few)))
        ∙ one_if-and (may_have B a (p % 4)) (may_have B b k))
        ∙ sum_times (one_if (may_have B a (p % 4))) (λ k. one_if (may_have B b k)) n

pub one_form : (a b n : ℕ) → n ≤ 4 → marks_below (forms_stand 1 a b) n ≡ marks_below (may_have B a) n
one_form a b n upto = marks_agree (forms_stand 1 a b) (may_have B a) n (λ k low. ap (may_have B a) (mod-eq_of_lt (omega (arith, low, upto))))

pub no_form : (a b n : ℕ) → marks_below (forms_stand 0 a b) n ≡ n
no_form a b n = sym (all_counted (forms_stand 0 a b) (λ k. refl) n)

-- ---- the choices of the squares that two lions leave

-- as many as the forms of their squares
pub weight_is : (lions chicks c first second : ℕ) → lions < lion_pairs → chicks ≤ 2 → c < choose free_squares chicks
    → first ≡ left_square lions (first_place free_squares chicks c) → second ≡ left_square lions (second_place free_squares chicks c)
    → choice_weight B lions chicks c ≡ marks_below (forms_stand chicks first second) (4 ^ chicks)
weight_is lions chicks c first second low few below a b =
    sym (forms_of_choice B lions chicks c below) ∙ marks_agree _ (forms_stand chicks first second) (4 ^ chicks)
    (λ n _. chick_squares_are lions chicks c first second low few below a b n)

weight_of_one : (lions c : ℕ) → lions < lion_pairs → c < 10 → choice_weight B lions 1 c ≡ forms_left lions c
weight_of_one lions c low below =
    weight_is lions 1 c (left_square lions c) (left_square lions 12) low (omega arith) (omega (arith, below)) refl refl
    ∙ one_form (left_square lions c) (left_square lions 12) 4 (omega arith)

weight_of_two : (lions c : ℕ) → lions < lion_pairs → c < 45
    → choice_weight B lions 2 c ≡ forms_left lions (lower_of 10 c) * forms_left lions (higher_of 10 c)
weight_of_two lions c low below =
    let a = left_square lions (lower_of 10 c) in
    let b = left_square lions (higher_of 10 c) in
    let more = marks_below_more (may_have B a) 3 in
    weight_is lions 2 c a b low (omega arith) (omega (arith, below)) refl refl
    ∙ two_forms a b 3 4 (omega arith) (omega arith) ∙ joined (marks_below (may_have B a) 3) (one_if (may_have B a 3)) (forms_on B a) (forms_on B b) more
  where
    joined : (x y z w : ℕ) → z ≡ x + y → x * w + y * w ≡ z * w
    joined x y z w e = rw e (grind arith)

-- what stands before a choice
pub before_one : (lions c : ℕ) → lions < lion_pairs → c ≤ 10 → forms_before B lions 1 c ≡ forms_upto lions c
before_one lions c low upto = sum_same (choice_weight B lions 1) (forms_left lions) c (λ k below. weight_of_one lions k low (omega (arith, below, upto)))

by_squares : (lions c : ℕ) → lions < lion_pairs → c ≤ 45
    → forms_before B lions 2 c ≡ sum_below (λ d. forms_left lions (lower_of 10 d) * forms_left lions (higher_of 10 d)) c
by_squares lions c low upto =
    sum_same (choice_weight B lions 2) (λ d. forms_left lions (lower_of 10 d) * forms_left lions (higher_of 10 d)) c
    (λ k below. weight_of_two lions k low (omega (arith, below, upto)))

pub before_two : (lions c : ℕ) → lions < lion_pairs → c < 45
    → forms_before B lions 2 c ≡ pairs_before lions (lower_of 10 c)
    + forms_left lions (lower_of 10 c) * (forms_upto lions (higher_of 10 c) - forms_upto lions (suc (lower_of 10 c)))
before_two lions c low below = by_squares lions c low (omega (arith, below)) ∙ pair_sum (forms_left lions) c below

-- and in a run
abbrev pub run_forms : ℕ → ℕ → ℕ
run_forms zero lions = 1
run_forms (suc zero) lions = forms_upto lions 10
run_forms (suc (suc chicks)) lions = pairs_before lions 10

pub in_run : (chicks lions : ℕ) → chicks ≤ 2 → lions < lion_pairs → forms_in B chicks lions ≡ run_forms chicks lions
in_run zero lions few low = sum_same (choice_weight B lions 0) (λ (c : ℕ). 1) 1 (λ k below. weight_is lions 0 k (left_square lions 12) (left_square lions 12) low
    (omega arith) below refl refl ∙ no_form (left_square lions 12) (left_square lions 12) 1)
in_run (suc zero) lions few low = before_one lions 10 low (omega arith)
in_run (suc (suc zero)) lions few low = by_squares lions 45 low (omega arith) ∙ pair_total (forms_left lions)
in_run (suc (suc (suc n))) lions few low = absurd (omega (arith, few))

-- ---- the forms by the squares of rows 1 and 4 that are left
abbrev far_left : ℕ → ℕ → ℕ → ℕ
far_left own enemy square =
    bit_and (bit_and (bit_and 3591 (18446744073709551615 - 1 * 2 ^ own % 2 ^ 64)) (18446744073709551615 - 1 * 2 ^ enemy % 2 ^ 64)) (1 * 2 ^ square % 2 ^ 64 - 1)

abbrev is_counted : ℕ → ℕ → ℕ → Bool
is_counted own digit k =
    nat_eq (forms_upto (own * enemy_squares + digit) k + ones (far_left own (past own digit) (left_square (own * enemy_squares + digit) k))) (4 * k)

all_counted_so : all_below (λ own. all_below (λ digit. all_below (is_counted own digit) 11) 11) 9 ≡ true
unfolding marks_below ones
all_counted_so = refl

pub ones_are : (lions k enemy square : ℕ) → lions < lion_pairs → k ≤ 10 → enemy ≡ past (lions / enemy_squares) (lions % enemy_squares)
    → square ≡ left_square lions k → forms_upto lions k + ones (far_left (lions / enemy_squares) enemy square) ≡ 4 * k
ones_are lions k enemy square low upto enemy_is square_is =
    let own = lions / enemy_squares in
    let digit = lions % enemy_squares in
    let whole : own * enemy_squares + digit ≡ lions = omega arith in
    let at = all_below-at (is_counted own digit) 11 k (all_below-at (λ m. all_below (is_counted own m) 11) 11 digit
    (all_below-at (λ n. all_below (λ m. all_below (is_counted n m) 11) 11) 9 own all_counted_so (omega (arith, low))) (omega arith)) (omega (arith, upto)) in
    rw (enemy_is, square_is) (subst (λ (l : ℕ). forms_upto l k + ones (far_left own (past own digit) (left_square l k)) ≡ 4 * k) whole (same_number _ _ at))

-- ---- all runs of a hand
abbrev pub hand_of : ℕ → ℕ
hand_of zero = 99
hand_of (suc zero) = 3450
hand_of (suc (suc n)) = 54000

summed : all_below (λ chicks. nat_eq (sum_below (run_forms chicks) lion_pairs) (hand_of chicks)) 3 ≡ true
unfolding marks_below
summed = refl

pub hand_size_is : (chicks : ℕ) → chicks ≤ 2 → hand_size B chicks ≡ hand_of chicks
unfolding hand_size
hand_size_is chicks few =
    sum_same (forms_in B chicks) (run_forms chicks) lion_pairs (λ lions low. in_run chicks lions few low)
    ∙ same_number _ _ (all_below-at (λ n. nat_eq (sum_below (run_forms n) lion_pairs) (hand_of n)) 3 chicks summed (omega (arith, few)))

-- ---- what the code finds

pub two_chicks : (chicks a b n x y z : ℕ) (on : Bool) → chicks ≡ 2 → n ≤ 4 ^ chicks → x ≡ marks_below (may_have B a) (n / 4)
    → y ≡ marks_below (may_have B b) 4 → on ≡ may_have B a (n / 4 % 4) → z ≡ marks_below (may_have B b) (n % 4)
    → x * y + one_if on * z ≡ marks_below (forms_stand chicks a b) n
two_chicks chicks a b n x y z on two upto x_is y_is on_is z_is =
    let most : n ≤ 16 = rw two at upto in
    rw (x_is, y_is, on_is, z_is, two) (sym (ap (marks_below (forms_stand 2 a b)) (let e : n ≡ n / 4 * 4 + n % 4 = omega arith in e)
    ∙ two_forms a b (n / 4) (n % 4) (omega (arith, most)) (omega arith)))

pub with_form : (x y z w : ℕ) (on : Bool) → on ≡ true → x * y + one_if on * z ≡ w → x * y + z ≡ w
with_form x y z w on e is = (let sum : x * y + 1 * z ≡ w = rw e at is in omega (arith, sum))

pub without_form : (x y z w : ℕ) (on : Bool) → on ≡ false → x * y + one_if on * z ≡ w → x * y ≡ w
without_form x y z w on e is = (let sum : x * y + 0 * z ≡ w = rw e at is in omega (arith, sum))

-- the sum over pairs by what is seen
pub record ArePairs (lions k seen all : ℕ) : Type 0 where
  pub no_less : 12 * k ≤ seen * (seen + 7)
  pub no_more : (seen * (seen + 7) - 12 * k) / 2 ≤ seen * all
  pub value_is : seen * all - (seen * (seen + 7) - 12 * k) / 2 ≡ pairs_before lions k

pub pairs_are : (lions k seen all : ℕ) → k ≤ 10 → seen ≡ forms_upto lions k → all ≡ forms_upto lions free_squares → ArePairs lions k seen all
pairs_are lions k seen all upto seen_is all_is =
    let at = closed (forms_left lions) (λ j _. three_or_four (left_square lions j)) k upto in
    let by = of_twice (pairs_before lions k) seen all (subst (λ (s : ℕ). 2 * pairs_before lions k + s * (s + 7) ≡ 2 * (s * all) + 12 * k) (sym seen_is)
    (subst (λ (t : ℕ). 2 * pairs_before lions k + forms_upto lions k * (forms_upto lions k + 7) ≡ 2 * (forms_upto lions k * t) + 12 * k) (sym all_is) at.twice))
    (subst (λ (s : ℕ). pairs_before lions k ≤ s * all) (sym seen_is)
    (subst (λ (t : ℕ). pairs_before lions k ≤ forms_upto lions k * t) (sym all_is) at.few)) in
    record { no_less = by.0; no_more = by.1.0; value_is = by.1.1 }
  where
    of_twice : (b s t : ℕ) → 2 * b + s * (s + 7) ≡ 2 * (s * t) + 12 * k → b ≤ s * t
        → (12 * k ≤ s * (s + 7)) × (((s * (s + 7) - 12 * k) / 2 ≤ s * t) × (s * t - (s * (s + 7) - 12 * k) / 2 ≡ b))
    of_twice b s t e h = by_products b (s * (s + 7)) (s * t) e h
      where
        by_products : (b x y : ℕ) → 2 * b + x ≡ 2 * y + 12 * k → b ≤ y → (12 * k ≤ x) × (((x - 12 * k) / 2 ≤ y) × (y - (x - 12 * k) / 2 ≡ b))
        by_products b x y e h = (omega (arith, e, h), (omega (arith, e, h), omega (arith, e, h)))

-- what stands before a pair
pub record IsBeforePair (lions number first second seen own upto before : ℕ) : Type 0 where
  pub rises : seen ≤ upto
  pub value_is : before + own * (upto - seen) ≡ forms_before B lions 2 number

pub before_pair_is : (lions number first second seen own upto before : ℕ) → lions < lion_pairs → number < 45 → first ≡ lower_of 10 number
    → second ≡ higher_of 10 number → seen ≡ forms_upto lions (first + 1) → own ≡ forms_on B (left_square lions first) → upto ≡ forms_upto lions second
    → before ≡ pairs_before lions first → IsBeforePair lions number first second seen own upto before
before_pair_is lions number first second seen own upto before low below first_is second_is seen_is own_is upto_is before_is =
    let rising : suc (lower_of 10 number) ≤ higher_of 10 number = pair_rises number below in
    let more : forms_upto lions (first + 1) ≡ forms_upto lions (suc (lower_of 10 number))
    = ap (forms_upto lions) (let e : first + 1 ≡ suc (lower_of 10 number) = omega (arith, first_is) in e) in
    record {
      rises = rw (seen_is ∙ more, upto_is ∙ ap (forms_upto lions) second_is) (seen_upto (forms_left lions) (suc (lower_of 10 number)) (higher_of 10 number) rising);
      value_is = sums before (pairs_before lions (lower_of 10 number)) own (forms_left lions (lower_of 10 number)) upto (forms_upto lions (higher_of 10 number))
          seen (forms_upto lions (suc (lower_of 10 number))) (before_is ∙ ap (pairs_before lions) first_is) (own_is ∙ ap (forms_left lions) first_is)
          (upto_is ∙ ap (forms_upto lions) second_is) (seen_is ∙ more) ∙ sym (before_two lions number low below);
    }
  where
    sums : (a b c d e f g h : ℕ) → a ≡ b → c ≡ d → e ≡ f → g ≡ h → a + c * (e - g) ≡ b + d * (f - h)
    sums a b c d e f g h i j k l = cc

-- ---- the pair in whose forms a number is
low_part : (before own number vj s q m : ℕ) → q * own + m ≡ number - before → before ≤ number → vj ≤ s + q → before + own * (vj - s) ≤ number
low_part before own number vj s q m e h k =
    let most : own * (vj - s) ≤ own * q = mul-le-mul (let same : own ≤ own = omega arith in same) (let few : vj - s ≤ q = omega (arith, k) in few) in
    omega (arith, e, h, most, mul_comm own q)

high_part : (before own number vj w s q m : ℕ) → q * own + m ≡ number - before → m < own → s + q < vj + w → s ≤ vj
    → number < before + own * (vj - s) + own * w
high_part before own number vj w s q m e h k rises =
    let most : own * (q + 1) ≤ own * (vj - s + w) = mul-le-mul (let same : own ≤ own = omega arith in same) (let few : q + 1 ≤ vj - s + w = omega (arith, k, rises)
    in few) in
    omega (arith, e, h, most, parts own q, sum own (vj - s) w)
  where
    parts : (a b : ℕ) → a * (b + 1) ≡ b * a + a
    parts a b = grind arith

    sum : (a b c : ℕ) → a * (b + c) ≡ a * b + a * c
    sum a b c = grind arith

some_own : (number before own t : ℕ) → before ≤ number → number < before + own * t → 0 < own
some_own number before zero t h k = absurd (omega (arith, h, k))
some_own number before (suc n) t h k = omega arith

pub record IsInPair (lions number c : ℕ) : Type 0 where
  pub low : forms_before B lions 2 c ≤ number
  pub high : number < forms_before B lions 2 (c + 1)

pub pair_found : (lions number first second seen before all own : ℕ) → lions < lion_pairs → first < 10 → second < 10
    → number < before + own * (all - (seen + own)) → before ≤ number → seen ≡ forms_upto lions first → before ≡ pairs_before lions first
    → own ≡ forms_left lions first → forms_upto lions second ≤ seen + own + (number - before) / own
    → seen + own + (number - before) / own < forms_upto lions (second + 1) → IsInPair lions number (pair_number first second)
pair_found lions number first second seen before all own few on within next low seen_is before_is own_is at_least less =
    let some = some_own number before own (all - (seen + own)) low next in
    let s : seen + own ≡ forms_upto lions (suc first) = sum_is seen own (forms_upto lions first) (forms_left lions first) seen_is own_is in
    let rising = in_order (cases_lt first second) s in
    let at = pair_at first second rising within in
    let parts = div-add-mod' (number - before) own in
    let upto = seen_upto (forms_left lions) (suc first) second rising in
    let value = before_two lions (pair_number first second) few at.below ∙ by_squares at.first at.second in
    let weight = weight_of_two lions (pair_number first second) few at.below ∙ product_is at.first at.second in
    let q = (number - before) / own in
    record {
      low = rw value (low_part before own number (forms_upto lions second) (seen + own) q ((number - before) % own) parts low at_least);
      high = subst (λ (n : ℕ). number < n) (sym (sum_below_more (choice_weight B lions 2) (pair_number first second) ∙ ap (λ (n : ℕ). n + choice_weight B lions 2
          (pair_number first second)) value ∙ ap (λ (n : ℕ). before + own * (forms_upto lions second - (seen + own)) + n) weight))
          (high_part before own number (forms_upto lions second) (forms_left lions second) (seen + own) q ((number - before) % own) parts
          (mod_below (number - before) own some) (next_is less) (upto_is s upto));
    }
  where
    sum_is : (a b c d : ℕ) → a ≡ c → b ≡ d → a + b ≡ c + d
    sum_is a b c d e f = cc

    upto_is : seen + own ≡ forms_upto lions (suc first) → forms_upto lions (suc first) ≤ forms_upto lions second → seen + own ≤ forms_upto lions second
    upto_is e h = subst (λ (n : ℕ). n ≤ forms_upto lions second) (sym e) h

    next_is : seen + own + (number - before) / own < forms_upto lions (second + 1)
        → seen + own + (number - before) / own < forms_upto lions second + forms_left lions second
    next_is h = subst (λ (n : ℕ). seen + own + (number - before) / own < n) (sum_below_more (forms_left lions) second) h

    clash : (a b c d : ℕ) → a + b < c → c ≤ d → a ≡ d → ⊥
    clash a b c d h k e = omega (arith, h, k, e)

    in_order : (first < second) ⊎ (second ≤ first) → seen + own ≡ forms_upto lions (suc first) → suc first ≤ second
    in_order (inl h) s = h
    in_order (inr h) s = absurd (clash (seen + own) ((number - before) / own) (forms_upto lions (second + 1)) (forms_upto lions (suc first)) less
        (seen_upto (forms_left lions) (second + 1) (suc first) (let e : second + 1 ≤ suc first = omega (arith, h) in e)) s)

    squares : (i j : ℕ) → i ≡ first → j ≡ second → pairs_before lions i + forms_left lions i * (forms_upto lions j - forms_upto lions (suc i))
        ≡ before + own * (forms_upto lions second - (seen + own))
    squares i j e f = ap (λ (n : ℕ). pairs_before lions n + forms_left lions n * (forms_upto lions j - forms_upto lions (suc n))) e
        ∙ ap (λ (n : ℕ). pairs_before lions first + forms_left lions first * (forms_upto lions n - forms_upto lions (suc first))) f
        ∙ ap (λ (n : ℕ). n + forms_left lions first * (forms_upto lions second - forms_upto lions (suc first))) (sym before_is)
        ∙ ap (λ (n : ℕ). before + n * (forms_upto lions second - forms_upto lions (suc first))) (sym own_is)
        ∙ ap (λ (n : ℕ). before + own * (forms_upto lions second - n)) (sym (sum_is seen own (forms_upto lions first) (forms_left lions first) seen_is own_is))

    by_squares : lower_of 10 (pair_number first second) ≡ first → higher_of 10 (pair_number first second) ≡ second
        → pairs_before lions (lower_of 10 (pair_number first second)) + forms_left lions (lower_of 10 (pair_number first second))
        * (forms_upto lions (higher_of 10 (pair_number first second)) - forms_upto lions (suc (lower_of 10 (pair_number first second))))
        ≡ before + own * (forms_upto lions second - (seen + own))
    by_squares e f = squares (lower_of 10 (pair_number first second)) (higher_of 10 (pair_number first second)) e f

    product_is : lower_of 10 (pair_number first second) ≡ first → higher_of 10 (pair_number first second) ≡ second
        → forms_left lions (lower_of 10 (pair_number first second)) * forms_left lions (higher_of 10 (pair_number first second)) ≡ own * forms_left lions second
    product_is e f = ap (λ (n : ℕ). forms_left lions n * forms_left lions (higher_of 10 (pair_number first second))) e
        ∙ ap (λ (n : ℕ). forms_left lions first * forms_left lions n) f ∙ ap (λ (n : ℕ). n * forms_left lions second) (sym own_is)

-- one more first square
pub next_first : (lions first before own all upto : ℕ) → before ≡ pairs_before lions first → own ≡ forms_left lions first → all ≡ forms_upto lions free_squares
    → upto ≡ forms_upto lions (first + 1) → before + own * (all - upto) ≡ pairs_before lions (first + 1)
next_first lions first before own all upto before_is own_is all_is upto_is =
    sums before (pairs_before lions first) own (forms_left lions first) all (forms_upto lions free_squares) upto (forms_upto lions (suc first)) before_is own_is all_is
    (upto_is ∙ ap (forms_upto lions) (let e : first + 1 ≡ suc first = omega arith in e))
    ∙ sym (sum_below_more (λ f. forms_left lions f * (forms_upto lions free_squares - forms_upto lions (suc f))) first)
  where
    sums : (a b c d e f g h : ℕ) → a ≡ b → c ≡ d → e ≡ f → g ≡ h → a + c * (e - g) ≡ b + d * (f - h)
    sums a b c d e f g h i j k l = cc

pub one_more_left : (lions first seen own : ℕ) → seen ≡ forms_upto lions first → own ≡ forms_left lions first → seen + own ≡ forms_upto lions (first + 1)
one_more_left lions first seen own seen_is own_is = sums seen (forms_upto lions first) own (forms_left lions first) seen_is own_is ∙ sym (sum_below_more (forms_left lions) first)
  where
    sums : (a b c d : ℕ) → a ≡ b → c ≡ d → a + c ≡ b + d
    sums a b c d e f = cc

pub none_left : (lions number first before : ℕ) → number < pairs_before lions free_squares → 10 ≤ first → first ≤ 10 → before ≡ pairs_before lions first
    → before ≤ number → ⊥
none_left lions number first before fits out upto is low =
    over number before (pairs_before lions free_squares) fits (is ∙ ap (pairs_before lions) (let e : first ≡ 10 = omega (arith, out, upto) in e)) low
  where
    over : (a b c : ℕ) → a < c → b ≡ c → b ≤ a → ⊥
    over a b c h e k = omega (arith, h, e, k)
