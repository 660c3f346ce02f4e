-- Choices of the chicks' squares and forms that are their own mirror image, where both lions stand on column b: computed for each of the nine pairs of lions.
use Rattle.dob_rank.proofs.Common.{◌%◌, ◌&&◌, ◌*◌, ◌+◌, ◌-◌, ◌/◌, ◌<◌, ◌^◌, ◌||◌, ◌∙◌, ◌∷◌, ◌≡◌, ◌≤◌, Bool, List, [], ap, arith, cond, eqb, false, length}
use Rattle.dob_rank.proofs.Common.{map, not, refl, subst, suc, sym, true, zero, ℕ, and_parts, cases_lt, inl, inr, lt-ltb, le-ltb, eqb-true, mul_assoc}
use Rattle.dob_rank.proofs.Common.{mul_comm, sum_same, sum_times, one_if, all_below, all_below-at, Profile, A, B, choose, count}
use Rattle.dob_rank.proofs.Common.{enemy_squares, own_squares, free_squares, lion_pairs, run_kind, settle, sum_below, nat_tests, are_allowed, length-map, ◌⊎◌}
use Rattle.dob_rank.proofs.Common.{may_have, enemy_square}
use Rattle.dob_rank.specs.declared.runs.RunKind.{RunKind}
use Rattle.dob_rank.specs.declared.runs.RunKind.TheVariants.{First, Later, Mixed}
use Rattle.dob_lists.proofs.Images.{sum_plus}
use Rattle.dob_pieces.proofs.Lists.{same_list, same_list-true}
use Rattle.dob_rank.specs.EvenWays.{middle_forms, pair_forms}
use Rattle.dob_rank.proofs.Boards.LayerCounts.{length-settle}
use Rattle.dob_rank.proofs.Boards.Settled.{AreShown, hide, settle-settles}
use Rattle.dob_rank.proofs.InRuns.Lions.{lions_layers, lions_layers-pair, mirror_layers, pair_layers}
use Rattle.dob_rank.proofs.InRuns.EvenChoices.{choices_placed, count_plain, counts_plain, even_plain, is_even, is_odd_one, is_open, leaves_middles, leaves_pairs}
use Rattle.dob_rank.proofs.InRuns.EvenChoices.{middles, none_of, over_choices, pairs, plain, split_even, sum_placed, IsEvenBoard}
use Rattle.dob_rank.proofs.InRuns.EvenForms.{alone, image_alone, image_form, layers_shown}

-- ---- what is computed

-- how many numbers of forms, below a bound, are allowed and their own mirror image
abbrev pub chick_forms : Profile → List ℕ → ℕ → ℕ
chick_forms profile rs bound = sum_below (λ f. one_if (are_allowed (may_have profile) 4 2 f 0 rs && eqb f (image_form 2 rs f))) bound

-- those of the choices that leave all pairs, and a pair less
abbrev forms_of_middles : Profile → ℕ → List ℕ → ℕ
forms_of_middles profile p rs = chick_forms profile rs (cond (leaves_middles 4 rs) (4 ^ p) 0)

abbrev forms_of_pairs : Profile → ℕ → List ℕ → ℕ
forms_of_pairs profile p rs = chick_forms profile rs (cond (leaves_pairs 4 rs) (4 ^ p) 0)

abbrev is_mixed : RunKind → Bool
is_mixed Mixed = true
is_mixed First = false
is_mixed Later = false

abbrev lions_at : ℕ → ℕ → ℕ
lions_at own n = own * enemy_squares + n

-- the open squares, where the lions don't decide
abbrev open_squares : ℕ → ℕ → List Bool
open_squares own n = cond (is_mixed (run_kind (lions_at own n))) (map is_open (hide 2 (pair_layers own n))) []

abbrev is_even_pair : List ℕ → Bool
is_even_pair ls = (eqb (middles ls) 2 && eqb (pairs ls) 4) && (eqb (count 5 ls) free_squares && same_list (mirror_layers ls) ls)

abbrev unless_mixed : ℕ → ℕ → Bool → Bool
unless_mixed own n told = not (is_mixed (run_kind (lions_at own n))) || told

abbrev even_told : ℕ → ℕ → Bool
even_told own n = unless_mixed own n (is_even_pair (hide 2 (pair_layers own n)))

abbrev odd_told : ℕ → ℕ → ℕ → Bool
odd_told p own n = unless_mixed own n (eqb (sum_placed (λ rs. one_if (is_odd_one p 2 4 rs)) p (open_squares own n)) 0)

abbrev middles_told : Profile → ℕ → ℕ → ℕ → Bool
middles_told profile p own n =
    unless_mixed own n (eqb (sum_placed (forms_of_middles profile p) p (open_squares own n)) (middle_forms profile p own (enemy_square own n)))

abbrev pairs_told : Profile → ℕ → ℕ → ℕ → Bool
pairs_told profile p own n = unless_mixed own n (eqb (sum_placed (forms_of_pairs profile p) p (open_squares own n)) (pair_forms profile p))

abbrev on_lions : (ℕ → ℕ → Bool) → Bool
on_lions told = all_below (λ own. all_below (told own) enemy_squares) own_squares

at_lions : (told : ℕ → ℕ → Bool) (own n : ℕ) → on_lions told ≡ true → own < own_squares → n < enemy_squares → told own n ≡ true
at_lions told own n all first second =
    all_below-at (told own) enemy_squares n (all_below-at (λ m. all_below (told m) enemy_squares) own_squares own all first) second

even_all : on_lions even_told ≡ true
even_all = refl

odd_0 : on_lions (odd_told 0) ≡ true
odd_0 = refl

odd_1 : on_lions (odd_told 1) ≡ true
odd_1 = refl

odd_2 : on_lions (odd_told 2) ≡ true
odd_2 = refl

middles_a0 : on_lions (middles_told A 0) ≡ true
middles_a0 = refl

middles_a1 : on_lions (middles_told A 1) ≡ true
middles_a1 = refl

middles_a2 : on_lions (middles_told A 2) ≡ true
middles_a2 = refl

middles_b0 : on_lions (middles_told B 0) ≡ true
middles_b0 = refl

middles_b1 : on_lions (middles_told B 1) ≡ true
middles_b1 = refl

middles_b2 : on_lions (middles_told B 2) ≡ true
middles_b2 = refl

pairs_a0 : on_lions (pairs_told A 0) ≡ true
pairs_a0 = refl

pairs_a1 : on_lions (pairs_told A 1) ≡ true
pairs_a1 = refl

pairs_a2 : on_lions (pairs_told A 2) ≡ true
pairs_a2 = refl

pairs_b0 : on_lions (pairs_told B 0) ≡ true
pairs_b0 = refl

pairs_b1 : on_lions (pairs_told B 1) ≡ true
pairs_b1 = refl

pairs_b2 : on_lions (pairs_told B 2) ≡ true
pairs_b2 = refl

odd_all : (p : ℕ) → p ≤ 2 → on_lions (odd_told p) ≡ true
odd_all zero few = odd_0
odd_all (suc zero) few = odd_1
odd_all (suc (suc zero)) few = odd_2
odd_all (suc (suc (suc p))) few = absurd (omega (arith, few))

middles_all : (profile : Profile) (p : ℕ) → p ≤ 2 → on_lions (middles_told profile p) ≡ true
middles_all A zero few = middles_a0
middles_all A (suc zero) few = middles_a1
middles_all A (suc (suc zero)) few = middles_a2
middles_all A (suc (suc (suc p))) few = absurd (omega (arith, few))
middles_all B zero few = middles_b0
middles_all B (suc zero) few = middles_b1
middles_all B (suc (suc zero)) few = middles_b2
middles_all B (suc (suc (suc p))) few = absurd (omega (arith, few))

pairs_all : (profile : Profile) (p : ℕ) → p ≤ 2 → on_lions (pairs_told profile p) ≡ true
pairs_all A zero few = pairs_a0
pairs_all A (suc zero) few = pairs_a1
pairs_all A (suc (suc zero)) few = pairs_a2
pairs_all A (suc (suc (suc p))) few = absurd (omega (arith, few))
pairs_all B zero few = pairs_b0
pairs_all B (suc zero) few = pairs_b1
pairs_all B (suc (suc zero)) few = pairs_b2
pairs_all B (suc (suc (suc p))) few = absurd (omega (arith, few))

-- ---- what is told of a pair of lions
mixed_told : (own n : ℕ) (told : Bool) → run_kind (lions_at own n) ≡ Mixed → unless_mixed own n told ≡ true → told ≡ true
mixed_told own n told is all = subst (λ (k : RunKind). (not (is_mixed k) || told) ≡ true) is all

opened : (own n : ℕ) → run_kind (lions_at own n) ≡ Mixed → open_squares own n ≡ map is_open (hide 2 (pair_layers own n))
opened own n is = ap (λ (k : RunKind). cond (is_mixed k) (map is_open (hide 2 (pair_layers own n))) []) is

shown_hidden : (t : ℕ) (ls : List ℕ) → AreShown t (hide t ls)
shown_hidden t [] = tt
shown_hidden t (l ∷ ls) = elim (cases_lt l t) [
  | inl lt ↦ rw (lt-ltb l t lt) (inl lt, shown_hidden t ls)
  | inr ge ↦ rw (le-ltb l t ge) (inr refl, shown_hidden t ls)
]

-- the board of the lions alone is even, and leaves two squares of column b and four pairs
pub record IsLionBoard (ls : List ℕ) : Type 0 where
  pub even : IsEvenBoard 2 ls
  pub middles_are : middles ls ≡ 2
  pub pairs_are : pairs ls ≡ 4
  pub open_are : count 5 ls ≡ free_squares

board_told : (own n : ℕ) → own < own_squares → n < enemy_squares → run_kind (lions_at own n) ≡ Mixed → IsLionBoard (hide 2 (pair_layers own n))
board_told own n first second is =
    let here = mixed_told own n (is_even_pair (hide 2 (pair_layers own n))) is (at_lions even_told own n even_all first second) in
    let sides = and_parts _ _ here in
    let counts = and_parts _ _ sides.0 in
    let more = and_parts _ _ sides.1 in
    record {
      even = record { long = refl; shown = shown_hidden 2 (pair_layers own n); even = same_list-true _ _ more.1 };
      middles_are = eqb-true _ 2 counts.0;
      pairs_are = eqb-true _ 4 counts.1;
      open_are = eqb-true _ free_squares more.0;
    }

-- ---- chicks by plain layers
eq_plain : (l : ℕ) → eqb (plain 2 l) 2 ≡ eqb l 2
eq_plain l = grind (arith, nat_tests)

alone_plain : (ls : List ℕ) → map (alone 2) (map (plain 2) ls) ≡ map (alone 2) ls
alone_plain [] = refl
alone_plain (l ∷ ls) = join _ _ _ _ (ap (λ (b : Bool). cond b 2 5) (eq_plain l)) (alone_plain ls)
  where
    join : (x y : ℕ) (xs ys : List ℕ) → x ≡ y → xs ≡ ys → x ∷ xs ≡ y ∷ ys
    join x y xs ys e f = cc

layers_plain : (ls : List ℕ) → AreShown 3 (map (plain 2) ls)
layers_plain [] = tt
layers_plain (l ∷ ls) = (few l, layers_plain ls)
  where
    few : (l : ℕ) → (plain 2 l < 3) ⊎ (plain 2 l ≡ 5)
    few l = grind (arith, nat_tests)

allowed_plain : (ok : ℕ → ℕ → Bool) (n s : ℕ) (ls : List ℕ) → are_allowed ok 4 2 n s (map (plain 2) ls) ≡ are_allowed ok 4 2 n s ls
allowed_plain ok n s [] = refl
allowed_plain ok n s (l ∷ ls) = join _ _ _ _ head (allowed_plain ok n (suc s) ls)
  where
    join : (a b c d : Bool) → a ≡ b → c ≡ d → (a && c) ≡ (b && d)
    join a b c d e f = cc

    head : cond (eqb (plain 2 l) 2) (ok s (n / 4 ^ count 2 (map (plain 2) ls) % 4)) true ≡ cond (eqb l 2) (ok s (n / 4 ^ count 2 ls % 4)) true
    head = ap (λ (b : Bool). cond b (ok s (n / 4 ^ count 2 (map (plain 2) ls) % 4)) true) (eq_plain l)
        ∙ ap (λ (m : ℕ). cond (eqb l 2) (ok s (n / 4 ^ m % 4)) true) (count_plain 2 ls)

image_plain : (f : ℕ) (ls : List ℕ) → length ls ≡ 12 → AreShown 3 ls → image_form 2 (map (plain 2) ls) f ≡ image_form 2 ls f
image_plain f ls long shown =
    image_alone 2 f (map (plain 2) ls) (omega arith) (length-map ls (plain 2) ∙ long) (layers_shown 3 (map (plain 2) ls) (omega arith) (layers_plain ls))
    ∙ ap (λ (xs : List ℕ). image_form 2 xs f) (alone_plain ls)
    ∙ sym (image_alone 2 f ls (omega arith) long (layers_shown 3 ls (omega arith) shown))

forms_plain : (profile : Profile) (ls : List ℕ) (bound : ℕ) → length ls ≡ 12 → AreShown 3 ls
    → chick_forms profile (map (plain 2) ls) bound ≡ chick_forms profile ls bound
forms_plain profile ls bound long shown =
    sum_same (λ f. one_if (are_allowed (may_have profile) 4 2 f 0 (map (plain 2) ls) && eqb f (image_form 2 (map (plain 2) ls) f)))
    (λ f. one_if (are_allowed (may_have profile) 4 2 f 0 ls && eqb f (image_form 2 ls f))) bound
    (λ f low. ap (λ (b : Bool). one_if (b && eqb f (image_form 2 (map (plain 2) ls) f))) (allowed_plain (may_have profile) f 0 ls)
    ∙ ap (λ (m : ℕ). one_if (are_allowed (may_have profile) 4 2 f 0 ls && eqb f m)) (image_plain f ls long shown))

gated : (profile : Profile) (p : ℕ) (xs : List ℕ) (on : Bool) → one_if on * chick_forms profile xs (4 ^ p) ≡ chick_forms profile xs (cond on (4 ^ p) 0)
gated profile p xs true = (let one : 1 * chick_forms profile xs (4 ^ p) ≡ chick_forms profile xs (4 ^ p) = omega arith in one)
gated profile p xs false = (let none : 0 * chick_forms profile xs (4 ^ p) ≡ 0 = omega arith in none)

-- ---- the sum over the even choices of what may follow them
two_low : 2 < 5
two_low = omega arith

whole_lions : (lions : ℕ) → lions_at (lions / enemy_squares) (lions % enemy_squares) ≡ lions
whole_lions lions = omega arith

own_low : (lions : ℕ) → lions < lion_pairs → lions / enemy_squares < own_squares
own_low lions below = omega arith

enemy_low : (lions : ℕ) → lions % enemy_squares < enemy_squares
enemy_low lions = omega arith

pub factor : (f : ℕ → ℕ) (x n total : ℕ) → sum_below f n ≡ total → sum_below (λ c. f c * x) n ≡ total * x
factor f x n total is =
    sum_same (λ c. f c * x) (λ c. x * f c) n (λ c below. mul_comm (f c) x) ∙ sum_times x f n ∙ ap (λ (y : ℕ). x * y) is ∙ mul_comm x total

chicks_on : (G : ℕ → ℕ → ℕ) (profile : Profile) (p own n : ℕ) → p ≤ 2 → own < own_squares → n < enemy_squares → run_kind (lions_at own n) ≡ Mixed
    → sum_below (λ c. one_if (is_even 2 (settle 2 p c (hide 2 (pair_layers own n))))
    * (chick_forms profile (settle 2 p c (hide 2 (pair_layers own n))) (4 ^ p)
    * G (middles (settle 2 p c (hide 2 (pair_layers own n)))) (pairs (settle 2 p c (hide 2 (pair_layers own n))))))
    (choose (count 5 (hide 2 (pair_layers own n))) p)
    ≡ middle_forms profile p own (enemy_square own n) * G (2 - p) 4 + pair_forms profile p * G 2 3
chicks_on G profile p own n few first second is =
    sum_same _ (λ c. forms_of_middles profile p (rs c) * G (2 - p) 4 + forms_of_pairs profile p (rs c) * G 2 3) total each
    ∙ sum_plus (λ c. forms_of_middles profile p (rs c) * G (2 - p) 4) (λ c. forms_of_pairs profile p (rs c) * G 2 3) total
    ∙ add (factor (λ c. forms_of_middles profile p (rs c)) (G (2 - p) 4) total (middle_forms profile p own (enemy_square own n)) mids)
    (factor (λ c. forms_of_pairs profile p (rs c)) (G 2 3) total (pair_forms profile p) twos)
  where
    ls : List ℕ
    ls = hide 2 (pair_layers own n)

    rs : ℕ → List ℕ
    rs c = map (plain 2) (settle 2 p c (hide 2 (pair_layers own n)))

    total : ℕ
    total = choose (count 5 (hide 2 (pair_layers own n))) p

    board : IsLionBoard (hide 2 (pair_layers own n))
    board = board_told own n first second is

    add : {a b c d : ℕ} → a ≡ b → c ≡ d → a + c ≡ b + d
    add e f = cc

    placed : (g : List ℕ → ℕ) → over_choices g 2 p (hide 2 (pair_layers own n)) ≡ sum_placed g p (open_squares own n)
    placed g =
        choices_placed 2 (hide 2 (pair_layers own n)) two_low board.even.shown g p
        ∙ ap (sum_placed g p) (sym (opened own n is))

    odd : over_choices (λ xs. one_if (is_odd_one p 2 4 xs)) 2 p (hide 2 (pair_layers own n)) ≡ 0
    odd = placed (λ xs. one_if (is_odd_one p 2 4 xs))
        ∙ eqb-true _ 0 (mixed_told own n _ is (at_lions (odd_told p) own n (odd_all p few) first second))

    mids : over_choices (forms_of_middles profile p) 2 p (hide 2 (pair_layers own n)) ≡ middle_forms profile p own (enemy_square own n)
    mids = placed (forms_of_middles profile p)
        ∙ eqb-true _ (middle_forms profile p own (enemy_square own n))
        (mixed_told own n _ is (at_lions (middles_told profile p) own n (middles_all profile p few) first second))

    twos : over_choices (forms_of_pairs profile p) 2 p (hide 2 (pair_layers own n)) ≡ pair_forms profile p
    twos = placed (forms_of_pairs profile p)
        ∙ eqb-true _ (pair_forms profile p) (mixed_told own n _ is (at_lions (pairs_told profile p) own n (pairs_all profile p few) first second))

    weighed : (on : Bool) (xs ys : List ℕ) (g : ℕ) → chick_forms profile ys (4 ^ p) ≡ chick_forms profile xs (4 ^ p)
        → one_if on * (chick_forms profile xs (4 ^ p) * g) ≡ chick_forms profile ys (cond on (4 ^ p) 0) * g
    weighed on xs ys g same =
        sym (mul_assoc (one_if on) (chick_forms profile xs (4 ^ p)) g)
        ∙ ap (λ (m : ℕ). one_if on * m * g) (sym same)
        ∙ ap (λ (m : ℕ). m * g) (gated profile p ys on)

    each : (c : ℕ) → c < choose (count 5 (hide 2 (pair_layers own n))) p
        → one_if (is_even 2 (settle 2 p c (hide 2 (pair_layers own n))))
        * (chick_forms profile (settle 2 p c (hide 2 (pair_layers own n))) (4 ^ p)
        * G (middles (settle 2 p c (hide 2 (pair_layers own n)))) (pairs (settle 2 p c (hide 2 (pair_layers own n)))))
        ≡ forms_of_middles profile p (rs c) * G (2 - p) 4 + forms_of_pairs profile p (rs c) * G 2 3
    each c below =
        let xs = settle 2 p c (hide 2 (pair_layers own n)) in
        let long : length xs ≡ 12 = length-settle 2 p c (hide 2 (pair_layers own n)) ∙ board.even.long in
        let settled = settle-settles 2 p c (hide 2 (pair_layers own n)) two_low board.even.shown below in
        let same = counts_plain 2 xs two_low long settled.shown in
        let forms = forms_plain profile xs (4 ^ p) long settled.shown in
        ap (λ (b : Bool). one_if b * (chick_forms profile xs (4 ^ p) * G (middles xs) (pairs xs))) (sym (even_plain 2 xs long))
        ∙ ap (λ (x : ℕ). one_if (is_even 2 (rs c)) * (chick_forms profile xs (4 ^ p) * G x (pairs xs))) (sym same.0)
        ∙ ap (λ (y : ℕ). one_if (is_even 2 (rs c)) * (chick_forms profile xs (4 ^ p) * G (middles (rs c)) y)) (sym same.1)
        ∙ split_even (λ x y. chick_forms profile xs (4 ^ p) * G x y) (is_even 2 (rs c)) p 2 4 (middles (rs c)) (pairs (rs c))
        (none_of (λ (x : ℕ). one_if (is_odd_one p 2 4 (rs x))) total c odd below)
        ∙ add (weighed (leaves_middles 4 (rs c)) xs (rs c) (G (2 - p) 4) forms) (weighed (leaves_pairs 4 (rs c)) xs (rs c) (G 2 3) forms)

-- the same by the number of the lions
pub lion_layers_told : (lions : ℕ) → lions < lion_pairs → run_kind lions ≡ Mixed → IsLionBoard (lions_layers lions)
lion_layers_told lions below is =
    let own = lions / enemy_squares in
    let n = lions % enemy_squares in
    let whole = whole_lions lions in
    let first = own_low lions below in
    let second = enemy_low lions in
    subst IsLionBoard (sym (lions_layers-pair own n first second) ∙ ap lions_layers whole) (board_told own n first second (ap run_kind whole ∙ is))

pub chick_choices : (G : ℕ → ℕ → ℕ) (profile : Profile) (p lions : ℕ) → p ≤ 2 → lions < lion_pairs → run_kind lions ≡ Mixed
    → sum_below (λ c. one_if (is_even 2 (settle 2 p c (lions_layers lions)))
    * (chick_forms profile (settle 2 p c (lions_layers lions)) (4 ^ p)
    * G (middles (settle 2 p c (lions_layers lions))) (pairs (settle 2 p c (lions_layers lions)))))
    (choose free_squares p)
    ≡ middle_forms profile p (lions / enemy_squares) (enemy_square (lions / enemy_squares) (lions % enemy_squares)) * G (2 - p) 4
    + pair_forms profile p * G 2 3
chick_choices G profile p lions few below is =
    let own = lions / enemy_squares in
    let n = lions % enemy_squares in
    let whole = whole_lions lions in
    let first = own_low lions below in
    let second = enemy_low lions in
    let layers : lions_layers lions ≡ hide 2 (pair_layers own n) = ap lions_layers (sym whole) ∙ lions_layers-pair own n first second in
    let kind : run_kind (lions_at own n) ≡ Mixed = ap run_kind whole ∙ is in
    let left = (board_told own n first second kind).open_are in
    ap (λ (xs : List ℕ). sum_below (λ c. one_if (is_even 2 (settle 2 p c xs)) * (chick_forms profile (settle 2 p c xs) (4 ^ p)
    * G (middles (settle 2 p c xs)) (pairs (settle 2 p c xs)))) (choose free_squares p)) layers
    ∙ ap (λ (m : ℕ). sum_below (λ c. one_if (is_even 2 (settle 2 p c (hide 2 (pair_layers own n))))
    * (chick_forms profile (settle 2 p c (hide 2 (pair_layers own n))) (4 ^ p)
    * G (middles (settle 2 p c (hide 2 (pair_layers own n)))) (pairs (settle 2 p c (hide 2 (pair_layers own n)))))) (choose m p)) (sym left)
    ∙ chicks_on G profile p own n few first second kind
