-- A place of a run and its number among those of rules B, each by its parts as the code finds them.
use Rattle.dob_rank.proofs.Common.{◌%◌, ◌*◌, ◌+◌, ◌-◌, ◌/◌, ◌<◌, ◌^◌, ◌∙◌, ◌≡◌, ◌≤◌, Bool, List, ap, arith, refl, slice_index, subst, suc, sym, true, zero, ℕ}
use Rattle.dob_rank.proofs.Common.{add-mul, div-add-mod', div_below, mod_below, mul_assoc, mul_comm, B, marks_below, one_if, choose, free_squares, product, AreFewOnBoard}
use Rattle.dob_rank.proofs.Common.{choice_weight, forms_before, forms_stand, local_bases, form_bases, square_bases, others_forms, others_squares}
use Rattle.dob_rank.proofs.Common.{◌∷◌, [], drop, get_or}
use Rattle.std.proofs.Math.Nat.{mul-le-mul_right}
use Rattle.dob_rank.specs.Weights.{allowed_place, stands}
use Rattle.dob_rank.proofs.Arithmetic.MixedRadix.{digit_below, product-append}
use Rattle.dob_rank.proofs.InRuns.DigitParts.{form_bits_are}
use Rattle.dob_rank.proofs.Positions.Blocks.{forms_at_most, most_choices, positive_product, product-at_most, squares_at_most, squares_positive, sum_below_more}
use Rattle.dob_rank.proofs.InRuns.RunMarks.{marks_agree}
use Rattle.dob_rank.proofs.OfFamilies.PlaceCounts.{place_by, before_place, at_place, others_forms-some, four_some, forms_of_choice}

pub two_four : (n : ℕ) → n ≤ 2 → 2 ^ (2 * n) ≡ 4 ^ n
two_four zero few = refl
two_four (suc zero) few = refl
two_four (suc (suc zero)) few = refl
two_four (suc (suc (suc n))) few = absurd (omega (arith, few))

pub others_bits_are : (ob : List ℕ) → AreFewOnBoard ob → 2 ^ (slice_index ob 1 + slice_index ob 2) ≡ others_forms ob
others_bits_are ob few =
    ap (λ (n : ℕ). 2 ^ n) (let e : slice_index ob 1 + slice_index ob 2 ≡ 2 * 0 + slice_index ob 1 + slice_index ob 2 = omega arith in e)
    ∙ form_bits_are 0 (slice_index ob 1) (slice_index ob 2) (omega arith) few.elephants few.giraffes ∙ once (others_forms ob)
  where
    once : (n : ℕ) → 4 ^ 0 * n ≡ n
    once n = grind arith

pub few_forms : (ob : List ℕ) → AreFewOnBoard ob → others_forms ob ≤ 16
few_forms ob few = product-at_most (drop 1 (form_bases ob)) (4 ∷ 4 ∷ []) (forms_at_most ob few).1

-- the others' squares
pub record AreOthers (ob : List ℕ) (count : ℕ) : Type 0 where
  pub value_is : count ≡ others_squares ob
  pub some : 0 < others_squares ob
  pub few : others_squares ob ≤ 2025

pub others_are : (ob choices : List ℕ) → AreFewOnBoard ob → choices ≡ square_bases ob → AreOthers ob (get_or choices 1 0 * get_or choices 2 0)
others_are ob choices few is = record {
  value_is = rw is (one_more (get_or (square_bases ob) 1 0) (get_or (square_bases ob) 2 0));
  some = positive_product (drop 1 (square_bases ob)) (squares_positive ob few).1;
  few = product-at_most (drop 1 (square_bases ob)) (most_choices ∷ most_choices ∷ []) (squares_at_most ob few).1;
}
  where
    one_more : (b c : ℕ) → b * c ≡ b * (c * 1)
    one_more b c = rw (let e : c * 1 ≡ c = omega arith in e) refl

-- ---- the parts of a place
pub record AreParts (ob : List ℕ) (c q g f : ℕ) : Type 0 where
  pub choice_below : c < choose free_squares (slice_index ob 0)
  pub squares_below : q < others_squares ob
  pub form_below : g < 4 ^ slice_index ob 0
  pub forms_below : f < others_forms ob

run_size-is : (ob : List ℕ) → product (local_bases ob) ≡ choose free_squares (slice_index ob 0) * others_squares ob * (4 ^ slice_index ob 0 * others_forms ob)
run_size-is ob = product-append (square_bases ob) (form_bases ob)

pub parts_of : (ob : List ℕ) (place r a n : ℕ) → place < product (local_bases ob) → r ≡ others_forms ob → a ≡ 4 ^ slice_index ob 0 → n ≡ others_squares ob
    → 0 < n → AreParts ob (place / r / a / n) (place / r / a % n) (place / r % a) (place % r)
parts_of ob place r a n low r_is a_is n_is some =
    let some_r : 0 < r = rw r_is (others_forms-some ob) in
    let some_a : 0 < a = rw a_is (four_some (slice_index ob 0)) in
    let size : place < choose free_squares (slice_index ob 0) * n * a * r
    = subst (λ (x : ℕ). place < x) (run_size-is ob ∙ regroup (choose free_squares (slice_index ob 0)) (others_squares ob) (4 ^ slice_index ob 0) (others_forms ob) ∙ same) low in
    record {
      choice_below = div_below (place / r / a) n _ some (div_below (place / r) a _ some_a (div_below place r _ some_r size));
      squares_below = subst (λ (x : ℕ). place / r / a % n < x) n_is (mod_below (place / r / a) n some);
      form_below = subst (λ (x : ℕ). place / r % a < x) a_is (mod_below (place / r) a some_a);
      forms_below = subst (λ (x : ℕ). place % r < x) r_is (mod_below place r some_r);
    }
  where
    regroup : (c n a r : ℕ) → c * n * (a * r) ≡ c * n * a * r
    regroup c n a r = sym (mul_assoc (c * n) a r)

    same : choose free_squares (slice_index ob 0) * others_squares ob * 4 ^ slice_index ob 0 * others_forms ob
        ≡ choose free_squares (slice_index ob 0) * n * a * r
    same = rw (r_is, a_is, n_is) refl

-- they make the place
pub joined : (ob : List ℕ) (place r a n : ℕ) → r ≡ others_forms ob → a ≡ 4 ^ slice_index ob 0 → n ≡ others_squares ob
    → place ≡ place_by ob (place / r / a / n) (place / r / a % n) (place / r % a) (place % r)
joined ob place r a n r_is a_is n_is =
    rw (← r_is, ← a_is, ← n_is) (whole (place / r / a / n * n + place / r / a % n) (place / r / a) (place / r % a) (place / r) (place % r)
    (div-add-mod' (place / r / a) n) (div-add-mod' (place / r) a) (div-add-mod' place r))
  where
    whole : (x y g z f : ℕ) → x ≡ y → y * a + g ≡ z → z * r + f ≡ place → place ≡ (x * a + g) * r + f
    whole x y g z f d e h = sym (ap (λ (k : ℕ). (k * a + g) * r + f) d ∙ ap (λ (k : ℕ). k * r + f) e ∙ h)

-- ---- its number
as_found : (b y n m w v r x o p q k : ℕ) → b ≡ y → n ≡ m → w ≡ v → r ≡ x → o ≡ p → (y * m + q * v + k) * x + p ≡ (b * n + q * w + k) * r + o
as_found b y n m w v r x o p q k e f g h i = cc

pub number_is : (ob : List ℕ) (lions place r a n before forms first second count own : ℕ) (stand : Bool) → place < product (local_bases ob)
    → r ≡ others_forms ob → a ≡ 4 ^ slice_index ob 0 → n ≡ others_squares ob → 0 < n
    → before ≡ forms_before B lions (slice_index ob 0) (place / r / a / n) → forms ≡ choice_weight B lions (slice_index ob 0) (place / r / a / n)
    → ((k : ℕ) → stands B lions (slice_index ob 0) (place / r / a / n) k ≡ forms_stand (slice_index ob 0) first second k)
    → count ≡ marks_below (forms_stand (slice_index ob 0) first second) (place / r % a) → stand ≡ forms_stand (slice_index ob 0) first second (place / r % a)
    → own ≡ place % r * one_if stand
    → (before * n + place / r / a % n * forms + count) * r + own ≡ marks_below (allowed_place B ob lions) place
number_is ob lions place r a n before forms first second count own stand low r_is a_is n_is some before_is forms_is same count_is stand_is own_is =
    let i = slice_index ob 0 in
    let c = place / r / a / n in
    let q = place / r / a % n in
    let g = place / r % a in
    let p = parts_of ob place r a n low r_is a_is n_is some in
    sym (ap (marks_below (allowed_place B ob lions)) (joined ob place r a n r_is a_is n_is)
    ∙ before_place B ob lions c q g (place % r) p.choice_below p.squares_below p.form_below p.forms_below
    ∙ ap (λ (x : ℕ). (forms_before B lions i c * others_squares ob + q * choice_weight B lions i c + x) * others_forms ob
    + place % r * one_if (stands B lions i c g))
    (marks_agree (stands B lions i c) (forms_stand i first second) g (λ k _. same k) ∙ sym count_is)
    ∙ ap (λ (b : Bool). (forms_before B lions i c * others_squares ob + q * choice_weight B lions i c + count) * others_forms ob + place % r * one_if b)
    (same g ∙ sym stand_is)
    ∙ as_found before (forms_before B lions i c) n (others_squares ob) forms (choice_weight B lions i c) r (others_forms ob) own (place % r * one_if stand) q count
    before_is n_is forms_is r_is own_is)

-- ---- a number's place

-- in a choice before which so many stand
pub record IsInChoice (n number sum weight : ℕ) : Type 0 where
  pub low : sum * n ≤ number
  pub left : number - sum * n < n * weight
  pub some : 0 < weight

pub in_choice : (n number sum weight : ℕ) → 0 < n → sum ≤ number / n → number / n < sum + weight → IsInChoice n number sum weight
in_choice n number sum weight some low high =
    let parts = div-add-mod' number n in
    let rest = mod_below number n some in
    let under = mul-le-mul_right n low in
    let over = mul-le-mul_right n high in
    record {
      low = omega (arith, parts, under);
      left = omega (arith, parts, rest, under, over, add-mul (number / n) 1 n, add-mul sum weight n, mul_comm weight n);
      some = omega (arith, low, high);
    }

-- its parts make the number
all_parts : (all rest left squares d number r f : ℕ) → all ≤ rest → left ≡ rest - all → squares + d ≡ left → rest * r + f ≡ number
    → (all + squares + d) * r + f * 1 ≡ number
all_parts all rest left squares d number r f h e parts is =
    let sum : all + squares + d ≡ rest = omega (arith, h, e, parts) in
    rw sum (let one : rest * r + f * 1 ≡ rest * r + f = omega arith in one ∙ is)

-- all parts of a number give a place
pub record IsNumbered (ob : List ℕ) (lions number place : ℕ) : Type 0 where
  pub place_below : place < product (local_bases ob)
  pub allowed : allowed_place B ob lions place ≡ true
  pub number_is : marks_below (allowed_place B ob lions) place ≡ number

pub numbered : (ob : List ℕ) (lions number r a n c before weight first second g place rest f : ℕ)
    → r ≡ others_forms ob → a ≡ 4 ^ slice_index ob 0 → n ≡ others_squares ob → c < choose free_squares (slice_index ob 0)
    → before ≡ forms_before B lions (slice_index ob 0) c → weight ≡ choice_weight B lions (slice_index ob 0) c
    → ((k : ℕ) → stands B lions (slice_index ob 0) c k ≡ forms_stand (slice_index ob 0) first second k)
    → IsInChoice n rest before weight → g < 4 ^ slice_index ob 0 → forms_stand (slice_index ob 0) first second g ≡ true
    → marks_below (forms_stand (slice_index ob 0) first second) g ≡ (rest - before * n) % weight → f < r → rest * r + f ≡ number
    → place ≡ ((c * n + (rest - before * n) / weight) * a + g) * r + f
    → IsNumbered ob lions number place
numbered ob lions number r a n c before weight first second g place rest f r_is a_is n_is below before_is weight_is same at form on count low whole place_is =
    let i = slice_index ob 0 in
    let left = rest - before * n in
    let q = left / weight in
    let q_below : q < others_squares ob = subst (λ (x : ℕ). q < x) n_is (div_below left weight n at.some at.left) in
    let f_below : f < others_forms ob = subst (λ (x : ℕ). f < x) r_is low in
    let by : place ≡ ((c * others_squares ob + q) * 4 ^ i + g) * others_forms ob + f = place_is ∙ same_place c n (others_squares ob) q a (4 ^ i) g r (others_forms ob) f n_is a_is r_is in
    let stand : stands B lions i c g ≡ true = same g ∙ on in
    record {
      place_below = subst (λ (x : ℕ). x < product (local_bases ob)) (sym by) (subst (λ (x : ℕ). place_by ob c q g f < x)
          (mul_assoc (choose free_squares i * others_squares ob) (4 ^ i) (others_forms ob) ∙ sym (run_size-is ob))
          (digit_below ((c * others_squares ob + q) * 4 ^ i + g) (choose free_squares i * others_squares ob * 4 ^ i) (others_forms ob) f
          (digit_below (c * others_squares ob + q) (choose free_squares i * others_squares ob) (4 ^ i) g
          (digit_below c (choose free_squares i) (others_squares ob) q below q_below) form) f_below));
      allowed = ap (allowed_place B ob lions) by ∙ at_place B ob lions c q g f q_below form f_below ∙ stand;
      number_is = ap (marks_below (allowed_place B ob lions)) by
          ∙ before_place B ob lions c q g f below q_below form f_below
          ∙ ap (λ (b : Bool). (forms_before B lions i c * others_squares ob + q * choice_weight B lions i c + marks_below (stands B lions i c) g)
          * others_forms ob + f * one_if b) stand
          ∙ ap (λ (x : ℕ). (forms_before B lions i c * others_squares ob + q * choice_weight B lions i c + x) * others_forms ob + f * 1)
          (marks_agree (stands B lions i c) (forms_stand i first second) g (λ k _. same k) ∙ on_count)
          ∙ as_found before (forms_before B lions i c) n (others_squares ob) weight (choice_weight B lions i c) r (others_forms ob) (f * 1)
          (f * 1) q (left % weight) before_is n_is weight_is r_is refl
          ∙ all_parts (before * n) rest left (q * weight) (left % weight) number r f at.low refl (div-add-mod' left weight) whole;
    }
  where
    on_count : marks_below (forms_stand (slice_index ob 0) first second) g ≡ (rest - before * n) % weight
    on_count = count

    same_place : (c n m q a b g r x f : ℕ) → n ≡ m → a ≡ b → r ≡ x → ((c * n + q) * a + g) * r + f ≡ ((c * m + q) * b + g) * x + f
    same_place c n m q a b g r x f e h k = cc

-- the choice that the search finds
pub choice_found : (chicks lions n number c before weight : ℕ) → 0 < n → forms_before B lions chicks c ≤ number / n
    → number / n < forms_before B lions chicks (c + 1) → before ≡ forms_before B lions chicks c → weight ≡ choice_weight B lions chicks c
    → IsInChoice n number before weight
choice_found chicks lions n number c before weight some low high before_is weight_is =
    in_choice n number before weight some (subst (λ (x : ℕ). x ≤ number / n) (sym before_is) low)
    (subst (λ (x : ℕ). number / n < x) (sum_below_more (choice_weight B lions chicks) c ∙ joined_sum before (forms_before B lions chicks c) weight
    (choice_weight B lions chicks c) before_is weight_is) high)
  where
    joined_sum : (a b c d : ℕ) → a ≡ b → c ≡ d → b + d ≡ a + c
    joined_sum a b c d e f = cc

-- its forms
pub forms_in_choice : (chicks lions c weight first second left : ℕ) → c < choose free_squares chicks → weight ≡ choice_weight B lions chicks c
    → ((k : ℕ) → stands B lions chicks c k ≡ forms_stand chicks first second k) → 0 < weight
    → left % weight < marks_below (forms_stand chicks first second) (4 ^ chicks)
forms_in_choice chicks lions c weight first second left below weight_is same some =
    subst (λ (x : ℕ). left % weight < x) (weight_is ∙ sym (forms_of_choice B lions chicks c below)
    ∙ marks_agree (stands B lions chicks c) (forms_stand chicks first second) (4 ^ chicks) (λ k _. same k)) (mod_below left weight some)

-- ---- what the code makes is small
pub number_fits : (number r n all : ℕ) → number < all * (n * r) → 0 < n → 0 < r → number / r / n < all
number_fits number r n all low some_n some_r =
    div_below (number / r) n all some_n (div_below number r (all * n) some_r (subst (λ (x : ℕ). number < x) (sym (mul_assoc all n r)) low))

-- of a choice's number and the others' squares, of the forms, and of what both make
pub square_small : (c n q m : ℕ) → c < m → m ≤ 45 → q < n → n ≤ 2025 → c * n + q < 45 * 2025
square_small c n q m low few below most = grind (arith, digit_below)

pub place_small : (s a g : ℕ) → s < 45 * 2025 → a ≤ 16 → g < a → s * a + g < 45 * 2025 * 16
place_small s a g low few below = grind (arith, digit_below)
