-- Masks of layers: what their bits count, and the number of the choice that two bits make.
use Rattle.dob_rank.proofs.Common.{◌%◌, ◌*◌, ◌+◌, ◌-◌, ◌/◌, ◌<◌, ◌^◌, ◌||◌, ◌∙◌, ◌∷◌, ◌≡◌, ◌≤◌, Bool, List, None, [], ap, arith, bit_and, cond, get_or}
use Rattle.dob_rank.proofs.Common.{length, map, nat_eq, nat_lt, refl, suc, sym, true, zero, ℕ, pow-suc, pow-succ', pow-zero, eq-eqb, le-ltb}
use Rattle.dob_rank.proofs.Common.{lt-ltb, ne_eqb, length-map, all_below, all_below-at, Cell, all_squares, from_mask, layer_mask}
use Rattle.dob_rank.proofs.Common.{base_of, choice, count, count_from, forms_number, layer, order, form, Chicks, Elephants, Empty, EnemyLion}
use Rattle.dob_rank.proofs.Common.{Giraffes, OwnLion, nat_tests}
use Rattle.std.proofs.lemmas.Nat.{ones_cat, and_block}
use lib.Bits.{and_self}
use lib.Count.{ones, count_trailing_zeros, under}
use Rattle.dob_rank.proofs.Boards.LayerCounts.{count_from-next, choice_none}
use Rattle.dob_rank.proofs.Boards.EmptySquares.{choose_one, one_way}
use Rattle.dob_rank.proofs.Positions.BlockStarts.{same_number, second}

-- ---- one more square in front
mask_at : (t l : ℕ) (ls : List ℕ) → l ≡ t → layer_mask t (l ∷ ls) ≡ layer_mask t ls * 2 + 1
mask_at t l ls e = rw (eq-eqb l t e) (omega arith)

mask_other : (t l : ℕ) (ls : List ℕ) → (l ≡ t → ⊥) → layer_mask t (l ∷ ls) ≡ layer_mask t ls * 2 + 0
mask_other t l ls h = rw (ne_eqb l t h) (omega arith)

from_lower : (t l : ℕ) (ls : List ℕ) → l < t → from_mask t (l ∷ ls) ≡ from_mask t ls * 2 + 0
from_lower t l ls h = rw (lt-ltb l t h) (omega arith)

from_later : (t l : ℕ) (ls : List ℕ) → t ≤ l → from_mask t (l ∷ ls) ≡ from_mask t ls * 2 + 1
from_later t l ls h = rw (le-ltb l t h) (omega arith)

ruleset steps = (mask_at, mask_other, from_lower, from_later)

-- ---- counts
ones-zero : ones 0 ≡ 0
unfolding ones
ones-zero = refl

ones-one : ones 1 ≡ 1
unfolding ones
ones-one = refl

ones_even : (n : ℕ) → ones (n * 2 + 0) ≡ ones n
ones_even n = ones_cat 1 n 0 (let h : 0 < 2 = omega arith in h) ∙ ap (λ (x : ℕ). ones n + x) ones-zero ∙ (let e : ones n + 0 ≡ ones n = omega arith in e)

ones_odd : (n : ℕ) → ones (n * 2 + 1) ≡ suc (ones n)
ones_odd n = ones_cat 1 n 1 (let h : 1 < 2 = omega arith in h) ∙ ap (λ (x : ℕ). ones n + x) ones-one ∙ (let e : ones n + 1 ≡ suc (ones n) = omega arith in e)

pub ones-layer_mask : (t : ℕ) (ls : List ℕ) → ones (layer_mask t ls) ≡ count t ls
ones-layer_mask t [] = ones-zero
ones-layer_mask t (l ∷ ls) =
    grind (arith, nat_tests, ones_even (layer_mask t ls), ones_odd (layer_mask t ls), ones-layer_mask t ls, mask_at t l ls, mask_other t l ls)

ones-from_mask : (t : ℕ) (ls : List ℕ) → ones (from_mask t ls) ≡ count_from t ls
ones-from_mask t [] = ones-zero
ones-from_mask t (l ∷ ls) =
    grind (arith, nat_tests, ones_even (from_mask t ls), ones_odd (from_mask t ls), ones-from_mask t ls, from_lower t l ls, from_later t l ls)

-- a layer has a square where its mask isn't 0
mask_some : (t : ℕ) (ls : List ℕ) → 0 < count t ls → 0 < layer_mask t ls
mask_some t [] h = absurd (omega arith)
mask_some t (l ∷ ls) h = grind (arith, nat_tests, mask_some t ls)

-- and the layer's squares aren't later ones
apart : (t : ℕ) (ls : List ℕ) → bit_and (layer_mask t ls) (from_mask (suc t) ls) ≡ 0
apart t [] = refl
apart t (l ∷ ls) =
    let rest : (r s : ℕ) → r < 2 → s < 2 → bit_and (layer_mask t ls * 2 + r) (from_mask (suc t) ls * 2 + s) ≡ bit_and r s = λ r s h k. and_block 1
    (layer_mask t ls) (from_mask (suc t) ls) r s h k ∙ omega (arith, apart t ls) in
    grind (arith, nat_tests, rest 1 0, rest 0 1, rest 0 0, mask_at t l ls, mask_other t l ls, from_lower (suc t) l ls, from_later (suc t) l ls)

-- ---- the first and the second square of a layer

-- how many squares of later layers stand before the first of the layer, and before the second
abbrev pub before_first : ℕ → List ℕ → ℕ
before_first t [] = 0
before_first t (l ∷ ls) = cond (nat_eq l t) 0 (cond (nat_lt t l) 1 0 + before_first t ls)

abbrev pub before_second : ℕ → List ℕ → ℕ
before_second t [] = 0
before_second t (l ∷ ls) = cond (nat_eq l t) (before_first t ls) (cond (nat_lt t l) 1 0 + before_second t ls)

-- bits side by side
and_bits : (a b r s : ℕ) → r < 2 → s < 2 → bit_and (a * 2 + r) (b * 2 + s) ≡ bit_and a b * 2 + bit_and r s
and_bits a b r s h k = and_block 1 a b r s h k

-- a number with a bit in front, less 1
even_less : (n : ℕ) → 0 < n → n * 2 + 0 - 1 ≡ (n - 1) * 2 + 1
even_less n h = omega arith

odd_less : (n : ℕ) → n * 2 + 1 - 1 ≡ n * 2 + 0
odd_less n = omega arith

ones_below : (n f : ℕ) → 0 < n → ones (bit_and (n * 2 + 0 - 1) (f * 2 + 0)) ≡ ones (bit_and (n - 1) f)
ones_below n f h =
    ap (λ x. ones (bit_and x (f * 2 + 0))) (even_less n h) ∙ ap ones (and_bits (n - 1) f 1 0 (omega arith) (omega arith)) ∙ ones_even (bit_and (n - 1) f)

ones_below_one : (n f : ℕ) → 0 < n → ones (bit_and (n * 2 + 0 - 1) (f * 2 + 1)) ≡ suc (ones (bit_and (n - 1) f))
ones_below_one n f h =
    ap (λ x. ones (bit_and x (f * 2 + 1))) (even_less n h) ∙ ap ones (and_bits (n - 1) f 1 1 (omega arith) (omega arith)) ∙ ones_odd (bit_and (n - 1) f)

pub first_bits : (t : ℕ) (ls : List ℕ) → 0 < count t ls → ones (bit_and (layer_mask t ls - 1) (from_mask (suc t) ls)) ≡ before_first t ls
first_bits t [] h = absurd (omega arith)
first_bits t (l ∷ ls) h =
    grind (arith, nat_tests, steps, odd_less, and_bits, apart t ls, ones-zero, ones_even, ones_below, ones_below_one, mask_some t ls, first_bits t ls)

-- the mask without its lowest bit
rest_same : (n : ℕ) → bit_and (n * 2 + 1) (n * 2 + 1 - 1) ≡ n * 2 + 0
rest_same n = ap (bit_and (n * 2 + 1)) (odd_less n) ∙ and_bits n n 1 0 (omega arith) (omega arith) ∙ ap (λ x. x * 2 + 0) (and_self n)

rest_other : (n : ℕ) → 0 < n → bit_and (n * 2 + 0) (n * 2 + 0 - 1) ≡ bit_and n (n - 1) * 2 + 0
rest_other n h = ap (bit_and (n * 2 + 0)) (even_less n h) ∙ and_bits n (n - 1) 0 1 (omega arith) (omega arith)

rest_some : (t : ℕ) (ls : List ℕ) → 1 < count t ls → 0 < bit_and (layer_mask t ls) (layer_mask t ls - 1)
rest_some t [] h = absurd (omega arith)
rest_some t (l ∷ ls) h =
    grind (arith, nat_tests, mask_some t ls, rest_some t ls, rest_same (layer_mask t ls), rest_other (layer_mask t ls), mask_at t l ls, mask_other t l ls)

pub second_bits : (t : ℕ) (ls : List ℕ) → count t ls ≡ 2 →
    ones (bit_and (bit_and (layer_mask t ls) (layer_mask t ls - 1) - 1) (from_mask (suc t) ls)) ≡ before_second t ls
second_bits t [] h = absurd (omega arith)
second_bits t (l ∷ ls) h =
    grind (arith, nat_tests, steps, rest_same, rest_other, first_bits t ls, ones_below, ones_below_one, mask_some t ls, rest_some t ls, second_bits t ls)

-- ---- the number of the choice
pub choice_one : (t : ℕ) (ls : List ℕ) → count t ls ≡ 1 → choice t ls ≡ before_first t ls
choice_one t [] h = absurd (omega arith)
choice_one t (l ∷ ls) h = grind (arith, nat_tests, choice_none t ls, choice_one t ls, one_way (count_from t ls))

first_upto : (t : ℕ) (ls : List ℕ) → before_first t ls ≤ count_from (suc t) ls
first_upto t [] = omega arith
first_upto t (l ∷ ls) = grind (arith, nat_tests, first_upto t ls)

-- the choices whose first square stands before one
abbrev pub pairs_before : ℕ → ℕ → ℕ
pairs_before first free = first * (2 * free + 1 - first) / 2

abbrev steps_right : ℕ → ℕ → Bool
steps_right free first = nat_lt free first || nat_eq (pairs_before (first + 1) (free + 1)) (pairs_before first free + free + 1)

computed : all_below (λ free. all_below (steps_right free) 13) 13 ≡ true
computed = refl

pairs_step : (first free : ℕ) → first ≤ free → free ≤ 12 → pairs_before (suc first) (suc free) ≡ pairs_before first free + free + 1
pairs_step first free h k =
    let row = all_below-at (λ free. all_below (steps_right free) 13) 13 free computed (omega arith) in
    let here = all_below-at (steps_right free) 13 first row (omega arith) in
    ap (λ (n : ℕ). pairs_before n (suc free)) (let e : suc first ≡ first + 1 = omega arith in e)
    ∙ ap (pairs_before (first + 1)) (let e : suc free ≡ free + 1 = omega arith in e)
    ∙ same_number (pairs_before (first + 1) (free + 1)) (pairs_before first free + free + 1)
    (second (nat_lt free first) (nat_eq (pairs_before (first + 1) (free + 1)) (pairs_before first free + free + 1)) here (le-ltb free first h))

count_from-upto : (t : ℕ) (ls : List ℕ) → count_from t ls ≤ length ls
count_from-upto t [] = omega arith
count_from-upto t (l ∷ ls) = grind (arith, nat_tests, count_from-upto t ls)

pub choice_two : (t : ℕ) (ls : List ℕ) → length ls ≤ 12 → count t ls ≡ 2 →
    choice t ls ≡ pairs_before (before_first t ls) (count_from (suc t) ls) + before_second t ls
choice_two t [] k h = absurd (omega arith)
choice_two t (l ∷ ls) k h =
    let step = pairs_step (before_first t ls) (count_from (suc t) ls) in
    let upto = count_from-upto (suc t) ls in
    grind (arith, nat_tests, choice_one t ls, choice_two t ls, choose_one (count_from t ls), count_from-next t ls, upto, first_upto t ls, step)

-- what the code's numbers of a choice are
pub one_choice : (t : ℕ) (ls : List ℕ) (mask later below number : ℕ) → mask ≡ layer_mask t ls → later ≡ from_mask (suc t) ls → below ≡ mask - 1 →
    number ≡ ones (bit_and below later) → count t ls ≡ 1 → number ≡ choice t ls
one_choice t ls mask later below number m f b n one = grind (arith, first_bits, choice_one)

pub two_choice : (t : ℕ) (ls : List ℕ) (mask later below first rest second_number free factor : ℕ)
    → length ls ≤ 12 → mask ≡ layer_mask t ls → later ≡ from_mask (suc t) ls →
    below ≡ mask - 1 → first ≡ ones (bit_and below later) → rest ≡ bit_and mask below - 1 → second_number ≡ ones (bit_and rest later) → free ≡ ones later →
    factor ≡ 2 * free + 1 - first → count t ls ≡ 2 → first * factor / 2 + second_number ≡ choice t ls
two_choice t ls mask later below first rest second_number free factor few m f b n r s o g two =
    rw (g, n, s, r, b, m, o, f, ones-from_mask (suc t) ls, first_bits t ls (omega arith), second_bits t ls two) (sym (choice_two t ls few two))

-- ---- what is left of all squares
from-next : (t : ℕ) (ls : List ℕ) → from_mask (suc t) ls + layer_mask t ls ≡ from_mask t ls
from-next t [] = refl
from-next t (l ∷ ls) = grind (arith, nat_tests, from-next t ls)

from-all : (ls : List ℕ) → from_mask (order OwnLion) ls + 1 ≡ 2 ^ length ls
from-all [] = sym (pow-zero 2)
from-all (l ∷ ls) = omega (arith, from-all ls, from_later (order OwnLion) l ls (omega arith), pow-suc 2 (length ls))

-- the squares of a layer and those of later ones are what the layers before it leave
pub record AreLater (ls : List ℕ) : Type 0 where
  pub own_lion : from_mask (order EnemyLion) ls + layer_mask (order OwnLion) ls ≡ all_squares
  pub enemy_lion : from_mask (order Chicks) ls + layer_mask (order EnemyLion) ls ≡ from_mask (order EnemyLion) ls
  pub chicks : from_mask (order Elephants) ls + layer_mask (order Chicks) ls ≡ from_mask (order Chicks) ls
  pub elephants : from_mask (order Giraffes) ls + layer_mask (order Elephants) ls ≡ from_mask (order Elephants) ls
  pub giraffes : from_mask (order Empty) ls + layer_mask (order Giraffes) ls ≡ from_mask (order Giraffes) ls

pub later_are : (ls : List ℕ) → length ls ≡ 12 → AreLater ls
later_are ls h = grind (arith, from-all, from-next)

-- ---- the squares of a layer's pieces, and their forms
abbrev pub first_square : ℕ → List ℕ → ℕ
first_square t [] = 0
first_square t (l ∷ ls) = cond (nat_eq l t) 0 (suc (first_square t ls))

abbrev pub second_square : ℕ → List ℕ → ℕ
second_square t [] = 0
second_square t (l ∷ ls) = suc (cond (nat_eq l t) (first_square t ls) (second_square t ls))

-- the place of the lowest bit of a word, which has 64 bits
abbrev pub lowest : ℕ → ℕ
lowest = count_trailing_zeros 64

zeros_odd : (k n : ℕ) → count_trailing_zeros (suc k) (n * 2 + 1) ≡ 0
unfolding count_trailing_zeros
zeros_odd k n = ap (λ (b : ℕ). under b (count_trailing_zeros k ((n * 2 + 1) / 2))) (let e : (n * 2 + 1) % 2 ≡ 1 = omega arith in e)

zeros_even : (k n : ℕ) → count_trailing_zeros (suc k) (n * 2 + 0) ≡ suc (count_trailing_zeros k n)
unfolding count_trailing_zeros
zeros_even k n = grind arith

pub first_zeros : (t k : ℕ) (ls : List ℕ) → length ls ≤ k → 0 < count t ls → count_trailing_zeros k (layer_mask t ls) ≡ first_square t ls
first_zeros t k [] h some = absurd (omega arith)
first_zeros t zero (l ∷ ls) h some = absurd (omega arith)
first_zeros t (suc k) (l ∷ ls) h some =
    grind (arith, nat_tests, mask_at t l ls, mask_other t l ls, zeros_odd k (layer_mask t ls), zeros_even k (layer_mask t ls), first_zeros t k ls)

pub second_zeros : (t k : ℕ) (ls : List ℕ) → length ls ≤ k → count t ls ≡ 2 →
    count_trailing_zeros k (bit_and (layer_mask t ls) (layer_mask t ls - 1)) ≡ second_square t ls
second_zeros t k [] h two = absurd (omega arith)
second_zeros t zero (l ∷ ls) h two = absurd (omega arith)
second_zeros t (suc k) (l ∷ ls) h two =
    grind (arith, nat_tests, steps, mask_some t ls, rest_same, rest_other, zeros_even, first_zeros t k ls, second_zeros t k ls)

pub first_square-below : (t : ℕ) (ls : List ℕ) → 0 < count t ls → first_square t ls < length ls
first_square-below t [] h = absurd (omega arith)
first_square-below t (l ∷ ls) h = grind (arith, nat_tests, first_square-below t ls)

pub second_square-below : (t : ℕ) (ls : List ℕ) → count t ls ≡ 2 → second_square t ls < length ls
second_square-below t [] h = absurd (omega arith)
second_square-below t (l ∷ ls) h = grind (arith, nat_tests, first_square-below t ls, second_square-below t ls)

pub no_form : (t : ℕ) (cells : List Cell) → count t (map layer cells) ≡ 0 → forms_number t cells ≡ 0
no_form t [] z = refl
no_form t (cell ∷ cells) z = grind (arith, nat_tests, no_form t cells)

pub form_one : (t : ℕ) (cells : List Cell) → count t (map layer cells) ≡ 1 → forms_number t cells ≡ form (get_or cells (first_square t (map layer cells)) None)
form_one t [] h = absurd (omega arith)
form_one t (cell ∷ cells) h = grind (arith, nat_tests, no_form t cells, form_one t cells, pow-zero (base_of t))

pub form_two : (t : ℕ) (cells : List Cell) → count t (map layer cells) ≡ 2 →
    forms_number t cells ≡ form (get_or cells (first_square t (map layer cells)) None) * base_of t
    + form (get_or cells (second_square t (map layer cells)) None)
form_two t [] h = absurd (omega arith)
form_two t (cell ∷ cells) h = grind (arith, nat_tests, form_one t cells, form_two t cells, pow-succ' (base_of t) 0, pow-zero (base_of t))

-- the same of the squares and forms that the code finds
layers_long : (cells : List Cell) → length cells ≡ 12 → length (map layer cells) ≡ 12
layers_long cells h = length-map cells layer ∙ h

pub first_found : (t : ℕ) (cells : List Cell) (mask : ℕ) → length cells ≡ 12 → mask ≡ layer_mask t (map layer cells) → 0 < count t (map layer cells) →
    lowest mask ≡ first_square t (map layer cells)
first_found t cells mask h m some = rw m (first_zeros t 64 (map layer cells) (omega (arith, layers_long cells h)) some)

pub second_found : (t : ℕ) (cells : List Cell) (mask less : ℕ) → length cells ≡ 12 → mask ≡ layer_mask t (map layer cells)
    → less ≡ mask - 1 → count t (map layer cells) ≡ 2 →
    lowest (bit_and mask less) ≡ second_square t (map layer cells)
second_found t cells mask less h m l two = grind (arith, layers_long, second_zeros)

pub first_on_board : (t : ℕ) (cells : List Cell) (mask : ℕ) → length cells ≡ 12 → mask ≡ layer_mask t (map layer cells) → 0 < count t (map layer cells) →
    lowest mask < 12
first_on_board t cells mask h m some =
    let long = layers_long cells h in let is = first_found t cells mask h m some in let low = first_square-below t (map layer cells) some in omega arith

pub second_on_board : (t : ℕ) (cells : List Cell) (mask less : ℕ) → length cells ≡ 12 → mask ≡ layer_mask t (map layer cells)
    → less ≡ mask - 1 → count t (map layer cells) ≡ 2 →
    lowest (bit_and mask less) < 12
second_on_board t cells mask less h m l two =
    let long = layers_long cells h in let is = second_found t cells mask less h m l two in let low = second_square-below t (map layer cells) two in omega arith

pub form_found : (t : ℕ) (cells : List Cell) (mask number : ℕ) → length cells ≡ 12 → mask ≡ layer_mask t (map layer cells) → count t (map layer cells) ≡ 1 →
    number ≡ form (get_or cells (lowest mask) None) → number ≡ forms_number t cells
form_found t cells mask number h m one n = rw (n, first_found t cells mask h m (omega arith)) (sym (form_one t cells one))

pub forms_found : (t : ℕ) (cells : List Cell) (mask less first other base : ℕ) → length cells ≡ 12 → mask ≡ layer_mask t (map layer cells) → less ≡ mask - 1 →
    count t (map layer cells) ≡ 2 → first ≡ form (get_or cells (lowest mask) None)
    → other ≡ form (get_or cells (lowest (bit_and mask less)) None) →
    base ≡ base_of t → first * base + other ≡ forms_number t cells
forms_found t cells mask less first other base h m l two f s b =
    rw (b, f, s, first_found t cells mask h m (omega arith), second_found t cells mask less h m l two) (sym (form_two t cells two))
