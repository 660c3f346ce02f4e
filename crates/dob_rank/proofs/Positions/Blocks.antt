-- Blocks: their bases are positive, and their sizes and number are small.
use Rattle.dob_rank.proofs.Common.{◌+◌, ◌-◌, ◌<◌, ◌^◌, ◌∷◌, ◌≡◌, ◌≤◌, List, [], ap, arith, refl, slice_index, subst, suc, sym, zero, ℕ, mul-le, All, PieceSet}
use Rattle.dob_rank.proofs.Common.{sum_below-rises, HasDigits, bases_by, block_bases, block_size, choose, digits_of, enemy_squares, free_squares, own_squares}
use Rattle.dob_rank.proofs.Common.{product, size_of_set, start_of, sum_below, AreChoices, run_bases, AreFewOnBoard, all_below-at, form_bases, leb, local_bases}
use Rattle.dob_rank.proofs.Common.{ltb, ltb-true, mul-pos, square_bases, ◌++◌, leb-true}
use Rattle.dob_rank.proofs.Arithmetic.MixedRadix.{HasDigits-digits_of}
use Rattle.dob_rank.proofs.Boards.Choices.{choose-split}
use Rattle.dob_rank.proofs.Boards.FormDigits.{power_positive}
use Rattle.dob_rank.proofs.Positions.Loops.{digit-at}

pub block_size-product : (set : PieceSet) (block : ℕ) → block_size set block ≡ product (bases_by set (digits_of (block_bases set) block))
unfolding block_size
block_size-product set block = refl

-- each number is at most the one beside it
abbrev pub AreAtMost : List ℕ → List ℕ → Type 0
AreAtMost [] [] = Unit {0}
AreAtMost [] (c ∷ cs) = ⊥
AreAtMost (b ∷ bs) [] = ⊥
AreAtMost (b ∷ bs) (c ∷ cs) = (b ≤ c) × AreAtMost bs cs

pub product-at_most : (bs cs : List ℕ) → AreAtMost bs cs → product bs ≤ product cs
product-at_most [] [] h = omega arith
product-at_most (b ∷ bs) (c ∷ cs) h = mul-le b (product bs) c (product cs) h.0 (product-at_most bs cs h.1)
product-at_most bs cs h = absurd h

append_at_most : (bs cs ds es : List ℕ) → AreAtMost bs cs → AreAtMost ds es → AreAtMost (bs ++ ds) (cs ++ es)
append_at_most [] [] ds es h k = k
append_at_most (b ∷ bs) (c ∷ cs) ds es h k = (h.0, append_at_most bs cs ds es h.1 k)
append_at_most bs cs ds es h k = absurd h

-- ---- choices of at most two squares
pub choose-grows : (m n k : ℕ) → m ≤ n → choose m k ≤ choose n k
choose-grows m zero k h = grind arith
choose-grows m (suc n) k h = grind (arith, choose-grows m n k, choose-split n k)

-- in how many ways two of the squares that the lions leave are chosen
abbrev pub most_choices : ℕ
most_choices = 45

pub choose_ten : (k : ℕ) → k ≤ 2 → choose free_squares k ≤ most_choices
choose_ten k h = leb-true (choose free_squares k) most_choices (all_below-at (λ k. leb (choose free_squares k) most_choices) 3 k refl (omega arith))

pub choose-small : (m k : ℕ) → m ≤ free_squares → k ≤ 2 → choose m k ≤ most_choices
choose-small m k h l = grind (arith, choose-grows, choose_ten)

choose_two_of_two : (k : ℕ) → k ≤ 2 → 0 < choose 2 k
choose_two_of_two k h = ltb-true 0 (choose 2 k) (all_below-at (λ k. ltb 0 (choose 2 k)) 3 k refl (omega arith))

pub choose-positive : (m k : ℕ) → 2 ≤ m → k ≤ 2 → 0 < choose m k
choose-positive m k h l = (let a : choose 2 k ≤ choose m k = choose-grows 2 m k h in let b : 0 < choose 2 k = choose_two_of_two k l in omega arith)

-- ---- powers
pub four_small : (k : ℕ) → k ≤ 2 → 4 ^ k ≤ 16
four_small k h = leb-true (4 ^ k) 16 (all_below-at (λ k. leb (4 ^ k) 16) 3 k refl (omega arith))

pub two_small : (k : ℕ) → k ≤ 2 → 2 ^ k ≤ 4
two_small k h = leb-true (2 ^ k) 4 (all_below-at (λ k. leb (2 ^ k) 4) 3 k refl (omega arith))

-- ---- the bases of a block
le_by : (m d : ℕ) → m ≤ m + d
le_by m d = omega arith

-- at most two of each kind are on the board
pub AreFewOnBoard-digits : (set : PieceSet) (ob : List ℕ) → HasDigits (block_bases set) ob → AreFewOnBoard ob
AreFewOnBoard-digits set ob h = grind (arith, digit-at, le_by)

abbrev pub hand_bases : PieceSet → List ℕ → List ℕ
hand_bases set ob = (set.chicks - slice_index ob 0 + 1) ∷ (set.elephants - slice_index ob 1 + 1) ∷ (set.giraffes - slice_index ob 2 + 1) ∷ []

in_hand : (c i : ℕ) → c ≤ 2 → c - i + 1 ≤ 3
in_hand c i h = omega arith

less_than_ten : (i j : ℕ) → (free_squares - i ≤ free_squares) × (free_squares - i - j ≤ free_squares)
less_than_ten i j = ((omega arith), (omega arith))

same : (n : ℕ) → n ≤ n
same n = omega arith

below : (n : ℕ) → 0 < suc n
below n = omega arith

one_more : (c : ℕ) → c ≤ 2 → c + 1 ≤ 3
one_more c h = omega arith

pub room_left : (i j : ℕ) → i ≤ 2 → j ≤ 2 → (2 ≤ free_squares - i) × (2 ≤ free_squares - i - j)
room_left i j h l = ((omega arith), (omega arith))

-- the greatest bases that a block has, part by part
abbrev pub most_hands : List ℕ
most_hands = 3 ∷ 3 ∷ 3 ∷ []

abbrev pub most_squares : List ℕ
most_squares = most_choices ∷ most_choices ∷ most_choices ∷ []

abbrev pub most_forms : List ℕ
most_forms = 16 ∷ 4 ∷ 4 ∷ []

pub hands_at_most : (set : PieceSet) (ob : List ℕ) → AreAtMost (hand_bases set ob) most_hands
hands_at_most set ob = grind (arith, in_hand)

pub squares_at_most : (ob : List ℕ) → AreFewOnBoard ob → AreAtMost (square_bases ob) most_squares
squares_at_most ob few = grind (arith, less_than_ten, choose-small)

pub forms_at_most : (ob : List ℕ) → AreFewOnBoard ob → AreAtMost (form_bases ob) most_forms
forms_at_most ob few = grind (arith, four_small, two_small)

-- and none is 0
abbrev pub AllPositive : List ℕ → Type 0
AllPositive [] = Unit {0}
AllPositive (b ∷ bs) = (0 < b) × AllPositive bs

all_positive : (bs : List ℕ) → AllPositive bs → All (λ (b : ℕ). 0 < b) bs
all_positive [] h k d l = absurd (omega arith)
all_positive (b ∷ bs) h zero d l = h.0
all_positive (b ∷ bs) h (suc k) d l = all_positive bs h.1 k d (omega arith)

pub positive_product : (bs : List ℕ) → AllPositive bs → 0 < product bs
positive_product [] h = below 0
positive_product (b ∷ bs) h = mul-pos h.0 (positive_product bs h.1)

append_positive : (bs cs : List ℕ) → AllPositive bs → AllPositive cs → AllPositive (bs ++ cs)
append_positive [] cs h k = k
append_positive (b ∷ bs) cs h k = (h.0, append_positive bs cs h.1 k)

pub squares_positive : (ob : List ℕ) → AreFewOnBoard ob → AllPositive (square_bases ob)
squares_positive ob few = grind (arith, room_left, choose-positive, le_by)

pub forms_positive : (ob : List ℕ) → AllPositive (form_bases ob)
forms_positive ob = grind (arith, power_positive)

bases_small : (set : PieceSet) (ob : List ℕ) → AreFewOnBoard ob → product (bases_by set ob) ≤ 2 ^ 36
bases_small set ob few =
    let squares = append_at_most (square_bases ob) most_squares (form_bases ob) most_forms (squares_at_most ob few) (forms_at_most ob few) in
    let all = append_at_most (hand_bases set ob) most_hands (own_squares ∷ enemy_squares ∷ local_bases ob)
    (own_squares ∷ enemy_squares ∷ (most_squares ++ most_forms))
    (hands_at_most set ob) (omega arith, (omega arith, squares)) in
    omega (arith, product-at_most (bases_by set ob) (most_hands ++ (own_squares ∷ enemy_squares ∷ (most_squares ++ most_forms))) all)

-- ---- the number of blocks
pub blocks_small : (set : PieceSet) → product (block_bases set) ≤ 27
blocks_small set = product-at_most (block_bases set) (3 ∷ 3 ∷ 3 ∷ []) (grind (arith, one_more))

pub few_in_block : (set : PieceSet) (block : ℕ) → block < product (block_bases set) → HasDigits (block_bases set) (digits_of (block_bases set) block)
few_in_block set block h = HasDigits-digits_of (block_bases set) block h

pub block_size-small : (set : PieceSet) (block : ℕ) → block < product (block_bases set) → block_size set block ≤ 2 ^ 36
block_size-small set block h =
    subst (λ (x : ℕ). x ≤ 2 ^ 36) (sym (block_size-product set block))
    (bases_small set (digits_of (block_bases set) block) (AreFewOnBoard-digits set (digits_of (block_bases set) block) (few_in_block set block h)))

-- ---- sums of blocks
pub sum_below_more : (f : ℕ → ℕ) (n : ℕ) → sum_below f (n + 1) ≡ sum_below f n + f n
sum_below_more f n = ap (sum_below f) (let e : n + 1 ≡ suc n = omega arith in e)

pub size_of_set-sum : (set : PieceSet) → size_of_set set ≡ sum_below (block_size set) (product (block_bases set))
unfolding size_of_set
size_of_set-sum set = refl

-- ---- what the code's lists have

-- bases that can be multiplied: none is 0, and the product is small
pub record AreBases (bs : List ℕ) : Type 0 where
  pub positive : All (λ (b : ℕ). 0 < b) bs
  pub small_product : product bs ≤ 2 ^ 36
  pub fits : product bs < 2 ^ 64

pub AreBases-by : (set : PieceSet) (ob bs : List ℕ) → HasDigits (block_bases set) ob → bs ≡ bases_by set ob → AreBases bs
AreBases-by set ob bs h e =
    let few = AreFewOnBoard-digits set ob h in
    let low = bases_small set ob few in
    let local = append_positive (square_bases ob) (form_bases ob) (squares_positive ob few) (forms_positive ob) in
    rw e (record {
      positive = all_positive (bases_by set ob) (
        omega arith,
        (omega arith, (omega arith, (omega arith, (omega arith, local)))),
      );
      small_product = low;
      fits = omega (arith, low);
    })

pub HasDigits-numbers : (set : PieceSet) (block : ℕ) (xs : List ℕ) → block < product (block_bases set)
    → xs ≡ digits_of (block_bases set) block → HasDigits (block_bases set) xs
HasDigits-numbers set block xs h e = subst (HasDigits (block_bases set)) (sym e) (few_in_block set block h)

-- a block has few runs
pub run_bases-few : (set : PieceSet) (ob : List ℕ) → product (run_bases set ob) ≤ 2 ^ 12
run_bases-few set ob = grind (arith, product-at_most, append_at_most, hands_at_most)

-- digits below their bases are choices of squares
pub AreChoices-digits : (set : PieceSet) (ob ds : List ℕ) → HasDigits (block_bases set) ob → HasDigits (bases_by set ob) ds → AreChoices ob ds
AreChoices-digits set ob ds h k = grind (arith, AreFewOnBoard-digits, digit-at, le_by)

-- a place of a block lies below the size of the set
pub place_below_size : (set : PieceSet) (block place : ℕ) → block < product (block_bases set)
    → place < block_size set block → start_of set block + place < size_of_set set
unfolding size_of_set
place_below_size set block place within below = grind (arith, sum_below-rises)
