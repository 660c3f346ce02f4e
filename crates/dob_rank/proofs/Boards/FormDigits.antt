-- Forms as digits: a layer's forms number comes back from the board of it, and so does each board.
use Rattle.dob_rank.proofs.Common.{◌%◌, ◌*◌, ◌+◌, ◌/◌, ◌<◌, ◌^◌, ◌∙◌, ◌∷◌, ◌≡◌, ◌≤◌, List, [], ap, arith, map, refl, subst, suc, sym, zero, ℕ, mod-mul, mod-one}
use Rattle.dob_rank.proofs.Common.{pow-succ', pow-zero, eq-eqb, ne_eqb, mod_below, same_from_place, Cell, base_of, board_of, cell_of, count, forms_number}
use Rattle.dob_rank.proofs.Common.{layer, order, form, Empty, nat_tests}
use Rattle.dob_rank.proofs.Arithmetic.MixedRadix.{digit_below}
use Rattle.dob_rank.proofs.Boards.Choices.{count_same}
use Rattle.dob_rank.proofs.Boards.Settled.{AreLayers}
use Rattle.dob_rank.proofs.Boards.EachCell.{of_cell}

-- ---- the pieces of a layer and their forms
pub form-below : (cell : Cell) → form cell < base_of (layer cell)
form-below = of_cell (λ c. form c < base_of (layer c)) (omega arith) (search arith) (search arith)

pub layer-bound : (cell : Cell) → layer cell ≤ order Empty
layer-bound = of_cell (λ c. layer c ≤ order Empty) (omega arith) (grind arith) (grind arith)

pub AreLayers-map : (cells : List Cell) → AreLayers (map layer cells)
AreLayers-map [] = tt
AreLayers-map (cell ∷ cells) = (layer-bound cell, AreLayers-map cells)

-- the cell of a cell's layer and form is that cell
pub cell_of-cell : (cell : Cell) → cell_of (layer cell) (form cell) ≡ cell
cell_of-cell = of_cell (λ cell. cell_of (layer cell) (form cell) ≡ cell) refl (refl, refl, refl, refl, refl) (refl, refl, refl, refl, refl)

-- a cell made has its layer
pub layer-cell_of : (l f : ℕ) → l ≤ order Empty → layer (cell_of l f) ≡ l
layer-cell_of (suc (suc zero)) (suc (suc (suc f))) h = refl
layer-cell_of (suc (suc (suc zero))) (suc f) h = refl
layer-cell_of (suc (suc (suc (suc zero)))) (suc f) h = refl
layer-cell_of (suc (suc (suc (suc (suc (suc l)))))) f h = absurd (omega arith)
layer-cell_of l f h = refl

-- a cell made has its form
pub form-cell_of : (l f : ℕ) → l < order Empty → f < base_of l → form (cell_of l f) ≡ f
form-cell_of (suc (suc zero)) (suc (suc (suc (suc f)))) h k = omega arith
form-cell_of (suc (suc (suc zero))) (suc (suc f)) h k = omega arith
form-cell_of (suc (suc (suc (suc zero)))) (suc (suc f)) h k = omega arith
form-cell_of (suc (suc (suc (suc (suc l))))) f h k = omega arith
form-cell_of l f h k = omega arith

pub base_of-positive : (t : ℕ) → 0 < base_of t
base_of-positive (suc (suc (suc (suc (suc t))))) = omega arith
base_of-positive t = omega arith

pub power_positive : (b k : ℕ) → 0 < b → 0 < b ^ k
power_positive b zero h = omega (arith, pow-zero b)
power_positive b (suc k) h = subst (λ (x : ℕ). 0 < x) (sym (pow-succ' b k)) (omega (arith, digit_below 0 b (b ^ k) 0 h (power_positive b k h)))

-- ---- one more cell in front
pub forms_number_same : (t : ℕ) (cell : Cell) (cells : List Cell) → layer cell ≡ t
    → forms_number t (cell ∷ cells) ≡ form cell * base_of t ^ count t (map layer cells) + forms_number t cells
forms_number_same t cell cells h = rw (eq-eqb (layer cell) t h) refl

pub forms_number_other : (t : ℕ) (cell : Cell) (cells : List Cell) → (layer cell ≡ t → ⊥) → forms_number t (cell ∷ cells) ≡ forms_number t cells
forms_number_other t cell cells h = rw (ne_eqb (layer cell) t h) (omega arith)

-- the forms number is below the power of the base
pub forms_number-below : (t : ℕ) (cells : List Cell) → forms_number t cells < base_of t ^ count t (map layer cells)
forms_number-below t [] = omega (arith, pow-zero (base_of t))
forms_number-below t (cell ∷ cells) =
    let rest = forms_number-below t cells in
    let low = digit_below (form cell) (base_of t) (base_of t ^ count t (map layer cells)) (forms_number t cells) in
    grind (arith, nat_tests, rest, low, form-below cell, pow-succ' (base_of t) (count t (map layer cells)))

-- ---- back and forth

-- the two low digits of a number
digits_apart : (n b w d r : ℕ) → 0 < b → 0 < w → n % (b * w) ≡ d * w + r → r < w → (n / w % b ≡ d) × (n % w ≡ r)
digits_apart n b w d r hb hw e hr = same_from_place (n / w % b) (n % w) d r w (mod_below n w hw) hr (sym (mod-mul n hb hw) ∙ e)

-- the board made of a board's layers and forms numbers is that board
pub board_of-back : (numbers : ℕ → ℕ) (cells : List Cell)
    → ((t : ℕ) → numbers t % base_of t ^ count t (map layer cells) ≡ forms_number t cells) → board_of numbers (map layer cells) ≡ cells
board_of-back numbers [] h = refl
board_of-back numbers (cell ∷ cells) h =
    let l = layer cell in
    let b = base_of l in
    let n = count l (map layer cells) in
    let here = rw (count_same l (map layer cells), pow-succ' b n, forms_number_same l cell cells refl) at (h l) in
    let two = digits_apart (numbers l) b (b ^ n) (form cell) (forms_number l cells) (base_of-positive l) (power_positive b n (base_of-positive l)) here
    (forms_number-below l cells) in
    let rest = board_of-back numbers cells (λ t. grind (arith, nat_tests, h t, two.1)) in
    ap (λ (x : Cell). x ∷ board_of numbers (map layer cells)) (ap (cell_of l) two.0 ∙ cell_of-cell cell) ∙ ap (λ (xs : List Cell). cell ∷ xs) rest

pub layers-board_of : (numbers : ℕ → ℕ) (ls : List ℕ) → AreLayers ls → map layer (board_of numbers ls) ≡ ls
layers-board_of numbers [] a = refl
layers-board_of numbers (l ∷ ls) a = rw (layer-cell_of l (numbers l / base_of l ^ count l ls % base_of l) a.0, layers-board_of numbers ls a.1)

-- the forms number of the board made is the number that it was made from
pub forms_number-board_of : (numbers : ℕ → ℕ) (t : ℕ) (ls : List ℕ) → t < order Empty → AreLayers ls
    → forms_number t (board_of numbers ls) ≡ numbers t % base_of t ^ count t ls
forms_number-board_of numbers t [] h a = sym (ap (λ (x : ℕ). numbers t % x) (pow-zero (base_of t)) ∙ mod-one (numbers t))
forms_number-board_of numbers t (l ∷ ls) h a =
    let f = numbers l / base_of l ^ count l ls % base_of l in
    let low = mod_below (numbers l / base_of l ^ count l ls) (base_of l) (base_of-positive l) in
    let split = mod-mul (numbers t) (base_of-positive t) (power_positive (base_of t) (count t ls) (base_of-positive t)) in
    let rest = forms_number-board_of numbers t ls h a.1 in
    let layers = layers-board_of numbers ls a.1 in
    grind (arith, nat_tests, layer-cell_of l f a.0, layers, rest, form-cell_of l f, low, pow-succ' (base_of t) (count t ls), split)
