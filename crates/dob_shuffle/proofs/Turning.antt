-- Steps on and back along a line, rounds and their undoing, and cells by numbers.
use Rattle.std.proofs.Common.{◌%◌, ◌*◌, ◌+◌, ◌-◌, ◌<◌, ◌∙◌, ◌≡◌, ◌≤◌, ap, arith, inl, inr, refl, ℕ}
use Rattle.std.proofs.lemmas.Bool.{cases_lt}
use Rattle.std.proofs.lemmas.Nat.{div-mul-add, mod_below}
use Rattle.std.proofs.Math.Nat.{add-mod_left, add-mul, div-add-mod', mod-eq_of_lt, mul-le-mul_right}
use Rattle.dob_shuffle.specs.Shuffles.{back, cell_of, column_back, column_on, number_at, number_of, onward, place_of, round, round_back, row_back, row_on}
use Rattle.dob_shuffle.specs.declared.rounds.Cell.{Cell}
use Rattle.dob_shuffle.specs.declared.shuffle.Shuffle.{Shuffle}

-- a number that goes once round a line stands where it stood
round_again : (side n : ℕ) → n < side → (side + n) % side ≡ n
round_again side n within = add-mod_left side n ∙ mod-eq_of_lt within

-- by so many steps, fewer than the line is long
module _ (side steps n : ℕ) (few : steps < side) (within : n < side) where
  on_back : ((n + steps) % side + (side - steps)) % side ≡ n
  on_back = elim (cases_lt (n + steps) side) [
    | inl below ↦
        let first : (n + steps) % side ≡ n + steps = mod-eq_of_lt below in
        let all : (n + steps) + (side - steps) ≡ side + n = omega (arith, few) in
        rw (first, all) (round_again side n within)
    | inr beyond ↦
        let over : n + steps ≡ side + (n + steps - side) = omega (arith, beyond) in
        let first : (n + steps) % side ≡ n + steps - side
        = ap (λ (x : ℕ). x % side) over ∙ round_again side (n + steps - side) (omega (arith, few, within)) in
        let all : (n + steps - side) + (side - steps) ≡ n = omega (arith, few, beyond) in
        rw (first, all) (mod-eq_of_lt within)
  ]

  back_on : ((n + (side - steps)) % side + steps) % side ≡ n
  back_on = elim (cases_lt n steps) [
    | inl below ↦
        let first : (n + (side - steps)) % side ≡ n + (side - steps) = mod-eq_of_lt (omega (arith, below, few)) in
        let all : (n + (side - steps)) + steps ≡ side + n = omega (arith, few) in
        rw (first, all) (round_again side n within)
    | inr beyond ↦
        let over : n + (side - steps) ≡ side + (n - steps) = omega (arith, few, beyond) in
        let first : (n + (side - steps)) % side ≡ n - steps
        = ap (λ (x : ℕ). x % side) over ∙ round_again side (n - steps) (omega (arith, within)) in
        let all : (n - steps) + steps ≡ n = omega (arith, beyond) in
        rw (first, all) (mod-eq_of_lt within)
  ]

module _ (side : ℕ) (some : 0 < side) where
  pub onward_below : (steps n : ℕ) → onward side steps n < side
  onward_below steps n = mod_below _ side some

  pub back_below : (steps n : ℕ) → back side steps n < side
  back_below steps n = mod_below _ side some

  pub onward_back : (steps n : ℕ) → n < side → back side steps (onward side steps n) ≡ n
  onward_back steps n within = on_back side (steps % side) n (mod_below steps side some) within

  pub back_onward : (steps n : ℕ) → n < side → onward side steps (back side steps n) ≡ n
  back_onward steps n within = back_on side (steps % side) n (mod_below steps side some) within

-- a cell of the square
pub record IsOn (side : ℕ) (cell : Cell) : Type 0 where
  pub row : cell.row < side
  pub column : cell.column < side

same_cell : (a b : Cell) → a.row ≡ b.row → a.column ≡ b.column → a ≡ b
same_cell a b r c = λ i. record { row = r i; column = c i }

module _ (side : ℕ) (some : 0 < side) (key : ℕ) where
  round_on : (cell : Cell) → IsOn side (round side key cell)
  round_on cell = record { row = onward_below side some _ _; column = onward_below side some _ _ }

  round_back_on : (cell : Cell) → IsOn side (round_back side key cell)
  round_back_on cell = record { row = back_below side some _ _; column = back_below side some _ _ }

  round_undone : (cell : Cell) → IsOn side cell → round_back side key (round side key cell) ≡ cell
  round_undone cell on =
      let rows : (row_back side key (round side key cell)).row ≡ cell.row = onward_back side some _ cell.row on.row in
      let first : row_back side key (round side key cell) ≡ column_on side key cell = same_cell _ _ rows refl in
      ap (column_back side key) first ∙ same_cell _ _ refl (onward_back side some _ cell.column on.column)

  round_done : (cell : Cell) → IsOn side cell → round side key (round_back side key cell) ≡ cell
  round_done cell on =
      let columns : (column_on side key (round_back side key cell)).column ≡ cell.column = back_onward side some _ cell.column on.column in
      let first : column_on side key (round_back side key cell) ≡ row_back side key cell = same_cell _ _ refl columns in
      ap (row_on side key) first ∙ same_cell _ _ (back_onward side some _ cell.row on.row) refl

-- ---- cells and numbers

module _ (side : ℕ) where
  number_below : (cell : Cell) → IsOn side cell → number_of side cell < side * side
  number_below cell on =
      let rows : (cell.row + 1) * side ≤ side * side = mul-le-mul_right side (omega (arith, on.row)) in
      omega (arith, rows, add-mul cell.row 1 side, on.column)

  some_side : (n : ℕ) → n < side * side → 0 < side
  some_side n within = grind arith

  cell_on : (n : ℕ) → n < side * side → IsOn side (cell_of side n)
  cell_on n within = record { row = grind (arith); column = mod_below n side (some_side n within) }

  number_again : (n : ℕ) → number_of side (cell_of side n) ≡ n
  number_again n = div-add-mod' n side

  cell_again : (cell : Cell) → IsOn side cell → cell_of side (number_of side cell) ≡ cell
  cell_again cell on = same_cell _ _ (div-mul-add cell.row side cell.column on.column) (grind arith)

-- ---- the order

module _ (s : Shuffle) (n : ℕ) (within : n < s.side * s.side) where
  some : 0 < s.side
  some = some_side s.side n within

  pub number_at-below : number_at s n < s.side * s.side
  number_at-below = number_below s.side _ (round_on s.side some s.third _)

  pub place_of-below : place_of s n < s.side * s.side
  place_of-below = number_below s.side _ (round_back_on s.side some s.first _)

  pub place_again : place_of s (number_at s n) ≡ n
  place_again =
      let a = cell_of s.side n in
      let b = round s.side s.first a in
      let c = round s.side s.second b in
      let d = round s.side s.third c in
      let undone = round_undone s.side some in
      let first : cell_of s.side (number_of s.side d) ≡ d = cell_again s.side d (round_on s.side some s.third c) in
      let last : round_back s.side s.third d ≡ c = undone s.third c (round_on s.side some s.second b) in
      let middle : round_back s.side s.second c ≡ b = undone s.second b (round_on s.side some s.first a) in
      let begun : round_back s.side s.first b ≡ a = undone s.first a (cell_on s.side n within) in
      let back_by : Cell → ℕ
      = λ cell. number_of s.side (round_back s.side s.first (round_back s.side s.second (round_back s.side s.third cell))) in
      ap back_by first ∙ ap (λ cell. number_of s.side (round_back s.side s.first (round_back s.side s.second cell))) last
      ∙ ap (λ cell. number_of s.side (round_back s.side s.first cell)) middle ∙ ap (number_of s.side) begun ∙ number_again s.side n

  pub number_at-place_of : number_at s (place_of s n) ≡ n
  number_at-place_of =
      let a = cell_of s.side n in
      let b = round_back s.side s.third a in
      let c = round_back s.side s.second b in
      let d = round_back s.side s.first c in
      let done = round_done s.side some in
      let first : cell_of s.side (number_of s.side d) ≡ d = cell_again s.side d (round_back_on s.side some s.first c) in
      let last : round s.side s.first d ≡ c = done s.first c (round_back_on s.side some s.second b) in
      let middle : round s.side s.second c ≡ b = done s.second b (round_back_on s.side some s.third a) in
      let begun : round s.side s.third b ≡ a = done s.third a (cell_on s.side n within) in
      let on_by : Cell → ℕ = λ cell. number_of s.side (round s.side s.third (round s.side s.second (round s.side s.first cell))) in
      ap on_by first ∙ ap (λ cell. number_of s.side (round s.side s.third (round s.side s.second cell))) last
      ∙ ap (λ cell. number_of s.side (round s.side s.third cell)) middle ∙ ap (number_of s.side) begun ∙ number_again s.side n
