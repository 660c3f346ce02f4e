-- Laws of cells: an item that fits never makes the cell's value worse.
use Rattle.dob_share.proofs.Common.{◌≡◌, Cell, CellCanTake, CellValue, Draw, Loss, NoWorse, Value, Win, arith, changed, inl, inr, nat_tests, ℕ}

-- no loss becomes a draw
not_drawn : (was now plies : ℕ) (cell : Cell) → CellValue cell (Loss plies) → CellValue (changed (Win was) (Win now) cell) Draw → ⊥
not_drawn was now plies cell is after = elim after.1 [
  | inl some ↦ (let none : cell.left ≡ 0 = is.1 in omega arith)
  | inr none ↦ (let none_here = none now in grind (arith, nat_tests))
]

no_worse_but : (was now : Value) (cell : Cell) (v w : Value) → CellCanTake was now cell → CellValue cell v → CellValue (changed was now cell) w →
    ((d e a : ℕ) → was ≡ Win d → now ≡ Win e → v ≡ Loss a → w ≡ Draw → ⊥) → NoWorse v w
no_worse_but was now cell v w takes is after no_draw = grind (arith, nat_tests)

pub no_worse : (was now : Value) (cell : Cell) (v w : Value) → CellCanTake was now cell → CellValue cell v → CellValue (changed was now cell) w → NoWorse v w
no_worse was now cell v w takes is after = no_worse_but was now cell v w takes is after
    (λ d e a was_is now_is v_is w_is. not_drawn d e a cell (rw v_is at is) (rw (was_is, now_is, w_is) at after))
