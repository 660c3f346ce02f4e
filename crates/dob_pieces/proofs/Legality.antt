-- What the tests of a position show.
use Rattle.dob_pieces.proofs.Common.{◌+◌, ◌∙◌, ◌≡◌, List, None, arith, drop, false, length, sym, true, false_from_ne_true, get_or-drop, get_or_default}
use Rattle.dob_pieces.proofs.Common.{take_all, Any, list_any, Cell, HasLions, holds_lion, Enemy, Mover, Setup}
use Rattle.std.proofs.Common.{take, count_by, length-drop}
use Rattle.std.proofs.lemmas.List.Folds.{Any-from_list_any, list_any_at}
use Rattle.dob_pieces.specs.Setups.{HasLionOffFarRow}
use Rattle.dob_pieces.proofs.Boards.{within-from_piece}
use Rattle.dob_pieces.proofs.Attacks.{is_that_lion}

-- one lion of the mover and one of the enemy
pub HasLions-from_counts : (s : Setup) → count_by (holds_lion Mover) s.board ≡ 1 → count_by (holds_lion Enemy) s.board ≡ 1 → HasLions s
HasLions-from_counts s m e Mover = m
HasLions-from_counts s m e Enemy = e

-- no square of row 4 has the mover's lion
pub HasLionOffFarRow-from_test : (s : Setup) → list_any (holds_lion Mover) (drop 9 s.board) ≡ false → HasLionOffFarRow s
HasLionOffFarRow-from_test s h k low e = grind (arith, within-from_piece, list_any_at)

-- so the test fails where a square of row 4 has it
pub test-from_HasLionOffFarRow : (s : Setup) → HasLionOffFarRow s → list_any (holds_lion Mover) (drop 9 s.board) ≡ false
test-from_HasLionOffFarRow s home =
    false_from_ne_true _ (λ (h : list_any (holds_lion Mover) (drop 9 s.board) ≡ true).
    let some : Any (λ x. holds_lion Mover x ≡ true) (drop 9 s.board) = Any-from_list_any (holds_lion Mover) (drop 9 s.board) h in
    home (9 + some.0) (omega arith)
    (sym (get_or-drop 9 s.board some.0 None) ∙ get_or_default (drop 9 s.board) some.0 None some.1 some.2 ∙ some.3 ∙ is_that_lion Mover some.1 some.4))

-- row 4 is the last three of the twelve squares
pub far_row : (board : List Cell) → length board ≡ 12 → take 3 (drop 9 board) ≡ drop 9 board
far_row board e = take_all 3 (drop 9 board) (omega (arith, length-drop 9 board))
