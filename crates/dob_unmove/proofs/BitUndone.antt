-- Sets of squares when a move is taken back.
use Rattle.dob_unmove.proofs.Common.{◌<◌, ◌∙◌, ◌≡◌, ◌≢◌, None, Option, Some, ap, arith, length, sym, ℕ, get_or-set_other, get_or-set_same, length-set}
use Rattle.dob_unmove.proofs.Common.{within-from_piece, kind_on_board, Cell, at, piece_of, with_one_more, Hand, Hands, HandKind, Kind, Mover, Setup, with_cell}
use Rattle.dob_unmove.proofs.Common.{with_cells, with_hands, with_one, IsBoardOf, IsWith, Board, CanUndo, CanUnstep, earlier, enemy_cell, without_caught}
use Rattle.dob_unmove.proofs.Common.{Unput, Unstep}

-- a square on which nothing stands isn't one with a piece
apart : (s : Setup) (from to : ℕ) (kind : Kind) → at s from ≡ None → at s to ≡ Some (piece_of Mover kind) → from ≢ to
apart s from to kind empty stands e = let both = sym empty ∙ ap (at s) e ∙ stands in cc

-- what a function does that puts a cell on an empty square
abbrev pub PutsOn : Board → ℕ → Cell → Board → Type 0
PutsOn old square cell new = (before after : Setup) → at before square ≡ None → IsWith before after square cell → IsBoardOf before old
    → IsBoardOf after new

pub step_undone : (after : Setup) (kind : Kind) (from to : ℕ) (caught : Option Kind) → length after.board ≡ 12 → CanUnstep after kind from to caught
    → (board cleared given own : Board) (hand : Hand) → IsBoardOf after board
    → ((before next : Setup) → IsWith before next to None → IsBoardOf before board → IsBoardOf next cleared)
    → PutsOn cleared to (enemy_cell caught) given → PutsOn given from (Some (piece_of Mover kind)) own
    → hand ≡ without_caught board.hands.mover caught
    → IsBoardOf (earlier after (Unstep kind from to caught)) (record own { hands = record { mover = hand; enemy = board.hands.enemy } })
unfolding earlier
step_undone after kind from to caught twelve can board cleared given own hand are clear give put h =
    let low : to < 12 = omega (arith, twelve, within-from_piece after to _ can.stands) in
    let other = apart after from to _ can.empty can.stands in
    let one = with_cell after to None in
    let two = with_cell after to (enemy_cell caught) in
    let three = with_cell two from (Some (piece_of Mover kind)) in
    let a = clear after one (with_one after to None twelve low) are in
    let b = give one two (get_or-set_same after.board to None None (omega (arith, twelve, low))) (with_cells after to None (enemy_cell caught) twelve low) a in
    let c = put two three (get_or-set_other after.board to from (enemy_cell caught) None other ∙ can.empty)
    (with_one two from (Some (piece_of Mover kind)) (length-set after.board to (enemy_cell caught) ∙ twelve) can.on_board) b in
    with_hands three own (record after.hands { mover = without_caught after.hands.mover caught }) _
    (ap (λ (m : Hand). record { mover = m; enemy = board.hands.enemy }) h
    ∙ ap (λ (hs : Hands). record hs { mover = without_caught hs.mover caught }) are.hands_are) c

pub drop_undone : (after : Setup) (kind : HandKind) (to : ℕ) → length after.board ≡ 12 → CanUndo after (Unput kind to)
    → (board cleared : Board) (hand : Hand) → IsBoardOf after board
    → ((before next : Setup) → IsWith before next to None → IsBoardOf before board → IsBoardOf next cleared)
    → hand ≡ with_one_more board.hands.mover kind
    → IsBoardOf (earlier after (Unput kind to)) (record cleared { hands = record { mover = hand; enemy = board.hands.enemy } })
unfolding earlier
drop_undone after kind to twelve can board cleared hand are clear h =
    let low : to < 12 = omega (arith, twelve, within-from_piece after to (piece_of Mover (kind_on_board kind)) can) in
    let one = with_cell after to None in
    with_hands one cleared (record after.hands { mover = with_one_more after.hands.mover kind }) _
    (ap (λ (m : Hand). record { mover = m; enemy = board.hands.enemy }) h
    ∙ ap (λ (hs : Hands). record hs { mover = with_one_more hs.mover kind }) are.hands_are)
    (clear after one (with_one after to None twelve low) are)
