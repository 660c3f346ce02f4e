-- Taking a move back keeps the lions and the other pieces, and the profile allows what stood before just where the piece that was caught may stand again.
use Rattle.dob_unmove.proofs.Common.{if◌then◌else◌, ◌<◌, ◌∙◌, ◌≡◌, Bool, Some, ap, arith, false, inl, inr, length, not, refl, subst, sym, true, true≢false, ℕ}
use Rattle.dob_unmove.proofs.Common.{cases_eq, all_below, all_below-at, leads-to_board, within-from_piece, leads, is_far, may_stand, piece_of, row, Kind}
use Rattle.dob_unmove.proofs.Common.{Chick, Mover, Profile, A, B, none_stands, enemy_cell, Unput, Unstep, IsAllowed}
use Rattle.dob_unmove.proofs.Common.{HasLionOffFarRow, IsLegal, mirrored, total, Family, Setup, IsPositionOf, IsPositionOf-mirrored, IsBoardOf}
use Rattle.dob_unmove.proofs.Common.{IsShown, Board, IsSeenTurned, CanUndo, earlier, may_give_back, RetroMove}
use Rattle.dob_pieces.proofs.Allowed.{stands-from_allowed, allowed-from_stands, IsAllowed-turned}
use Rattle.dob_unmove.proofs.Undone.{leaves, ends_on, came, given, IsBefore, is_before, turned_squares, squares_before, total_before, lions_before}

abbrev pub legal_turned : (family : Family) (after : Setup) → IsSeenTurned (IsPositionOf family) after → IsSeenTurned IsLegal after
legal_turned family after t = (t.0, t.1.of_set.legal, t.2)

-- what stood before a move that led to a position is one too, unless the mover's lion stood on row 4
pub legal_before : (after s : Setup) (u : RetroMove) → CanUndo after u → IsSeenTurned IsLegal after → s ≡ earlier after u → HasLionOffFarRow s → IsLegal s
legal_before after s u can t e home = subst IsLegal (sym e) (record {
  squares = squares_before after t u can;
  lions = lions_before after t u can;
  few = λ kind. omega (arith, total_before after t u can kind, t.1.few kind);
  home = subst HasLionOffFarRow e home;
})

-- ---- what the profile allows

-- a chick that steps comes from below its far row
abbrev comes_below : ℕ → ℕ → Bool
comes_below from to = if leads Chick from to then not (is_far Mover Chick (row from)) else true

all_come : all_below (λ from. all_below (comes_below from) 12) 12 ≡ true
unfolding leads
all_come = refl

departs : (profile : Profile) (kind : Kind) (from to : ℕ) → from < 12 → leads kind from to ≡ true → may_stand profile from (Some (piece_of Mover kind)) ≡ true
departs A kind from to low steps = refl
departs B Chick from to low steps =
    let told : comes_below from to ≡ true = all_below-at (comes_below from) 12 to
    (all_below-at (λ (k : ℕ). all_below (comes_below k) 12) 12 from all_come low) (leads-to_board Chick from to steps) in
    rw steps at told
departs B _ from to low steps = refl

came_stands : (profile : Profile) (after : Setup) (u : RetroMove) → CanUndo after u → may_stand profile (leaves u) (came u) ≡ true
came_stands profile after (Unstep kind from to caught) can = departs profile kind from to can.on_board can.leads
came_stands profile after (Unput kind to) can = none_stands profile 12

given_stands : (profile : Profile) (u : RetroMove) → may_stand profile (ends_on u) (enemy_cell (given u)) ≡ may_give_back profile u
given_stands profile (Unstep kind from to caught) = refl
given_stands profile (Unput kind to) = none_stands profile to

module _ (family : Family) (after : Setup) (u : RetroMove) (can : CanUndo after u) (t : IsSeenTurned (IsPositionOf family) after) where
  abbrev legal : IsSeenTurned IsLegal after
  legal = legal_turned family after t

  changed : IsBefore after u
  changed = is_before after u (turned_squares after legal) can

  allowed_before : may_give_back family.profile u ≡ true → IsAllowed family.profile (earlier after u)
  allowed_before may =
      let allowed : IsAllowed family.profile after = rw t.2 (IsAllowed-turned family.profile t.0 t.1.of_set.legal.squares t.1.allowed) in
      allowed-from_stands family.profile (earlier after u) (squares_before after legal u can)
      (λ k lt. elim (cases_eq k (leaves u)) [
        | inl e ↦ rw (e, changed.from_before) (came_stands family.profile after u can)
        | inr away ↦ elim (cases_eq k (ends_on u)) [
          | inl e ↦ rw (e, changed.to_before) (given_stands family.profile u ∙ may)
          | inr apart ↦
              ap (may_stand family.profile k) (changed.others k away apart)
              ∙ stands-from_allowed family.profile after k (turned_squares after legal) allowed lt
        ]
      ])

  -- where the piece that was caught may not stand again no position of the family stood before
  pub barred : may_give_back family.profile u ≡ false → ¬ IsPositionOf family (earlier after u)
  barred isnt is =
      let on = within-from_piece after (ends_on u) _ changed.to_after in
      let stood = stands-from_allowed family.profile (earlier after u) (ends_on u) is.of_set.legal.squares is.allowed (rw (turned_squares after legal) at on) in
      true≢false (sym stood ∙ ap (may_stand family.profile (ends_on u)) changed.to_before ∙ given_stands family.profile u ∙ isnt)

  -- and where it may a position has the same pieces
  pub position_before : (p : Setup) → may_give_back family.profile u ≡ true → p ≡ earlier after u → IsLegal p → IsPositionOf family p
  position_before p may e is = record {
    of_set = record { legal = is; pieces = λ kind. ap (total kind) e ∙ sym (total_before after legal u can kind) ∙ t.1.of_set.pieces kind };
    allowed = subst (IsAllowed family.profile) (sym e) (allowed_before may);
  }

  -- what sets of squares show of it
  pub shown_before : (board found : Board) → may_give_back family.profile u ≡ true → HasLionOffFarRow (earlier after u) → IsBoardOf after board
      → ((s : Setup) → CanUndo s u → length s.board ≡ 12 → IsBoardOf s board → IsBoardOf (earlier s u) found) → IsShown family (earlier after u) found
  shown_before board found may home are before = record {
    position = position_before (earlier after u) may refl (legal_before after (earlier after u) u can legal refl home);
    squares = before after can (turned_squares after legal) are;
  }

pub position_mirrored : (family : Family) (q image : Setup) → IsPositionOf family q → image ≡ mirrored q → IsPositionOf family image
position_mirrored family q image is e = subst (IsPositionOf family) (sym e) (IsPositionOf-mirrored family q is)
