-- The list of a position's moves has just its moves.
use Rattle.dob_moves.proofs.Common.{if◌then◌else◌, ◌++◌, ◌<◌, ◌||◌, ◌≡◌, Bool, None, Option, Some, [], ap, arith, false, length, refl, suc, true, zero, ℕ}
use Rattle.dob_moves.proofs.Common.{is_some, at, holds_lion, piece_of, Lion, Enemy, Profile, Setup, AreMoves, HasTried, all_drops, all_steps, first, AtLion}
use Rattle.dob_moves.proofs.Common.{Elsewhere, Move, Caught, Tried}
use Rattle.dob_moves.specs.MoveLists.{has_tried, moves_of}
use Rattle.dob_moves.proofs.Verdicts.{catch_answer, other_answer, going_on}
use Rattle.dob_pieces.proofs.Attacks.{is_that_lion}

pub tried_at : (p : Setup) (a b c : Bool) → holds_lion Enemy (at p 0) ≡ a → holds_lion Enemy (at p 1) ≡ b → holds_lion Enemy (at p 2) ≡ c
    → a || (b || c) ≡ true → HasTried p
tried_at p true b c at_a at_b at_c h = (0, omega arith, is_that_lion Enemy (at p 0) at_a)
tried_at p false true c at_a at_b at_c h = (1, omega arith, is_that_lion Enemy (at p 1) at_b)
tried_at p false false true at_a at_b at_c h = (2, omega arith, is_that_lion Enemy (at p 2) at_c)
tried_at p false false false at_a at_b at_c h = cc

pub not_tried_at : (p : Setup) (a b c : Bool) → holds_lion Enemy (at p 0) ≡ a → holds_lion Enemy (at p 1) ≡ b → holds_lion Enemy (at p 2) ≡ c
    → a || (b || c) ≡ false → (square : ℕ) → square < 3 → at p square ≡ Some (piece_of Enemy Lion) → ⊥
not_tried_at p false false false at_a at_b at_c h zero low e = let lion : holds_lion Enemy (at p 0) ≡ true = ap (holds_lion Enemy) e in cc
not_tried_at p false false false at_a at_b at_c h (suc zero) low e = let lion : holds_lion Enemy (at p 1) ≡ true = ap (holds_lion Enemy) e in cc
not_tried_at p false false false at_a at_b at_c h (suc (suc zero)) low e = let lion : holds_lion Enemy (at p 2) ≡ true = ap (holds_lion Enemy) e in cc
not_tried_at p false false false at_a at_b at_c h (suc (suc (suc square))) low e = absurd (omega (arith, low))
not_tried_at p _ _ _ at_a at_b at_c h square low e = cc

by_tests : (profile : Profile) (p : Setup) → length p.board ≡ 12 → (o : Option Move) (tried : Bool) → o ≡ first (all_steps AtLion p) → has_tried p ≡ tried
    → AreMoves profile p (if is_some o || tried then [] else all_steps Elsewhere p ++ all_drops profile p)
by_tests profile p twelve (Some m) tried e h =
    let catch = catch_answer p (Some m) twelve e in
    other_answer profile p Caught (m, catch.catches) (λ same. cc) [] refl
by_tests profile p twelve None true e h =
    let no_catch = catch_answer p None twelve e in
    other_answer profile p Tried (no_catch, tried_at p _ _ _ refl refl refl h) (λ same. cc) [] refl
by_tests profile p twelve None false e h =
    going_on profile p twelve (catch_answer p None twelve e)
    (λ try. not_tried_at p _ _ _ refl refl refl h try.0 try.1 try.2)

pub AreMoves-moves_of : (profile : Profile) (p : Setup) → length p.board ≡ 12 → AreMoves profile p (moves_of profile p)
unfolding moves_of
AreMoves-moves_of profile p twelve = by_tests profile p twelve (first (all_steps AtLion p)) (has_tried p) refl refl
