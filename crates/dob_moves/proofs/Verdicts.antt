-- What the searches say of a position.
use Rattle.dob_moves.proofs.Common.{◌++◌, ◌+◌, ◌∷◌, ◌≡◌, ◌≢◌, Contains, List, MatchOption, None, Option, Some, [], arith, inl, inr, length}
use Rattle.dob_moves.proofs.Common.{refl, subst, sym, ℕ, Contains-append_cases, Contains-append_left, Contains-append_right, none_in_empty}
use Rattle.dob_moves.proofs.Common.{rising-append, rising-pairs, Profile, A, Setup, CanGo, first_drop, place, AreMoves, CanCatch, HasStatus, IsFirstCatch}
use Rattle.dob_moves.proofs.Common.{all_drops, all_steps, first, AtLion, Elsewhere, Move, Put, Step, Status, Open, HasTried}
use Rattle.dob_moves.proofs.ByProfile.{can_go}
use Rattle.dob_moves.proofs.Reach.{steps_go, steps_rising, found_in_steps, drops_sound, drops_rising, drops_whole, go_found, no_catch, is_first_catch, no_move}
use Rattle.dob_moves.proofs.Reach.{step_goes, drop_goes}
use Rattle.dob_moves.proofs.Cases.{one_status}

pub catch_answer : (p : Setup) (o : Option Move) → length p.board ≡ 12 → o ≡ first (all_steps AtLion p) → MatchOption o (¬ CanCatch p) (λ m. IsFirstCatch p m)
catch_answer p None len e = λ (w : CanCatch p). no_catch p len (sym e) w.0 w.1
catch_answer p (Some m) len e = is_first_catch p len m (sym e)

-- by how many there are
first_of_none : (moves : List Move) → 0 ≡ length moves → first moves ≡ None
first_of_none [] h = refl
first_of_none (m ∷ moves) h = absurd (omega arith)

first_of_some : (moves : List Move) → (0 ≡ length moves → ⊥) → (m : Move) × (first moves ≡ Some m)
first_of_some [] h = absurd (h refl)
first_of_some (m ∷ moves) h = (m, refl)

pub some_move : (p : Setup) (steps drops : ℕ) → steps ≡ length (all_steps Elsewhere p) → drops ≡ length (all_drops A p) → (steps + drops ≡ 0 → ⊥)
    → (move : Move) × CanGo A p move
some_move p steps drops e d some = grind (arith, first_of_some, drop_goes, step_goes)

pub no_moves : (p : Setup) (steps drops : ℕ) → length p.board ≡ 12 → steps ≡ length (all_steps Elsewhere p) → drops ≡ length (all_drops A p)
    → steps + drops ≡ 0 → ((move : Move) × CanGo A p move) → ⊥
no_moves p steps drops len e d none w =
    no_move p len (first_of_none (all_steps Elsewhere p) (omega (arith, e, none))) (first_of_none (all_drops A p) (omega (arith, d, none))) w.0 w.1

-- ---- the list of the moves
move_listed : (profile : Profile) (p : Setup) → length p.board ≡ 12 → (m : Move) → CanGo profile p m → Contains (all_steps Elsewhere p ++ all_drops profile p) m
move_listed profile p len (Step kind from to catch grows) h =
    Contains-append_left _ _ _
    (found_in_steps Elsewhere p kind from to (Step kind from to catch grows) len (go_found p kind from to catch grows (can_go profile p (Step kind from to catch grows) h)))
move_listed profile p len (Put kind to) h = Contains-append_right _ _ _ (drops_whole profile p kind to h)

pub listed_goes : (profile : Profile) (p : Setup) (m : Move) → Contains (all_steps Elsewhere p ++ all_drops profile p) m → CanGo profile p m
listed_goes profile p m h =
    elim (Contains-append_cases (all_steps Elsewhere p) (all_drops profile p) m h) [
      | inl step ↦ steps_go profile p m step
      | inr drop ↦ drops_sound profile p m drop
    ]

-- where the game isn't over, the steps and then the drops are the moves
pub going_on : (profile : Profile) (p : Setup) → length p.board ≡ 12 → ¬ CanCatch p → ¬ HasTried p
    → AreMoves profile p (all_steps Elsewhere p ++ all_drops profile p)
going_on profile p len no_catch no_try = record {
  sound = λ m here. let goes = listed_goes profile p m here in ((no_catch, no_try, (m, goes)), goes);
  whole = λ m is_open goes. move_listed profile p len m goes;
  ordered = rising-pairs place 0 (first_drop + 36) (all_steps Elsewhere p ++ all_drops profile p)
      (rising-append place 0 first_drop (first_drop + 36) (all_steps Elsewhere p) (all_drops profile p) (steps_rising Elsewhere p) (drops_rising profile p));
}

-- the steps and then the drops are the moves of an open position
pub open_answer : (profile : Profile) (p : Setup) → length p.board ≡ 12 → HasStatus profile p Open → (none steps all : List Move) → none ≡ []
    → steps ≡ none ++ all_steps Elsewhere p → all ≡ steps ++ all_drops profile p → AreMoves profile p all
open_answer profile p len h none steps all e f g =
    let same : all ≡ all_steps Elsewhere p ++ all_drops profile p = rw (g, f, e) refl in
    subst (λ (ms : List Move). AreMoves profile p ms) (sym same) (going_on profile p len h.0 h.1)

pub not_open : (profile : Profile) (p : Setup) (s : Status) → HasStatus profile p s → s ≢ Open → HasStatus profile p Open → ⊥
not_open profile p s h n is_open = n (one_status profile p s Open h is_open)

-- no other position has moves
pub other_answer : (profile : Profile) (p : Setup) (s : Status) → HasStatus profile p s → s ≢ Open → (none : List Move) → none ≡ [] → AreMoves profile p none
other_answer profile p s h n none e = grind (arith, none_in_empty, not_open, rising-pairs)
