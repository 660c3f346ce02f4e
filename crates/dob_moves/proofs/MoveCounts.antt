-- Moves counted piece by piece.
use Rattle.dob_moves.proofs.Common.{if◌then◌else◌, ◌*◌, ◌++◌, ◌+◌, ◌||◌, ◌∙◌, ◌∷◌, ◌≡◌, ◌≢◌, ◌≤◌, Bool, Contains, List, None, Option, Some, [], ap, arith}
use Rattle.dob_moves.proofs.Common.{false, length, refl, true, ℕ, length-append, is_some, head_in, IsWalked, squares_in, walk_end, walk_few, walk_most}
use Rattle.dob_moves.proofs.Common.{walk_next, walk_passes, walk_start, IsMask, Profile, Setup, HasStatus, all_drops, all_steps, first, steps_from}
use Rattle.dob_moves.proofs.Common.{AtLion, Elsewhere, Move, Status, Open}
use Rattle.dob_moves.proofs.Listed.{own_at, from_quiet}
use Rattle.dob_moves.specs.MoveLists.{has_tried, moves_of}
use Rattle.dob_moves.proofs.Cases.{one_status}
use Rattle.dob_moves.proofs.MoveLists.{tried_at, AreMoves-moves_of}
use Rattle.dob_moves.proofs.Verdicts.{catch_answer}

-- ---- all moves
by_tests : (profile : Profile) (p : Setup) → length p.board ≡ 12 → HasStatus profile p Open → (o : Option Move) (tried : Bool) → o ≡ first (all_steps AtLion p) →
    has_tried p ≡ tried → (moves : List Move) → (if is_some o || tried then [] else moves) ≡ moves
by_tests profile p twelve is_open (Some m) tried e h moves =
    let catch = catch_answer p (Some m) twelve e in
    absurd (is_open.0 (m, catch.catches))
by_tests profile p twelve is_open None true e h moves = absurd (is_open.1 (tried_at p _ _ _ refl refl refl h))
by_tests profile p twelve is_open None false e h moves = refl

-- an open position has its steps and drops
pub open_count : (profile : Profile) (p : Setup) (steps drops : ℕ) → length p.board ≡ 12 → HasStatus profile p Open → steps ≡ length (all_steps Elsewhere p) →
    drops ≡ length (all_drops profile p) → steps + drops ≡ length (moves_of profile p)
unfolding moves_of
open_count profile p steps drops twelve is_open first_is then_is =
    let all : moves_of profile p ≡ all_steps Elsewhere p ++ all_drops profile p =
    by_tests profile p twelve is_open (first (all_steps AtLion p)) (has_tried p) refl refl (all_steps Elsewhere p ++ all_drops profile p) in
    omega (arith, ap length all, length-append (all_steps Elsewhere p) (all_drops profile p))

nothing_there : (P : Type 0) (moves : List Move) → ((m : Move) → Contains moves m → P) → ¬ P → 0 ≡ length moves
nothing_there P [] sound isnt = refl
nothing_there P (m ∷ moves) sound isnt = absurd (isnt (sound m (head_in m moves)))

-- any other has none
pub other_count : (profile : Profile) (p : Setup) (s : Status) → length p.board ≡ 12 → HasStatus profile p s → s ≢ Open → 0 ≡ length (moves_of profile p)
other_count profile p s twelve is other =
    nothing_there (HasStatus profile p Open) (moves_of profile p) (λ m there. ((AreMoves-moves_of profile p twelve).sound m there).0)
    (λ is_open. other (one_status profile p s Open is is_open))

-- ---- by sets

-- Steps counted while the squares of a set are gone over: the items are those whose number is known.
pub record AreCounted (p : Setup) (left : ℕ) (walked : List ℕ) (count : ℕ) : Type 0 where
  pub items : List Move
  pub walk : IsWalked (own_at p) (steps_from Elsewhere p) left walked [] items
  pub number : count ≡ length items
  pub few : count ≤ 12 * length walked

pub count_start : (p : Setup) (own : ℕ) → IsMask (own_at p) own → AreCounted p own [] 0
count_start p own are = record { items = []; walk = walk_start (own_at p) (steps_from Elsewhere p) own [] are; number = refl; few = omega arith }

module _ {p : Setup} {left count : ℕ} {walked : List ℕ} (w : AreCounted p left walked count) where
  -- one more square
  module _ {place : ℕ} {others : List ℕ} (next : squares_in left ≡ place ∷ others) where
    pub count_small : {steps : ℕ} → steps ≤ 12 → count + steps ≤ 12 * 12
    count_small few = omega (arith, w.few, walk_few w.walk next, few)

    pub count_next : {after steps : ℕ} → others ≡ squares_in after → (own_at p place ≡ true → steps ≡ length (steps_from Elsewhere p place)) → steps ≤ 12
        → AreCounted p after (walked ++ place ∷ []) (count + steps)
    count_next same is few = record {
      items = w.items ++ steps_from Elsewhere p place;
      walk = walk_next w.walk next same (λ passes. refl);
      number = omega (arith, length-append w.items (steps_from Elsewhere p place), is (walk_passes w.walk next), w.number);
      few = omega (arith, length-append walked (place ∷ []), w.few, few);
    }

  pub count_end : squares_in left ≡ [] → (count ≡ length (all_steps Elsewhere p)) × (count ≤ 12 * 12)
  unfolding all_steps
  count_end none = (w.number ∙ ap length (walk_end w.walk (from_quiet p) none), omega (arith, w.few, walk_most w.walk))
