-- The steps and drops that sets of squares give are those of the walk over all squares.
use Rattle.dob_moves.proofs.Common.{◌&&◌, ◌<◌, ◌∙◌, ◌∷◌, ◌≡◌, Bool, List, None, Some, [], ap, cond, false, length, nat_lt, option_to_list, refl, true}
use Rattle.dob_moves.proofs.Common.{ℕ, lt-ltb, is_some, one_if, IsCounting, IsQuiet, each_below, is_empty, is_end, is_enemy, is_own, own_kind, leads}
use Rattle.dob_moves.proofs.Common.{Cell, at, held, piece_of, HandKind, Kind, Mover, Profile, Setup, grows_at, may_put, drops_of, put_if, put_on, steps_by, steps_from, steps_if}
use Rattle.dob_moves.proofs.Common.{Elsewhere, Move, Put, Step}
use Rattle.dob_moves.proofs.Masked.{end_is}
use Rattle.dob_moves.proofs.Tables.{step_to}
use Rattle.std.proofs.Common.{rules}

-- ---- the steps of a piece

-- the squares on which its steps may end
abbrev pub may_step : Setup → Kind → ℕ → ℕ → Bool
may_step p kind from to = leads kind from to && is_end (at p to)

-- where a step may end it catches what stands there
pub end_catch : (cell : Cell) → is_end cell ≡ true → is_enemy cell ≡ is_some cell
end_catch None h = refl
end_catch (Some piece) h = h

-- the step to a square
abbrev pub steps_to : Setup → Kind → ℕ → ℕ → List Move
steps_to p kind from to = option_to_list (step_to Elsewhere p kind from to)

abbrev the_step : Setup → Kind → ℕ → ℕ → Move
the_step p kind from to = Step kind from to (is_some (at p to)) (grows_at kind to)

step_by_tests : (a b : Bool) (move : Move) → option_to_list (cond a (cond b (Some move) None) None) ≡ cond (a && b) (move ∷ []) []
step_by_tests true true move = refl
step_by_tests true false move = refl
step_by_tests false b move = refl

-- there is one just on those
pub steps_to-is : (p : Setup) (kind : Kind) (from to : ℕ) → steps_to p kind from to ≡ cond (may_step p kind from to) (the_step p kind from to ∷ []) []
steps_to-is p kind from to = search (rules, step_by_tests, end_is)

pub steps_quiet : (p : Setup) (kind : Kind) (from : ℕ) → IsQuiet (may_step p kind from) (steps_to p kind from)
steps_quiet p kind from to isnt = steps_to-is p kind from to ∙ ap (λ (b : Bool). cond b (the_step p kind from to ∷ []) []) isnt

pub step_there : (p : Setup) (kind : Kind) (from to : ℕ) → may_step p kind from to ≡ true → steps_to p kind from to ≡ the_step p kind from to ∷ []
step_there p kind from to is = steps_to-is p kind from to ∙ ap (λ (b : Bool). cond b (the_step p kind from to ∷ []) []) is

length_if : (b : Bool) (move : Move) → length (cond b (move ∷ []) []) ≡ one_if b
length_if true move = refl
length_if false move = refl

pub steps_counting : (p : Setup) (kind : Kind) (from : ℕ) → IsCounting (may_step p kind from) (steps_to p kind from)
steps_counting p kind from to = ap length (steps_to-is p kind from to) ∙ length_if (may_step p kind from to) (the_step p kind from to)

-- ---- the steps from a square
no_own : (cell : Cell) → is_own cell ≡ false → own_kind cell ≡ None
no_own None h = refl
no_own (Some piece) h = search rules

-- the mover's piece stands there
abbrev pub own_at : Setup → ℕ → Bool
own_at p square = is_own (at p square)

pub from_quiet : (p : Setup) → IsQuiet (own_at p) (steps_from Elsewhere p)
unfolding steps_from
from_quiet p from isnt = ap (steps_if Elsewhere p from) (no_own (at p from) isnt)

-- those of its kind
pub from_kind : (p : Setup) (kind : Kind) (from : ℕ) → at p from ≡ Some (piece_of Mover kind) → steps_from Elsewhere p from ≡ steps_by Elsewhere p kind from
unfolding steps_from
from_kind p kind from e = ap (λ (cell : Cell). steps_if Elsewhere p from (own_kind cell)) e

-- ---- drops

-- nothing stands there, and the profile lets the kind be dropped there
abbrev pub can_put : Profile → Setup → HandKind → ℕ → Bool
can_put profile p kind square = is_empty (at p square) && may_put profile kind square

abbrev pub puts_on : Profile → Setup → HandKind → ℕ → List Move
puts_on profile p kind to = option_to_list (put_on profile p kind to)

put_cell : (cell : Cell) (b : Bool) (kind : HandKind) (to : ℕ)
    → option_to_list (cond b (put_if cell kind to) None) ≡ cond (is_empty cell && b) (Put kind to ∷ []) []
put_cell None true kind to = refl
put_cell None false kind to = refl
put_cell (Some piece) true kind to = refl
put_cell (Some piece) false kind to = refl

puts_on-is : (profile : Profile) (p : Setup) (kind : HandKind) (to : ℕ) → puts_on profile p kind to ≡ cond (can_put profile p kind to) (Put kind to ∷ []) []
puts_on-is profile p kind to = put_cell (at p to) (may_put profile kind to) kind to

pub puts_quiet : (profile : Profile) (p : Setup) (kind : HandKind) → IsQuiet (can_put profile p kind) (puts_on profile p kind)
puts_quiet profile p kind to isnt = puts_on-is profile p kind to ∙ ap (λ (b : Bool). cond b (Put kind to ∷ []) []) isnt

pub put_there : (profile : Profile) (p : Setup) (kind : HandKind) (to : ℕ) → can_put profile p kind to ≡ true → puts_on profile p kind to ≡ Put kind to ∷ []
put_there profile p kind to is = puts_on-is profile p kind to ∙ ap (λ (b : Bool). cond b (Put kind to ∷ []) []) is

pub puts_counting : (profile : Profile) (p : Setup) (kind : HandKind) → IsCounting (can_put profile p kind) (puts_on profile p kind)
puts_counting profile p kind to = ap length (puts_on-is profile p kind to) ∙ length_if (can_put profile p kind to) (Put kind to)

pub drops_none : (profile : Profile) (p : Setup) (kind : HandKind) → held p.hands.mover kind ≡ 0 → drops_of profile p kind ≡ []
unfolding drops_of
drops_none profile p kind e = ap (λ (n : ℕ). cond (nat_lt 0 n) (each_below (puts_on profile p kind) 12) []) e

pub drops_all : (profile : Profile) (p : Setup) (kind : HandKind) → 0 < held p.hands.mover kind
    → drops_of profile p kind ≡ each_below (puts_on profile p kind) 12
unfolding drops_of
drops_all profile p kind some = ap (λ (b : Bool). cond b (each_below (puts_on profile p kind) 12) []) (lt-ltb 0 (held p.hands.mover kind) some)
