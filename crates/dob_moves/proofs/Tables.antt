-- The steps of each kind lead, in their order, to exactly the squares to which a step of the kind leads, ascending.
use Rattle.dob_moves.proofs.Common.{◌++◌, ◌<◌, ◌∷◌, ◌≡◌, Bool, List, None, Option, Some, [], cond, false, option_to_list, refl, suc, true, zero, ℕ}
use Rattle.dob_moves.proofs.Common.{filter-append, filter_map-append, cons_option, filter, filter_map, all_below, all_below-at, each_below, leads, at, Kind}
use Rattle.dob_moves.proofs.Common.{Lion, Setup, step_by, step_if, step_onto, steps_by, Aim, Move}
use Rattle.dob_pieces.proofs.Lists.{same_list, same_list-true}
use Rattle.dob_pieces.specs.Pieces.{steps_of, square_after}
use Rattle.std.proofs.Common.{rules}

-- the numbers below n
abbrev numbers : ℕ → List ℕ
numbers zero = []
numbers (suc n) = numbers n ++ n ∷ []

-- the squares to which the kind's steps lead
abbrev targets : Kind → ℕ → List ℕ
targets kind from = filter_map (square_after from) (steps_of kind)

abbrev targets_agree : Kind → ℕ → Bool
targets_agree kind from = same_list (targets kind from) (filter (leads kind from) (numbers 12))

targets_all : (kind : Kind) → all_below (targets_agree kind) 12 ≡ true
unfolding leads
targets_all Lion = refl
targets_all _ = refl

targets_are : (kind : Kind) (from : ℕ) → from < 12 → targets kind from ≡ filter (leads kind from) (numbers 12)
targets_are kind from h = same_list-true _ _ (all_below-at (targets_agree kind) 12 from (targets_all kind) h)

-- ---- the steps of a piece, by the square stepped to

-- the step to that square, if the kind leads there and it is where the step is to end
abbrev pub step_to : Aim → Setup → Kind → ℕ → ℕ → Option Move
step_to aim p kind from to = cond (leads kind from to) (step_onto aim (at p to) kind from to) None

onto_one : (aim : Aim) (p : Setup) (kind : Kind) (from : ℕ) (o : Option ℕ) (ds : List ℕ)
    → cons_option (step_if aim p kind from o) (filter_map (λ to. step_onto aim (at p to) kind from to) ds)
    ≡ filter_map (λ to. step_onto aim (at p to) kind from to) (cons_option o ds)
onto_one aim p kind from None ds = refl
onto_one aim p kind from (Some to) ds = refl

by_targets : (aim : Aim) (p : Setup) (kind : Kind) (from : ℕ) (ds : List (ℕ × ℕ))
    → filter_map (step_by aim p kind from) ds ≡ filter_map (λ to. step_onto aim (at p to) kind from to) (filter_map (square_after from) ds)
by_targets aim p kind from [] = refl
by_targets aim p kind from (d ∷ ds) = search (rules, onto_one, (by_targets aim p kind from ds))

last_one : (test : ℕ → Bool) (f : ℕ → Option Move) (k : ℕ) (b : Bool) → filter_map f (cond b (k ∷ []) []) ≡ option_to_list (cond b (f k) None)
last_one test f k false = refl
last_one test f k true = search rules

by_squares : (test : ℕ → Bool) (f : ℕ → Option Move) (n : ℕ)
    → filter_map f (filter test (numbers n)) ≡ each_below (λ k. option_to_list (cond (test k) (f k) None)) n
by_squares test f zero = refl
by_squares test f (suc n) = search (rules, filter-append, filter_map-append, last_one, (by_squares test f n))

-- the steps of a piece are those to each square in turn
pub steps_by-squares : (aim : Aim) (p : Setup) (kind : Kind) (from : ℕ) → from < 12
    → steps_by aim p kind from ≡ each_below (λ to. option_to_list (step_to aim p kind from to)) 12
unfolding steps_by
steps_by-squares aim p kind from h = search (rules, by_targets, targets_are, by_squares)
