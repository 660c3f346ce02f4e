-- What a move by the rules of a profile leads to is allowed by it: no chick is dropped on its far row, and one that steps there grows.
use Rattle.dob_moves.proofs.Common.{◌<◌, ◌∙◌, ◌≡◌, Bool, List, None, Some, ap, arith, false, length, not, refl, set, slice_index_or, subst, sym, true, ℕ}
use Rattle.dob_moves.proofs.Common.{length-set, leads-to_board, within-from_piece, IsAllowed, may_stand, Cell, piece_of, HandKind, Kind, Chick, Mover, Profile}
use Rattle.dob_moves.proofs.Common.{A, B, Setup, Goes, HasOutcome, grows_at, may_put, arrives_as, dropped, stepped, Move, Put, Step}
use Rattle.dob_pieces.proofs.Allowed.{stands-from_allowed, allowed-from_stands, IsAllowed-turned}
use Rattle.dob_moves.proofs.ByProfile.{goes, may}
use Rattle.dob_moves.proofs.Outcomes.{step_parts, HasOutcome-is, length-stepped, length-dropped, IsStep-from}
use Rattle.std.proofs.Common.{rules}

-- ---- boards by a profile

-- what stands on each of the twelve squares may stand there
abbrev pub Stand : Profile → List Cell → Type 0
Stand profile board = (k : ℕ) → k < 12 → may_stand profile k (slice_index_or board k None) ≡ true

pub stand-set : (profile : Profile) (board : List Cell) (i : ℕ) (cell : Cell) → i < length board → may_stand profile i cell ≡ true
    → Stand profile board → Stand profile (set board i cell)
stand-set profile board i cell within here stand k lt = search rules

pub none_stands : (profile : Profile) (k : ℕ) → may_stand profile k None ≡ true
none_stands A k = refl
none_stands B k = refl

-- ---- what a step puts down

-- a chick that doesn't grow stays below its far row, and any other piece of the mover may stand anywhere
arrival_stands : (profile : Profile) (kind : Kind) (to : ℕ) (grows : Bool) → grows_at kind to ≡ grows
    → may_stand profile to (Some (piece_of Mover (arrives_as kind grows))) ≡ true
arrival_stands A kind to grows e = refl
arrival_stands B kind to true e = refl
arrival_stands B Chick to false e = ap not e
arrival_stands B _ to false e = refl

-- ---- a step and a drop
allowed-stepped : (profile : Profile) (p : Setup) (kind : Kind) (from to : ℕ) (catch grows : Bool) (q : Setup) → length p.board ≡ 12
    → IsAllowed profile p → HasOutcome p (Step kind from to catch grows) q → IsAllowed profile (stepped p kind from to grows)
unfolding stepped
allowed-stepped profile p kind from to catch grows q twelve allowed g =
    let step = IsStep-from p kind from to catch grows q g in
    let on = leads-to_board kind from to step.leads in
    let within : from < length p.board = within-from_piece p from (piece_of Mover kind) step.own in
    let lifted : length (set p.board from None) ≡ 12 = length-set p.board from None ∙ twelve in
    allowed-from_stands profile (stepped p kind from to grows) (length-stepped p kind from to grows twelve step)
    (stand-set profile (set p.board from None) to (Some (piece_of Mover (arrives_as kind grows))) (omega (arith, on, lifted))
    (arrival_stands profile kind to grows (step_parts p kind from to q catch grows g).grows_is)
    (stand-set profile p.board from None within (none_stands profile from) (λ k lt. stands-from_allowed profile p k twelve allowed lt)))

allowed-dropped : (profile : Profile) (p : Setup) (put : HandKind) (to : ℕ) → length p.board ≡ 12 → IsAllowed profile p → to < 12
    → may_put profile put to ≡ true → IsAllowed profile (dropped p put to)
unfolding dropped
allowed-dropped profile p put to twelve allowed on here = search (rules, allowed-from_stands, stands-from_allowed)

-- ---- the outcome of a move
pub IsAllowed-Goes : (profile : Profile) (p : Setup) (m : Move) (q : Setup) → length p.board ≡ 12 → IsAllowed profile p → Goes profile p m q → IsAllowed profile q
IsAllowed-Goes profile p (Step kind from to catch grows) q twelve allowed by =
    let g = goes profile p (Step kind from to catch grows) q by in
    let step = IsStep-from p kind from to catch grows q g in
    subst (λ (r : Setup). IsAllowed profile r) (sym (HasOutcome-is p (Step kind from to catch grows) q g))
    (IsAllowed-turned profile (stepped p kind from to grows) (length-stepped p kind from to grows twelve step)
    (allowed-stepped profile p kind from to catch grows q twelve allowed g))
IsAllowed-Goes profile p (Put put to) q twelve allowed by =
    let g = goes profile p (Put put to) q by in
    subst (λ (r : Setup). IsAllowed profile r) (sym (HasOutcome-is p (Put put to) q g))
    (IsAllowed-turned profile (dropped p put to) (length-dropped p put to twelve g.in_hand g.on_board g.free)
    (allowed-dropped profile p put to twelve allowed g.on_board (may profile p (Put put to) q by)))

pub ruleset kept = (IsAllowed-Goes)
