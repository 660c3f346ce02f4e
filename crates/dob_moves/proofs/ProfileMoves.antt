-- What moves by the rules of a profile lead to, and their mirror images.
use Rattle.dob_moves.proofs.Common.{◌<◌, ◌∙◌, ◌≡◌, None, Some, ap, arith, length, not, refl, subst, sym, true, ℕ, get_or-set_same, IsLegal-mirrored}
use Rattle.dob_moves.proofs.Common.{length-turned, kind_on_board, IsAllowed, is_far, may_stand, IsLegal, mirrored, piece_of, total, turned, mirrored_square}
use Rattle.dob_moves.proofs.Common.{HandKind, Mover, Profile, A, B, Setup, mirrored_move, CanGo, Goes, HasOutcome, may_go, may_put, dropped, moved, HasStatus}
use Rattle.dob_moves.proofs.Common.{HasTried, Move, Put, Step, Status}
use Rattle.dob_pieces.proofs.Allowed.{stands-from_allowed, IsAllowed-turned}
use Rattle.dob_pieces.proofs.Symmetries.{turned-turned}
use Rattle.dob_moves.proofs.ByProfile.{goes, may, goes_in, can_go}
use Rattle.dob_moves.proofs.Mirrors.{row-mirrored, HasOutcome-mirrored, HasStatus-mirrored_in_A}
use Rattle.dob_moves.proofs.Outcomes.{length-dropped, HasOutcome-is, HasOutcome-moved, IsLegal-HasOutcome, total-HasOutcome}
use Rattle.dob_moves.proofs.Shared.{share_status}

pub Goes-is : (profile : Profile) (p : Setup) (m : Move) (q : Setup) → Goes profile p m q → q ≡ turned (moved p m)
Goes-is profile p m q g = HasOutcome-is p m q (goes profile p m q g)

pub Goes-moved : (profile : Profile) (p : Setup) (m : Move) → CanGo profile p m → Goes profile p m (turned (moved p m))
Goes-moved profile p m can = goes_in profile p m (turned (moved p m)) (HasOutcome-moved p m (can_go profile p m can)) (may profile p m can.0 can.1)

pub IsLegal-Goes : (profile : Profile) (p : Setup) (m : Move) (q : Setup) → Goes profile p m q → IsLegal p → ¬ HasTried p → IsLegal q
IsLegal-Goes profile p m q g legal no_try = IsLegal-HasOutcome p m q (goes profile p m q g) legal no_try

pub total-Goes : (profile : Profile) (p : Setup) (m : Move) (q : Setup) → Goes profile p m q → length p.board ≡ 12 → (k : HandKind) →
    total k q ≡ total k p
total-Goes profile p m q g twelve k = total-HasOutcome p m q (goes profile p m q g) twelve k

-- what a move by the profile leads to it leads to by the profile
pub goes_there : (profile : Profile) (p : Setup) (m : Move) (q : Setup) → CanGo profile p m → HasOutcome p m q → Goes profile p m q
goes_there profile p m q can g = goes_in profile p m q g (may profile p m can.0 can.1)

put_stands : (profile : Profile) (p : Setup) (put : HandKind) (to : ℕ) → to < length p.board → length (dropped p put to).board ≡ 12 → to < 12 →
    IsAllowed profile (dropped p put to) → may_put profile put to ≡ true
unfolding dropped
put_stands profile p put to within len on allowed =
    ap (may_stand profile to) (sym (get_or-set_same p.board to (Some (piece_of Mover (kind_on_board put))) None within))
    ∙ stands-from_allowed profile (dropped p put to) to len allowed on

-- a move to a setup that the profile allows is one by the profile
pub goes_to_allowed : (profile : Profile) (p : Setup) (m : Move) (q : Setup) → length p.board ≡ 12 → HasOutcome p m q → IsAllowed profile q →
    Goes profile p m q
goes_to_allowed profile p (Step kind from to catch grows) q twelve g allowed = goes_in profile p (Step kind from to catch grows) q g refl
goes_to_allowed profile p (Put put to) q twelve g allowed =
    let after = dropped p put to in
    let len : length after.board ≡ 12 = length-dropped p put to twelve g.in_hand g.on_board g.free in
    let there : IsAllowed profile (turned after) = subst (λ (r : Setup). IsAllowed profile r) (HasOutcome-is p (Put put to) q g) allowed in
    let back : IsAllowed profile after =
    subst (λ (r : Setup). IsAllowed profile r) (turned-turned after len) (IsAllowed-turned profile (turned after) (length-turned after) there) in
    let on = g.on_board in
    goes_in profile p (Put put to) q g (put_stands profile p put to (omega (arith, twelve, on)) len on back)

-- a status by the profile is the status
pub status_there : (profile : Profile) (p : Setup) (status : Status) → IsLegal p → HasStatus profile p status → HasStatus A p status
status_there profile p status legal has = (share_status profile p status legal).1 has

-- ---- mirror images
may_put-mirrored : (profile : Profile) (kind : HandKind) (to : ℕ) → may_put profile kind (mirrored_square to) ≡ may_put profile kind to
may_put-mirrored A kind to = refl
may_put-mirrored B kind to = ap (λ (r : ℕ). not (is_far Mover (kind_on_board kind) r)) (row-mirrored to)

may_go-mirrored : (profile : Profile) (m : Move) → may_go profile (mirrored_move m) ≡ may_go profile m
may_go-mirrored profile (Step kind from to catch grows) = refl
may_go-mirrored profile (Put kind to) = may_put-mirrored profile kind to

pub Goes-mirrored : (profile : Profile) (p : Setup) (m : Move) (q : Setup) → length p.board ≡ 12 → Goes profile p m q →
    Goes profile (mirrored p) (mirrored_move m) (mirrored q)
Goes-mirrored profile p m q twelve g = grind (arith, HasOutcome-mirrored, may_go-mirrored)

pub HasStatus-mirrored : (profile : Profile) (p : Setup) (status : Status) → IsLegal p → HasStatus profile p status →
    HasStatus profile (mirrored p) status
HasStatus-mirrored profile p status legal has = grind (arith, share_status, IsLegal-mirrored, HasStatus-mirrored_in_A)

pub ruleset images = (HasStatus-mirrored)
