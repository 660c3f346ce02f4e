-- Moves by the rules of a profile are moves, those that the profile forbids left out.
use Rattle.dob_moves.proofs.Common.{◌≡◌, refl, true, Profile, A, B, Setup, CanGo, Goes, HasOutcome, may_go, Move, Put, Step}

pub goes : (profile : Profile) (p : Setup) (m : Move) (q : Setup) → Goes profile p m q → HasOutcome p m q
goes A p m q g = g
goes B p m q g = g.0

-- profile A forbids none
all_may : (m : Move) → may_go A m ≡ true
all_may (Step kind from to catch grows) = refl
all_may (Put kind to) = refl

pub may : (profile : Profile) (p : Setup) (m : Move) (q : Setup) → Goes profile p m q → may_go profile m ≡ true
may A p m q g = all_may m
may B p m q g = g.1

pub goes_in : (profile : Profile) (p : Setup) (m : Move) (q : Setup) → HasOutcome p m q → may_go profile m ≡ true → Goes profile p m q
goes_in A p m q g h = g
goes_in B p m q g h = (g, h)

pub can_go : (profile : Profile) (p : Setup) (m : Move) → CanGo profile p m → CanGo A p m
can_go profile p m can = (can.0, goes profile p m can.0 can.1)

pub can_go_in : (profile : Profile) (p : Setup) (m : Move) → CanGo A p m → may_go profile m ≡ true → CanGo profile p m
can_go_in profile p m can h = (can.0, goes_in profile p m can.0 can.1 h)
