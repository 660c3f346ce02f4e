-- The cases of the rules exclude each other.
use Rattle.dob_moves.proofs.Common.{◌∙◌, ◌≡◌, Bool, None, Some, false, refl, sym, true, ℕ, at, piece_of, HandKind, Kind, Lion, Enemy, Profile, A, Setup, CanGo}
use Rattle.dob_moves.proofs.Common.{CanTake, CatchesLion, HasStatus, Move, Put, Step, Status, Caught, Open, Stuck, Tried}
use Rattle.dob_moves.proofs.Outcomes.{Met}
use Rattle.std.proofs.Common.{rules}

-- a setup has one status by the rules of a profile
pub one_status : (profile : Profile) (p : Setup) (s t : Status) → HasStatus profile p s → HasStatus profile p t → s ≡ t
one_status profile p Caught Caught h k = refl
one_status profile p Caught _ h k = absurd (k.0 h)
one_status profile p _ Caught h k = absurd (h.0 k)
one_status profile p Tried Tried h k = refl
one_status profile p Tried _ h k = absurd (k.1 h.1)
one_status profile p _ Tried h k = absurd (h.1 k.1)
one_status profile p Stuck Stuck h k = refl
one_status profile p Stuck Open h k = absurd (h.2 k.2.0 k.2.1)
one_status profile p Open Stuck h k = absurd (k.2 h.2.0 h.2.1)
one_status profile p Open Open h k = refl

-- an empty square has no enemy piece
none_taken : (p : Setup) (to : ℕ) (taken : HandKind) → at p to ≡ None → ¬ CanTake p to taken
none_taken p to taken none t = let e : None ≡ Some (piece_of Enemy t.0) = sym none ∙ t.1 in cc

-- a square is met in one way
one_meeting : (p : Setup) (to : ℕ) (a b : Bool) → Met p to a → Met p to b → a ≡ b
one_meeting p to false false h k = refl
one_meeting p to false true h k = absurd (none_taken p to k.0 h k.1)
one_meeting p to true false h k = absurd (none_taken p to h.0 k h.1)
one_meeting p to true true h k = refl

-- two steps between the same squares that can both go are one
pub one_step : (p : Setup) (kind other : Kind) (from to : ℕ) (catch catches grows grow : Bool)
    → CanGo A p (Step kind from to catch grows) → CanGo A p (Step other from to catches grow)
    → (kind ≡ other) × (catch ≡ catches) × (grows ≡ grow)
one_step p kind other from to catch catches grows grow h k = search (rules, one_meeting)

-- no lion has a kind in hand
no_lion_taken : (p : Setup) (to : ℕ) (taken : HandKind) → CanTake p to taken → ¬ (at p to ≡ Some (piece_of Enemy Lion))
no_lion_taken p to taken t lion = search rules

-- a step that catches a lion isn't a move
pub lion_not_moved : (p : Setup) (move : Move) → CatchesLion p move → ¬ CanGo A p move
lion_not_moved p (Step kind from to true grows) c can = search (rules, no_lion_taken)
lion_not_moved p (Step kind from to false grows) c can = c
lion_not_moved p (Put kind to) c can = c
