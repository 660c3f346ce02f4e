-- A position's moves in their order, and the first of them with values.
use Rattle.dob_probe.proofs.Common.{◌+◌, ◌<◌, ◌↔◌, ◌≡◌, ◌⊎◌, AllPairs, Contains, List, Some, [], arith, length, slice_get, ℕ, get_or_from_slice_get, Profile}
use Rattle.dob_probe.proofs.Common.{Setup, place, AreMoves, Move, ComesBefore, ValuedMove}

pub in_order : (profile : Profile) (p : Setup) (legal : List Move) (i j : ℕ) (a b : Move) → AreMoves profile p legal → i < j → j < length legal →
    slice_get legal i ≡ Some a → slice_get legal j ≡ Some b → place a < place b
in_order profile p legal i j a b are below within at_i at_j =
    rw (get_or_from_slice_get legal i a a at_i, get_or_from_slice_get legal j b a at_j) at (are.ordered i j a below within)

pub same_valued : (a b : ValuedMove) → a.played ≡ b.played → a.value ≡ b.value → a ≡ b
same_valued a b played value = λ i. record { played = played i; value = value i }

-- each listed move is one of the first legal
abbrev pub AreOfFirst : List Move → ℕ → List ValuedMove → Type 0
AreOfFirst legal upto list = (valued : ValuedMove) → Contains list valued →
    (index : ℕ) × (index < upto) × (slice_get legal index ≡ Some valued.played)

-- and stands before the next
pub before_next : (profile : Profile) (p : Setup) (legal : List Move) (upto : ℕ) (list : List ValuedMove) (played : Move) → AreMoves profile p legal →
    upto < length legal → slice_get legal upto ≡ Some played → AreOfFirst legal upto list →
    (valued : ValuedMove) → Contains list valued → place valued.played < place played
before_next profile p legal upto list played are within here first valued there =
    let earlier = first valued there in
    in_order profile p legal earlier.0 upto valued.played played are earlier.1 within earlier.2 here

pub one_more : (legal : List Move) (upto : ℕ) (list new : List ValuedMove) (more : ValuedMove) → slice_get legal upto ≡ Some more.played →
    ((x : ValuedMove) → Contains new x ↔ (Contains list x ⊎ (x ≡ more))) → AreOfFirst legal upto list → AreOfFirst legal (upto + 1) new
one_more legal upto list new more here has first valued there = grind (arith, (has valued).0 there, first valued)

-- before the first there are none
pub none_first : (legal : List Move) → AreOfFirst legal 0 []
none_first legal valued there = absurd (omega (arith, there.1))

pub none_ordered : AllPairs ComesBefore []
none_ordered i j d lt within = absurd (omega (arith, within))
