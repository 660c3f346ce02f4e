-- A list in segments: vectors of one length, of which only the last may be shorter.
use Rattle.std.specs.Prelude.{◌≡◌, ℕ, ◌^◌, ◌<◌, ◌≤◌, List, [], ◌∷◌, ◌++◌, length}
use Rattle.std.specs.declared.vec.Vec.{Vec}

-- the items of the segments, one segment after the other
abbrev pub joined : {X Z : Type 0} → List (Vec X Z) → List X
joined [] = []
joined (segment ∷ segments) = segment.items ++ joined segments

-- no segment has more than n items, and each before the last has n
abbrev pub AreSegments : {X Z : Type 0} → ℕ → List (Vec X Z) → Type 0
AreSegments n [] = Unit {0}
AreSegments n (segment ∷ segments) =
    (length segment.items ≤ n) × (0 < length segments → length segment.items ≡ n) × AreSegments n segments

-- to divide by n is to shift by so many bits
abbrev pub IsShift : ℕ → ℕ → Type 0
IsShift n shift = (shift < 32) × (n ≡ 2 ^ shift)
