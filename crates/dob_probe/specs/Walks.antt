-- The order in which a walk goes over the classes of a table.
use Rattle.std.specs.Prelude.{ℕ, ◌+◌, ◌*◌, ◌<◌, if◌then◌else◌, nat_lt, Option, Some, None}
use Rattle.dob_shuffle.specs.Shuffles.{IsShuffle, number_at, place_of}
use Rattle.dob_shuffle.specs.declared.shuffle.Shuffle.{Shuffle}

-- The order of so many classes is that of their numbers, or the one that a seed makes.
abbrev pub IsOrder : Option ℕ → ℕ → Option Shuffle → Type 0
IsOrder None classes None = Unit {0}
IsOrder (Some seed) classes (Some shuffle) = IsShuffle seed classes shuffle
IsOrder _ classes _ = ⊥

-- how many places it has, the class at one of them, and a class's place
abbrev pub places_in : Option Shuffle → ℕ → ℕ
places_in None classes = classes
places_in (Some shuffle) classes = shuffle.side * shuffle.side

abbrev pub class_on : Option Shuffle → ℕ → ℕ
class_on None place = place
class_on (Some shuffle) place = number_at shuffle place

abbrev pub place_in : Option Shuffle → ℕ → ℕ
place_in None class = class
place_in (Some shuffle) class = place_of shuffle class

-- In that order the class stands behind the one that is named, if one is; no class stands behind one that there isn't.
abbrev pub IsAfter : Option ℕ → Option Shuffle → ℕ → ℕ → Type 0
IsAfter None order classes class = Unit {0}
IsAfter (Some other) order classes class = (other < classes) × (place_in order other < place_in order class)

-- the first place behind it
abbrev pub begin_at : Option ℕ → Option Shuffle → ℕ → ℕ
begin_at None order classes = 0
begin_at (Some other) order classes = if nat_lt other classes then place_in order other + 1 else places_in order classes
