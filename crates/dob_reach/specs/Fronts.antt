-- What the classes of a round lead to, part by part.
use Rattle.std.specs.Prelude.{◌≡◌, ◌⊎◌, ℕ, ◌*◌, ◌/◌, ◌+◌, ◌<◌, ◌≤◌, Bool, true, List, length, take, drop, Contains, flat_map, sum_by}
use Rattle.dob_pieces.specs.declared.profile.Family.{Family}
use Rattle.dob_rank.specs.Families.{classes_of}
use Rattle.dob_reach.specs.declared.parts.FrontierPart.{FrontierPart}
use Rattle.dob_reach.specs.Counts.{Among}
use Rattle.dob_reach.specs.Distances.{StepFrom}
use Rattle.dob_reach.specs.Leads.{IsOpen, Leads}
use Rattle.dob_reach.specs.Marks.{HasBits, IsMarked}

-- of some numbers those that aren't marked, and maybe others of them
pub record IsSifted (words all numbers : List ℕ) : Type 0 where
  pub sound : (number : ℕ) → Contains numbers number → Contains all number
  pub whole : (number : ℕ) → Contains all number → Contains numbers number ⊎ IsMarked words number

-- What the one class leads to, without what is marked, and whether it is open: each number listed is one of these, and each one that isn't
-- marked is listed.
pub record IsExpanded (family : Family) (words : List ℕ) (class : ℕ) (outcomes : List ℕ) (is_open : Bool) : Type 0 where
  pub sound : (other : ℕ) → Contains outcomes other → Leads family class other
  pub whole : (other : ℕ) → Leads family class other → Contains outcomes other ⊎ IsMarked words other
  pub opened : is_open ≡ true → IsOpen family class
  pub closed : IsOpen family class → is_open ≡ true

-- the classes are classes of the family
abbrev pub AreClasses : Family → List ℕ → Type 0
AreClasses family classes = (class : ℕ) → Contains classes class → class < classes_of family

-- what some classes lead to, without what is marked, and how many of them are open
pub record AreExpanded (family : Family) (words classes outcomes : List ℕ) (opens : ℕ) : Type 0 where
  pub sound : (other : ℕ) → Contains outcomes other → StepFrom (Leads family) classes other
  pub whole : (other : ℕ) → StepFrom (Leads family) classes other → Contains outcomes other ⊎ IsMarked words other
  pub open_are : Among (IsOpen family) classes opens

-- The classes of a round in parts of 4,096: how many parts there are, whole ones and what is left, which may be none; the part of that
-- place; and the classes before it.
abbrev pub part_count : List ℕ → ℕ
part_count front = length front / 4096 + 1

abbrev pub part_at : List ℕ → ℕ → List ℕ
part_at front place = take 4096 (drop (place * 4096) front)

abbrev pub parts_before : List ℕ → ℕ → List ℕ
parts_before front place = take (place * 4096) front

-- what is found of the part of that place
pub record IsPartAt (family : Family) (words front : List ℕ) (place : ℕ) (part : FrontierPart) : Type 0 where
  pub expanded : AreExpanded family words (part_at front place) part.outcomes.items part.opens

-- a part of such classes begins at or before their end, and there is a bit for each class of the family
pub record IsPlace (family : Family) (words front : List ℕ) (place : ℕ) : Type 0 where
  pub members : AreClasses family front
  pub bits : HasBits words (classes_of family)
  pub begins : place * 4096 ≤ length front

-- what some parts' classes lead to, and how many of these are open
abbrev pub outcomes_of : List FrontierPart → List ℕ
outcomes_of parts = flat_map (λ part. part.outcomes.items) parts

abbrev pub opens_of : List FrontierPart → ℕ
opens_of parts = sum_by (λ part. part.opens) parts
