-- The codes that are taken, with those of the part, are those of the classes so far; fewer are left each time.
use Rattle.dob_gather.proofs.Common.{◌++◌, ◌-◌, ◌≤◌, length, IsCodeShown, AreHashed, AreFrom}
use Rattle.dob_gather.proofs.gathering.gather.Given as goal

abbrev pub invariant-parts : goal.invariant-parts
invariant-parts g l =
    (l.class ≤ l.count)
    × AreHashed l.classes.family l.count l.parts.hashed
    × AreFrom (IsCodeShown (length l.shares) l.shares) 0 l.class (l.parts.hashed.codes ++ l.parts.part.items)

abbrev pub decreases-parts : goal.decreases-parts
decreases-parts g l = l.count - l.class
