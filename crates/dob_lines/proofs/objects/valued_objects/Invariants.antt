-- The text so far, and then the objects of the moves that are left, are those of all moves; fewer are left each time.
use Rattle.dob_lines.proofs.Common.{◌++◌, ◌≡◌, length, string_bytes, valued_objects}
use Rattle.dob_lines.proofs.objects.valued_objects.Given as goal

abbrev pub invariant-loop-first : goal.invariant-loop-first
invariant-loop-first l = string_bytes l.text ++ valued_objects l.left ≡ valued_objects l.moves

abbrev pub decreases-loop-first : goal.decreases-loop-first
decreases-loop-first l = length l.left
