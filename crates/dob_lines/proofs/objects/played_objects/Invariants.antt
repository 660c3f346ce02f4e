-- The text so far, and then the objects of the moves that are left, are those of all moves; fewer are left each time.
use Rattle.dob_lines.proofs.Common.{◌++◌, ◌≡◌, false, length, string_bytes, played_objects}
use Rattle.dob_lines.proofs.objects.played_objects.Given as goal

abbrev pub invariant-loop-first : goal.invariant-loop-first
invariant-loop-first l = string_bytes l.text ++ played_objects l.second l.left ≡ played_objects false l.moves

abbrev pub decreases-loop-first : goal.decreases-loop-first
decreases-loop-first l = length l.left
