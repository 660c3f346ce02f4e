-- The text so far, and then that of the moves that are left, is the text of all; fewer are left each time.
use Rattle.std.proofs.Common.{◌≡◌, ◌++◌, ◌+◌, length, string_bytes}
use Rattle.dob_text.specs.MoveText.{numbered_from, numbered_text}
use Rattle.dob_text.proofs.write_lines.write_line.Given as goal

abbrev pub invariant-loop-first : goal.invariant-loop-first
invariant-loop-first l =
    (string_bytes l.text ++ numbered_from l.before l.second l.left ≡ numbered_text l.moves) × (l.before + length l.left ≡ length l.moves)

abbrev pub decreases-loop-first : goal.decreases-loop-first
decreases-loop-first l = length l.left
