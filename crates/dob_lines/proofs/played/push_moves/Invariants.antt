-- The line so far, and then the text of the moves that are left, is the text of all moves; fewer are left each time.
use Rattle.std.proofs.Common.{◌≡◌, ◌++◌, false, length, string_bytes}
use Rattle.dob_lines.specs.Played.{moves_text}
use Rattle.dob_lines.proofs.played.push_moves.Given as goal

abbrev pub invariant-loop-first : goal.invariant-loop-first
invariant-loop-first l =
    string_bytes l.line ++ moves_text l.second l.left ≡ string_bytes l.initial.line ++ moves_text false l.moves

abbrev pub decreases-loop-first : goal.decreases-loop-first
decreases-loop-first l = length l.left
