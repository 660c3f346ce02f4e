-- The puzzles of the places so far, no more than were asked for, with their outlines.
use Rattle.dob_probe.proofs.Common.{◌≡◌, ◌≤◌, length, AreOutlines, begin_at}
use Rattle.std.specs.Prelude.{is_some}
use Rattle.dob_probe.proofs.OnlyMoves.{ArePuzzlesBelow}
use Rattle.dob_probe.proofs.puzzles.first_puzzles.Given as goal

abbrev pub invariant-loop-place : goal.invariant-loop-place
invariant-loop-place l = (begin_at l.fn.walk.after l.order (length l.table.values) ≤ l.place) × (length l.search.list.items ≤ l.count)
    × ArePuzzlesBelow l.table l.plies l.fn.walk l.order l.place l.search.list.items × AreOutlines l.table l.search.list.items l.search.outlines.items
    × (l.search.is_spread ≡ is_some l.fn.walk.seed)
