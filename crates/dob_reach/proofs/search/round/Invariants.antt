-- The parts so far are expanded, and what they lead to is marked.
use Rattle.dob_reach.proofs.Common.{◌-◌, AreExpanded, AreMarked, List, parts_before, ℕ}
use Rattle.dob_reach.proofs.search.round.Given as goal

abbrev pub invariant-windows : goal.invariant-windows
invariant-windows g l =
    (done : List ℕ) × AreMarked l.initial.marks.words.items l.marks.words.items done l.next.items
    × AreExpanded l.classes.family l.marks.words.items (parts_before l.front l.first) done l.opens

abbrev pub decreases-windows : goal.decreases-windows
decreases-windows g l = l.parts - l.first
