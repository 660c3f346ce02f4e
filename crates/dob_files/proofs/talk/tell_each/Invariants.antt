-- What the lines that were heard come to is told, and then held; what answers them says no more than at first, and no device failed.
use Rattle.dob_files.proofs.Common.{◌||◌, ◌≡◌, List, string_bytes, ℕ, SameFiles, Told, ProgramFault}
use Rattle.dob_files.proofs.EachLine.{AreHeard}
use Rattle.dob_files.proofs.talk.tell_each.Given as goal

abbrev pub invariant-loop : goal.invariant-loop
invariant-loop g l =
    AreHeard (g.T.Answerer.answers l.fn.by) (g.S.Shelf.state l.fn.shelf).input (g.S.Shelf.state l.shelf).input (g.O.Sink.state l.fn.out) (g.O.Sink.state l.out)
    l.held.is_refused (string_bytes l.held.lines)
    × ((line : List ℕ) (told : Told) → g.T.Answerer.answers l.by line told → g.T.Answerer.answers l.fn.by line told)
    × ((fault : ProgramFault) → g.T.Answerer.ends l.by fault → g.T.Answerer.ends l.fn.by fault)
    × SameFiles (g.S.Shelf.state l.fn.shelf).has (g.S.Shelf.state l.shelf).has
    × (((g.S.Shelf.state l.shelf).has_failed || g.T.Answerer.has_failed l.by) ≡ (g.S.Shelf.state l.fn.shelf).has_failed)
