-- The entries so far are supported.
use Rattle.dob_certificate.specs.Lists.{Supports}
use Rattle.dob_certificate.proofs.Firsts.{AllBefore}
use Rattle.dob_certificate.proofs.lists.first_broken.Given as goal

abbrev pub invariant-loop-place : goal.invariant-loop-place
invariant-loop-place g l =
    let entries = g.L.Lookup.entries_of l.list in AllBefore (Supports l.kind l.family entries) entries l.place
