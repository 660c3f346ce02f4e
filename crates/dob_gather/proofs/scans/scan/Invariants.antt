-- The classes so far have their openings; fewer are left each time.
use Rattle.std.proofs.Common.{◌-◌, ◌≤◌}
use Rattle.dob_gather.specs.Scans.{AreOpeningsFrom}
use Rattle.dob_gather.proofs.scans.scan.Given as goal

abbrev pub invariant-parts : goal.invariant-parts
invariant-parts g l = (l.class ≤ l.count) × AreOpeningsFrom l.classes.family 0 l.class l.openings

abbrev pub decreases-parts : goal.decreases-parts
decreases-parts g l = l.count - l.class
