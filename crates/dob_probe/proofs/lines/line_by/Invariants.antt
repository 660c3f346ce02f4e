-- The moves so far begin the line and lead here, to a position with that value, whose distance falls, and the source holds what it held.
use Rattle.dob_moves.specs.Shown.{setup_on}
use Rattle.dob_probe.proofs.Common.{◌≡◌, IsPositionOf, IsEntry}
use Rattle.dob_distance.specs.Distances.{plies_of}
use Rattle.dob_probe.proofs.Ways.{IsBegun}
use Rattle.dob_probe.proofs.lines.line_by.Given as goal

abbrev pub invariant-loop-catch : goal.invariant-loop-catch
invariant-loop-catch g l = record {
  member : IsPositionOf l.classes.family (setup_on l.here.board);
  entry : IsEntry l.value;
  held : (held : g.V.ValueSource.Held) → g.V.ValueSource.holds l.fn.source held → g.V.ValueSource.holds l.source held;
  on : (held : g.V.ValueSource.Held) → g.V.ValueSource.holds l.fn.source held → g.V.ValueSource.says l.by held l.fn.position.setup l.fn.value
      → IsBegun l.classes.family.profile (g.V.ValueSource.says l.by held) l.fn.position.setup l.line.items (setup_on l.here.board) l.value;
  failed : g.V.ValueSource.has_failed l.source ≡ g.V.ValueSource.has_failed l.fn.source;
}

abbrev pub decreases-loop-catch : goal.decreases-loop-catch
decreases-loop-catch g l = plies_of l.value
