-- No move below the index leads to the value that is wanted, and the source holds what it held.
use Rattle.dob_moves.specs.Shown.{setup_on}
use Rattle.dob_probe.proofs.Common.{◌≡◌}
use Rattle.dob_probe.proofs.Ways.{NoneBelow}
use Rattle.dob_probe.proofs.lines.first_to.Given as goal

abbrev pub invariant-loop-place : goal.invariant-loop-place
invariant-loop-place g l = record {
  held : (held : g.V.ValueSource.Held) → g.V.ValueSource.holds l.fn.source held → g.V.ValueSource.holds l.source held;
  none : (held : g.V.ValueSource.Held) → g.V.ValueSource.holds l.fn.source held
      → NoneBelow l.classes.family.profile (g.V.ValueSource.says l.by held) (setup_on l.position.board) l.wanted l.walk.moves.items l.place;
  failed : g.V.ValueSource.has_failed l.source ≡ g.V.ValueSource.has_failed l.fn.source;
}
