-- The moves so far are listed, each with a value that is said, and the source holds what it held.
use Rattle.dob_probe.proofs.Common.{◌≡◌, AllPairs, ComesBefore}
use Rattle.dob_probe.proofs.ByValue.{AreListed}
use Rattle.dob_probe.proofs.InOrder.{AreOfFirst}
use Rattle.dob_probe.proofs.by_value.moves_in_order.Given as goal

abbrev pub invariant-loop-place : goal.invariant-loop-place
invariant-loop-place g l = record {
  ordered : AllPairs ComesBefore l.list.items;
  first : AreOfFirst l.walk.moves.items l.place l.list.items;
  held : (held : g.V.ValueSource.Held) → g.V.ValueSource.holds l.fn.source held → g.V.ValueSource.holds l.source held;
  listed : (held : g.V.ValueSource.Held) → g.V.ValueSource.holds l.fn.source held
      → AreListed l.family.profile (g.V.ValueSource.says l.by held) l.position.setup l.walk.moves.items l.place l.list.items;
  failed : g.V.ValueSource.has_failed l.source ≡ g.V.ValueSource.has_failed l.fn.source;
}
