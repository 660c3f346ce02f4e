-- So many steps are made.
use Rattle.std.proofs.Common.{None, ◌≡◌}
use Rattle.dob_reference.specs.Alone.{HasMade}
use Rattle.dob_reference.proofs.one_owner.make_steps.Given as goal

abbrev pub invariant-loop-step : goal.invariant-loop-step
invariant-loop-step l = record {
  made : HasMade l._step l.node;
  family : l.classes.family ≡ l.node.family;
  same : l.node.family ≡ l.initial.node.family;
  going : l.node.failed ≡ None;
}
