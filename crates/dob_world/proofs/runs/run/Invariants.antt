-- The events so far have happened, or were skipped.
use Rattle.dob_world.proofs.Common.{◌≤◌, take, HasRunEvents, setting_by}
use Rattle.dob_world.proofs.runs.run.Given as goal

abbrev pub invariant-loop-event : goal.invariant-loop-event
invariant-loop-event l = record {
  run : HasRunEvents (setting_by l.fn.family l.nodes l.batch l.capacity) (take l.event-index l.events) l.world;
  steps : l.world.steps ≤ l.event-index;
}
