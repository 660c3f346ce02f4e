-- What was stored stays, and as many stand behind the first as are counted.
use Rattle.std.proofs.Common.{◌+◌, ◌≡◌, ◌≤◌, length, take}
use Rattle.dob_history.proofs.history.make_room.Given as goal

abbrev pub invariant-loop-more : goal.invariant-loop-more
invariant-loop-more l = record {
  same : take l.count l.stored ≡ take l.count l.initial.stored;
  long : l.count + l._more ≡ length l.stored;
  within : length l.initial.stored ≤ length l.stored;
}
