-- A win is one within its own distance.
use Rattle.std.proofs.Common.{rules}
use Rattle.dob_distance.proofs.value.Value.is_win_within.Goals as goal

pub returns-in-Win : goal.returns-in-Win
returns-in-Win c = search rules fits 100
