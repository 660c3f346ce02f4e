-- The parts before the index are those in front so far.
use Rattle.std.proofs.Common.{◌-◌, vec_len}
use Rattle.dob_update.proofs.PartLists.{IsKeeping}
use Rattle.dob_update.proofs.batch.keep_front.Given as goal

abbrev pub invariant-loop-rest : goal.invariant-loop-rest
invariant-loop-rest l = IsKeeping l.k l.rest l.index l.initial.parts.items l.parts.items

abbrev pub decreases-loop-rest : goal.decreases-loop-rest
decreases-loop-rest l = vec_len l.parts - l.index
