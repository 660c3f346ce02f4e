-- Those so far have come to the front.
use Rattle.dob_update.proofs.Forward.{IsComing}
use Rattle.dob_update.proofs.queue.bring_forward.Given as goal

abbrev pub invariant-loop-place : goal.invariant-loop-place
invariant-loop-place g l = IsComing l.k l.place l.initial.list.items l.list.items
