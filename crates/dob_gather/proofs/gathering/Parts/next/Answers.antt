-- The thread beside took the part.
use Rattle.dob_gather.proofs.Common.{Result, subst, IfOk, AreHashed}
use Rattle.dob_pieces.specs.declared.memory.Memory.{Memory}
use Rattle.dob_gather.specs.declared.gathering.Hashed.{Hashed}
use Rattle.dob_gather.proofs.gathering.Parts.next.Goals as goal

pub returns-clause-hashed : goal.returns-clause-hashed
returns-clause-hashed g c = λ family count hashed.
    subst (λ (r : Result Hashed Memory). IfOk r (AreHashed family count)) c.in_ok-hashed.was (c.join-hashed.ensures.first.hashed family count hashed)
