-- All the bytes are a front of themselves, and the fault that is given is the one that holds.
use Rattle.dob_dbfile.proofs.Common.{refl, IfOk-weaker, whole}
use Rattle.dob_dbfile.proofs.HeldBytes.{all_front}
use Rattle.dob_dbfile.proofs.Places.{exact_but_digest}
use Rattle.dob_dbfile.proofs.held.held_family.Goals as goal

pub returns-clause-named : goal.returns-clause-named
returns-clause-named c = c.front_family.ensures.named c.args.bytes.now (all_front c.args.bytes.now)

pub returns-clause-fault : goal.returns-clause-fault
returns-clause-fault c =
    let bytes = c.args.bytes.now in
    exact_but_digest (whole bytes) c.front_family.result refl
    (IfOk-weaker c.front_family.result _ _ (λ held is. (held.0, held.1, is)) (c.front_family.ensures.named bytes (all_front bytes)))
    (c.front_family.ensures.fault bytes (all_front bytes)) c.front_family.ensures.known
