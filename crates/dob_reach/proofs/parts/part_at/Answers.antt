-- The part ends where the next one begins, or with the classes.
use Rattle.dob_reach.proofs.Common.{◌*◌, ◌+◌, ◌-◌, ◌≡◌, IfOk-then, arith, length, min}
use Rattle.dob_reach.proofs.Stepping.{cut_in, part_is}
use Rattle.dob_reach.proofs.parts.part_at.Goals as goal

pub overflow_mul-from : goal.overflow_mul-from
overflow_mul-from c = let begins = c.requires.begins in omega (arith, begins)

pub part_of-requires-clause-members : goal.part_of-requires-clause-members
part_of-requires-clause-members c = λ class there. c.requires.members class (cut_in c.args.front.now _ _ class there)

pub returns : goal.returns
returns c =
    let front = c.args.front.now in
    let place = c.args.place in
    let begins = c.requires.begins in
    let size : place * 4096 + c.min.result - place * 4096 ≡ min 4096 (length front - place * 4096) = omega (arith, begins, c.min.ensures) in
    IfOk-then c.part_of.result _ _ c.part_of.ensures (λ found are. record { expanded = rw (part_is front place _ size) at are })
