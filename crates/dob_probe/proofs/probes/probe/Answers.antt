-- The value of a position of the family is its class's entry, and by a consistent table it is the right one.
use Rattle.dob_probe.proofs.Common.{rules, consistent_is_right}
use Rattle.dob_probe.proofs.Entries.{given_is_entry}
use Rattle.dob_probe.proofs.probes.probe.Goals as goal

pub value_of-requires : goal.value_of-requires
value_of-requires c = rw c.family.ensures.family at c.in_ok-check_member.ensures.member

pub returns-clause-right : goal.returns-clause-right
returns-clause-right c = λ consistent.
    let table = c.args.table.now in
    (consistent_is_right table.family table.values consistent).values_are c.args.position.now.setup c.value_of.result
    (rw c.family.ensures.family at c.in_ok-check_member.ensures.member) c.value_of.ensures

pub returns-clause-entry : goal.returns-clause-entry
returns-clause-entry c =
    given_is_entry c.args.table.now c.args.position.now.setup c.value_of.result c.family.ensures.table c.value_of.ensures

pub returns-clause-value : goal.returns-clause-value
returns-clause-value c = search rules fits 100
