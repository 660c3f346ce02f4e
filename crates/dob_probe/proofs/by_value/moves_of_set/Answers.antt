-- A table gives each position of its family one value.
use Rattle.dob_probe.proofs.Common.{GivenBy}
use Rattle.dob_probe.proofs.ByValue.{said_valued}
use Rattle.dob_probe.proofs.Entries.{one_given}
use Rattle.dob_probe.proofs.by_value.moves_of_set.Goals as goal

pub moves_by-requires-clause-member : goal.moves_by-requires-clause-member
moves_by-requires-clause-member c = rw c.family.ensures.family c.requires.member

pub returns-in-Ok : goal.returns-in-Ok
returns-in-Ok c =
    let table = c.args.table.now in
    said_valued table.family (GivenBy table) (GivenBy table) (λ q v is. is) (one_given table) c.args.position.now.setup c.requires.member
    c.in-Ok.list.items (rw c.family.ensures.family at (c.in-Ok.ensures.moves tt tt))
