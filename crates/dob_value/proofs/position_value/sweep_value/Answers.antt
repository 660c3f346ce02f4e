-- The faults of a table are the faults of the value.
use Rattle.dob_value.proofs.Common.{◌<◌, refl, rules, Family, IsPositionOf, classes_of, MAX_DISTANCE}
use Rattle.dob_value.proofs.position_value.sweep_value.Goals as goal

pub returns-in_err-table-clause-deep : goal.returns-in_err-table-clause-deep
returns-in_err-table-clause-deep c = search rules fits 100

pub returns-in_err-table-clause-many : goal.returns-in_err-table-clause-many
returns-in_err-table-clause-many c = λ is.
    let family : Family = record { set = c.piece_set.result; profile = c.args.profile } in
    let position : IsPositionOf family c.args.position.now.setup = search rules fits 100 in
    let many : MAX_DISTANCE < classes_of family = search rules fits 100 in
    (family, refl, position, many)

pub value_of-requires : goal.value_of-requires
value_of-requires c = search rules fits 100
