-- The value is the one that the table gives the class.
use Rattle.dob_certify.proofs.members.is_by_table.Goals as goal

pub returns : goal.returns
returns c = λ said. record { value = c.value.result; given = c.value.ensures; said = c.says_of.ensures.0 said }
