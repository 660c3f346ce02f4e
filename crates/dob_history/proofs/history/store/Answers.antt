-- What is written is that settlement.
use Rattle.dob_history.proofs.Common.{◌+◌, sym}
use Rattle.dob_history.proofs.Stored.{stored_again, stored_more}
use Rattle.dob_history.proofs.history.store.Goals as goal

pub returns-clause-one_more : goal.returns-clause-one_more
returns-clause-one_more c = λ id first own number.
    let given = c.args.settlement in
    rw (c.quotient.ensures, c.get.ensures.value) (stored_more c.args.nodes id first c.args.count c.args.stored.now _ given c.requires.room
    (stored_again c.args.nodes id (first + c.args.count) given c.code_of_value.result c.code_of_value-2.result
    (rw c.get.ensures.value at c.get.ensures.size.0) own (sym number) c.code_of_value.ensures.back c.code_of_value-2.ensures.back))
