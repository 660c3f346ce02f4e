-- Each line is asked of the table, or of the records.
use Rattle.dob_query.proofs.questions_each.answer_question_each.Goals as goal

pub returns-in-Table : goal.returns-in-Table
returns-in-Table g c = rw c.in-Table.is c.tell_by_table.ensures

pub returns-in-Records : goal.returns-in-Records
returns-in-Records g c = rw c.in-Records.is c.tell_by_records.ensures
