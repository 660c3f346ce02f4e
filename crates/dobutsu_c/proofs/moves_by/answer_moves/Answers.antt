-- The answer is the moves that were listed, or the one fault.
use Rattle.dobutsu_c.proofs.Common.{rules}
use Rattle.dobutsu_c.proofs.ToldMoves.{fault_answers, list_answers}
use Rattle.dobutsu_c.proofs.moves_by.answer_moves.Goals as goal

pub returns-in-Ok-clause-answer : goal.returns-in-Ok-clause-answer
returns-in-Ok-clause-answer c =
    list_answers c.args.file.now c.args.text.now c.args.by c.args.moves.now c.write_moves.new.places _ c.in-Ok.list.items c.in-Ok.ensures.told
    (rw c.deref.ensures.value at c.write_moves.ensures) (search rules)

pub returns-in-Err-clause-answer : goal.returns-in-Err-clause-answer
returns-in-Err-clause-answer c =
    fault_answers c.args.file.now c.args.text.now c.args.by c.args.moves.now c.args.moves.now c.args.count.now c.in-Err.fault c.in-Err.ensures.positive
    c.in-Err.ensures.told
