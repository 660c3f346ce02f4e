-- What is told is what was found.
use Rattle.dobutsu_c.proofs.Answered.{answered}
use Rattle.dobutsu_c.proofs.answers.answer_position.Goals as goal

pub returns : goal.returns
returns c = λ text named.
    answered c.args.file.now text c.args.by c.args.answer.now c.told.new.answer c.told.result c.probe_at.result (c.probe_at.ensures text named) c.told.ensures
