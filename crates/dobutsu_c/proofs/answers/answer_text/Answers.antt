-- What is told is what was found.
use Rattle.dobutsu_c.proofs.Answered.{answered}
use Rattle.dobutsu_c.proofs.answers.answer_text.Goals as goal

pub returns : goal.returns
returns c =
    answered c.args.file.now c.args.text.now c.args.by c.args.answer.now c.told.new.answer c.told.result c.probe_by.result c.probe_by.ensures c.told.ensures
