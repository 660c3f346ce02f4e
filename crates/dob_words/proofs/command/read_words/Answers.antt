-- A line is read, and nothing else is, by what the words mean.
use Rattle.dob_words.proofs.Common.{IfOk-weaker}
use Rattle.dob_words.proofs.Lines.{order_from_line, reading_at_line}
use Rattle.dob_words.proofs.command.read_words.Goals as goal

pub returns-clause-sound : goal.returns-clause-sound
returns-clause-sound c = IfOk-weaker c.read_meant.result _ _ (order_from_line _) c.read_meant.ensures

pub returns-clause-complete : goal.returns-clause-complete
returns-clause-complete c =
    λ form texts among line. IfOk-weaker c.read_meant.result _ _ (λ r. reading_at_line _ form texts r among line) c.read_meant.ensures
