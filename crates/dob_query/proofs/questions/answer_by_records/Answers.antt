-- A position has one record.
use Rattle.dob_query.proofs.Recorded.{one_recorded}
use Rattle.dob_query.proofs.questions.answer_by_records.Goals as goal

pub told_by-requires-clause-single : goal.told_by-requires-clause-single
told_by-requires-clause-single g c = λ stream. one_recorded stream c.args.format c.args.classes.now.family
