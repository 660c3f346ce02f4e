-- What a crew shows is the value table once its runners are lawful and white and all batches posted were taken.
use Rattle.dob_run.proofs.CrewStopped.{finished_right}
use Rattle.dob_run.proofs.laws.finished_is_right.Goals as goal

pub returns : goal.returns
returns c = λ family n runners openings values some openings_are finished shown. finished_right family n some runners finished openings values openings_are shown
