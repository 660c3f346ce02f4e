-- One value more: the greatest win, the least loss and the draw that are kept are those of the longer list.
use Rattle.dob_probe.proofs.Kept.{summed_win, summed_loss, summed_draw}
use Rattle.dob_probe.proofs.successors.Successors.with.Goals as goal

pub returns-in-Win : goal.returns-in-Win
returns-in-Win c = λ values summed. rw (c.in-Win.is, c.greater.ensures) (summed_win values c.args.self c.in-Win.plies summed)

pub returns-in-Loss : goal.returns-in-Loss
returns-in-Loss c = λ values summed. rw (c.in-Loss.is, c.lesser.ensures) (summed_loss values c.args.self c.in-Loss.plies summed)

pub returns-in-Draw : goal.returns-in-Draw
returns-in-Draw c = λ values summed. rw c.in-Draw.is (summed_draw values c.args.self summed)
