-- By the status: where the game goes on, by each move.
use Rattle.dob_certificate.proofs.Common.{Open}
use Rattle.dob_certificate.proofs.Cases.{lost_caught, lost_open, lost_over, lost_soon, of_status}
use Rattle.dob_certificate.proofs.asking.finds_lost.Goals as goal

pub returns-in-Caught : goal.returns-in-Caught
returns-in-Caught g c = lost_caught _ _ _ _ c.args.question.kind c.in-Caught.is c.start.ensures.status

pub returns-in-Tried : goal.returns-in-Tried
returns-in-Tried g c = lost_over _ _ _ _ c.args.question.kind c.in-Tried.is c.start.ensures.status

pub returns-then-question-lt2 : goal.returns-then-question-lt2
returns-then-question-lt2 g c = lost_soon _ _ _ _ c.args.question.kind c.in-Open.is c.start.ensures.status c.if-question-lt2.true

pub are_all_answered-requires-clause-goes_on : goal.are_all_answered-requires-clause-goes_on
are_all_answered-requires-clause-goes_on g c = of_status _ _ c.start.ensures.status Open c.in-Open.is

pub are_all_answered-requires-clause-moves : goal.are_all_answered-requires-clause-moves
are_all_answered-requires-clause-moves g c = c.start.ensures.walk

pub returns-else-question-lt2 : goal.returns-else-question-lt2
returns-else-question-lt2 g c =
    let later = c.two_plies_later-later.ensures in
    lost_open _ _ _ _ c.args.question.kind c.are_all_answered.result c.in-Open.is c.start.ensures.status c.if-question-lt2.false
    (rw (later.kind, later.plies) at c.are_all_answered.ensures)
