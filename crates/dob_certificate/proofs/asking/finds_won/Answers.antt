-- By the status: where the game goes on, by a reply.
use Rattle.dob_certificate.proofs.Cases.{of_status, won_caught, won_open, won_over}
use Rattle.dob_certificate.proofs.Common.{Open}
use Rattle.dob_certificate.proofs.asking.finds_won.Goals as goal

pub returns-in-Caught : goal.returns-in-Caught
returns-in-Caught g c = won_caught _ _ _ _ c.args.question.kind c.in-Caught.is c.start-status.ensures.status

pub returns-in-Tried : goal.returns-in-Tried
returns-in-Tried g c = won_over _ _ _ _ c.args.question.kind c.in-Tried.is c.start-status.ensures.status

pub has_reply-requires-clause-goes_on : goal.has_reply-requires-clause-goes_on
has_reply-requires-clause-goes_on g c = of_status _ _ c.start-status.ensures.status Open c.in-Open.is

pub has_reply-requires-clause-replies : goal.has_reply-requires-clause-replies
has_reply-requires-clause-replies g c = c.start-status.ensures.walk

pub returns-in-Open : goal.returns-in-Open
returns-in-Open g c =
    won_open _ _ _ _ c.args.question.kind c.has_reply.result c.in-Open.is c.start-status.ensures.status c.has_reply.ensures
