-- The move that was found is a reply, and where none is found there is none.
use Rattle.dob_certificate.proofs.Common.{◌≤◌, arith, false, length, rules, true}
use Rattle.dob_moves.specs.Shown.{setup_on}
use Rattle.dob_certificate.specs.Asked.{TakesForLost}
use Rattle.dob_certificate.proofs.Walked.{all_lead, more_lead, one_leads}
use Rattle.dob_certificate.proofs.asking.has_reply.Goals as goal

pub outcome_at-reply-requires-clause-walk : goal.outcome_at-reply-requires-clause-walk
outcome_at-reply-requires-clause-walk g c = (setup_on c.args.position.now.board, c.requires.member, c.requires.replies)

pub takes_for_lost-requires-clause-member : goal.takes_for_lost-requires-clause-member
takes_for_lost-requires-clause-member g c =
    (c.outcome_at-reply.ensures.outcome (setup_on c.args.position.now.board) c.requires.member c.requires.replies).member

pub loop-place-preserved : goal.loop-place-preserved
loop-place-preserved g c =
    more_lead _ _ c.args.replies.now.moves.items (TakesForLost c.args.question.kind c.args.family (g.L.Lookup.entries_of c.args.list.now) c.args.question.plies)
    c.takes_for_lost.result false (search rules) c.outcome_at-reply.result.played (setup_on c.outcome_at-reply.result.position.board) c.takes_for_lost.ensures
    c.loop-place.place c.outcome_at-reply.ensures.played
    (c.outcome_at-reply.ensures.outcome (setup_on c.args.position.now.board) c.requires.member c.requires.replies).alone c.loop-place.invariant

pub returns-then-takes_for_lost : goal.returns-then-takes_for_lost
returns-then-takes_for_lost g c =
    one_leads _ _ c.args.replies.now.moves.items (TakesForLost c.args.question.kind c.args.family (g.L.Lookup.entries_of c.args.list.now) c.args.question.plies)
    c.takes_for_lost.result true (search rules) c.outcome_at-reply.result.played (setup_on c.outcome_at-reply.result.position.board) c.takes_for_lost.ensures
    (c.outcome_at-reply.ensures.outcome (setup_on c.args.position.now.board) c.requires.member c.requires.replies).goes

pub returns : goal.returns
returns g c =
    let all : length c.args.replies.now.moves.items ≤ c.loop-place.place = omega (arith, c.len-place-end.ensures, c.loop-place-test.false, c.loop-place.auto.place-end) in
    all_lead _ _ c.args.replies.now.moves.items c.requires.replies.moves c.requires.goes_on _ c.loop-place.place all c.loop-place.invariant
