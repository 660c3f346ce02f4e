-- Each move is one more, or leads to what isn't found to be won.
use Rattle.dob_certificate.proofs.Common.{◌≤◌, arith, false, length, rules, true}
use Rattle.dob_moves.specs.Shown.{setup_on}
use Rattle.dob_certificate.specs.Asked.{FindsWon}
use Rattle.dob_certificate.proofs.Walked.{all_lead, more_lead, one_leads}
use Rattle.dob_certificate.proofs.asking.are_all_answered.Goals as goal

pub outcome_at-outcome-requires-clause-walk : goal.outcome_at-outcome-requires-clause-walk
outcome_at-outcome-requires-clause-walk g c = (setup_on c.args.position.now.board, c.requires.member, c.requires.moves)

pub finds_won-requires-clause-member : goal.finds_won-requires-clause-member
finds_won-requires-clause-member g c =
    (c.outcome_at-outcome.ensures.outcome (setup_on c.args.position.now.board) c.requires.member c.requires.moves).member

pub loop-place-preserved : goal.loop-place-preserved
loop-place-preserved g c =
    more_lead _ _ c.args.moves.now.moves.items (FindsWon c.args.question.kind c.args.family (g.L.Lookup.entries_of c.args.list.now) c.args.question.plies)
    c.finds_won.result true (search rules) c.outcome_at-outcome.result.played (setup_on c.outcome_at-outcome.result.position.board) c.finds_won.ensures
    c.loop-place.place c.outcome_at-outcome.ensures.played
    (c.outcome_at-outcome.ensures.outcome (setup_on c.args.position.now.board) c.requires.member c.requires.moves).alone c.loop-place.invariant

pub returns-then-not-finds_won : goal.returns-then-not-finds_won
returns-then-not-finds_won g c =
    one_leads _ _ c.args.moves.now.moves.items (FindsWon c.args.question.kind c.args.family (g.L.Lookup.entries_of c.args.list.now) c.args.question.plies)
    c.finds_won.result false (search rules) c.outcome_at-outcome.result.played (setup_on c.outcome_at-outcome.result.position.board) c.finds_won.ensures
    (c.outcome_at-outcome.ensures.outcome (setup_on c.args.position.now.board) c.requires.member c.requires.moves).goes

pub returns : goal.returns
returns g c =
    let all : length c.args.moves.now.moves.items ≤ c.loop-place.place = omega (arith, c.len-place-end.ensures, c.loop-place-test.false, c.loop-place.auto.place-end) in
    all_lead _ _ c.args.moves.now.moves.items c.requires.moves.moves c.requires.goes_on _ c.loop-place.place all c.loop-place.invariant
