-- Each move is one more.
use Rattle.std.proofs.Common.{◌≤◌, arith, length}
use Rattle.dob_moves.specs.Shown.{setup_on}
use Rattle.dob_certify.proofs.Shortest.{shortest_done, shortest_more, shortest_none}
use Rattle.dob_certify.proofs.replies.shortest.Goals as goal

pub loop-place-init : goal.loop-place-init
loop-place-init c =
    shortest_none c.args.list.now.classes.now.family c.args.list.now.entries.now (setup_on c.args.position.now.board) c.start-status.new.self.moves.items

pub outcome_at-played-requires-clause-walk : goal.outcome_at-played-requires-clause-walk
outcome_at-played-requires-clause-walk c = (setup_on c.args.position.now.board, c.requires, c.start-status.ensures.walk)

pub loop-place-preserved : goal.loop-place-preserved
loop-place-preserved c =
    let p = setup_on c.args.position.now.board in
    let next = c.outcome_at-played.ensures.outcome p c.requires c.start-status.ensures.walk in
    rw c.shorter-best.ensures (shortest_more c.args.list.now.classes.now.family c.args.list.now.entries.now p c.start-status.new.self.moves.items
    c.loop-place.place c.outcome_at-played.result.played (setup_on c.outcome_at-played.result.position.board) c.outcome_at-played.ensures.played next.is_open
    next.goes next.alone c.loop-place.best c.said_lost-found.result c.said_lost-found.ensures c.loop-place.invariant)

pub returns : goal.returns
returns c =
    let legal = c.start-status.new.self.moves.items in
    let all : length legal ≤ c.loop-place.place = omega (arith, c.len-place-end.ensures, c.loop-place-test.false, c.loop-place.auto.place-end) in
    shortest_done c.args.list.now.classes.now.family c.args.list.now.entries.now (setup_on c.args.position.now.board) legal c.loop-place.place all
    c.start-status.ensures.walk.moves c.loop-place.best c.loop-place.invariant
