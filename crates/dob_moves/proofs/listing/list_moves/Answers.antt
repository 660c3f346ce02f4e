-- The steps and then the drops are the moves of an open position, and no other position has any.
use Rattle.dob_moves.proofs.Common.{ap, arith, length, length-append, all_steps, Elsewhere}
use Rattle.dob_moves.proofs.FewMoves.{walks_few}
use Rattle.dob_moves.proofs.Shown.{setup_on}
use Rattle.dob_moves.proofs.Verdicts.{open_answer, other_answer}
use Rattle.dob_moves.proofs.listing.list_moves.Goals as goal

pub push_steps-requires : goal.push_steps-requires
push_steps-requires c =
    let p = setup_on c.args.position.now.board in
    (p, c.args.position.now.shows, omega (arith, walks_few c.args.profile p c.args.position.now.legal, ap length c.clear.ensures))

pub push_drops-requires : goal.push_drops-requires
push_drops-requires c =
    let p = setup_on c.args.position.now.board in (
      p,
      c.args.position.now.shows,
      omega (
        arith,
        walks_few c.args.profile p c.args.position.now.legal,
        ap length c.clear.ensures,
        ap length (c.push_steps.ensures p c.args.position.now.shows),
        length-append c.clear.new.self.items (all_steps Elsewhere p),
      ),
    )

pub returns-in-Open-clause-moves : goal.returns-in-Open-clause-moves
returns-in-Open-clause-moves c =
    let p = setup_on c.args.position.now.board in
    open_answer c.args.profile p c.args.position.now.legal.squares c.in-Open.ensures _ _ _ c.clear.ensures
    (c.push_steps.ensures p c.args.position.now.shows) (c.push_drops.ensures p c.args.position.now.shows)

pub returns-in_default-clause-moves : goal.returns-in_default-clause-moves
returns-in_default-clause-moves c =
    other_answer c.args.profile (setup_on c.args.position.now.board) c.status.result c.status.ensures c.in_default.not-Open _ c.clear.ensures
