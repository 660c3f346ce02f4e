-- The moves are the position's, and an open one is turned.
use Rattle.dob_moves.proofs.Common.{◌∙◌, sym, true≢false}
use Rattle.dob_moves.proofs.Cases.{one_status}
use Rattle.dob_moves.proofs.Common.{Open}
use Rattle.dob_moves.proofs.Shown.{setup_on}
use Rattle.dob_moves.proofs.walks.Walk.start.Goals as goal

pub returns-else-is_open-clause-walk : goal.returns-else-is_open-clause-walk
returns-else-is_open-clause-walk c =
    record {
      legal = c.args.position.now.legal;
      moves = c.list_moves-status.ensures.moves;
      seen = λ is. absurd (true≢false (sym (c.is_open.ensures.1 (one_status c.args.profile (setup_on c.args.position.now.board)
          c.list_moves-status.result Open c.list_moves-status.ensures.status is)) ∙ c.if-is_open.false));
    }
