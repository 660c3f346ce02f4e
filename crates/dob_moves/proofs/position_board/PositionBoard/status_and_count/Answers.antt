-- A position has few moves.
use Rattle.dob_moves.proofs.Common.{arith}
use Rattle.dob_moves.proofs.FewMoves.{moves_few}
use Rattle.dob_moves.proofs.Shown.{setup_on}
use Rattle.dob_moves.proofs.position_board.PositionBoard.status_and_count.Goals as goal

pub returns-clause-few : goal.returns-clause-few
returns-clause-few c = omega (arith, c.count_at.ensures, moves_few c.args.profile (setup_on c.args.self.now.board) c.args.self.now.legal)
