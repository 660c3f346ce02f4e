-- The board filled square by square is the one that is shown.
use Rattle.dob_moves.proofs.Common.{◌∙◌, ap, arith, subst, sym, IsLegal, at, Setup}
use Rattle.dob_pieces.proofs.Boards.{cells_more, cells_all}
use Rattle.dob_moves.proofs.Shown.{setup_on, filled}
use Rattle.dob_moves.proofs.position_board.PositionBoard.position.Goals as goal
use Rattle.dob_moves.proofs.position_board.PositionBoard.position.Goals.{After-loop-index}

pub loop-index-preserved : goal.loop-index-preserved
loop-index-preserved c =
    cells_more (at (setup_on c.args.self.now.board)) c.loop-index.board c.loop-index.index c.at.result
    c.loop-index.invariant.0 (omega arith) c.loop-index.invariant.1
    (c.at.ensures ∙ ap (at (setup_on c.args.self.now.board)) c.new.ensures)

pub new-requires-2 : goal.new-requires-2
new-requires-2 c =
    let same = filled c.args.self.now.board c.loop-index.board (cells_all (at (setup_on c.args.self.now.board)) c.loop-index.board c.loop-index.index
    c.loop-index.invariant.0 c.loop-index-test.false c.loop-index.invariant.1) in
    subst (λ (s : Setup). IsLegal s) (sym same) c.args.self.now.legal

pub returns : goal.returns
returns c =
    c.new-2.ensures ∙ filled c.args.self.now.board c.loop-index.board (cells_all (at (setup_on c.args.self.now.board)) c.loop-index.board c.loop-index.index
    c.loop-index.invariant.0 c.loop-index-test.false c.loop-index.invariant.1)
