-- The board filled square by square is the turned one.
use Rattle.dob_pieces.proofs.Common.{◌∙◌, List, ap, arith, Cell, at, turned, turned_cell, turned_square, Hands, Setup}
use Rattle.dob_pieces.proofs.Boards.{cells_more, cells_all}
use Rattle.dob_pieces.proofs.setup.Setup.turned.Goals as goal

pub loop-index-preserved : goal.loop-index-preserved
loop-index-preserved c =
    cells_more (λ k. turned_cell (at c.args.self.now (turned_square k))) c.loop-index.board c.loop-index.index c.turned_cell.result
    c.loop-index.invariant.0 (omega arith) c.loop-index.invariant.1
    (c.turned_cell.ensures
    ∙ ap turned_cell (c.at.ensures ∙ ap (at c.args.self.now) (c.turned.ensures ∙ ap turned_square c.new.ensures)))

pub returns : goal.returns
unfolding turned
returns c =
    let hands : Hands = record { mover = c.args.self.now.hands.enemy; enemy = c.args.self.now.hands.mover } in
    ap (λ (board : List Cell). let s : Setup = record { board = board; hands = hands } in s)
    (cells_all (λ k. turned_cell (at c.args.self.now (turned_square k))) c.loop-index.board c.loop-index.index
    c.loop-index.invariant.0 c.loop-index-test.false c.loop-index.invariant.1)
