-- The board filled square by square is the mirrored one.
use Rattle.dob_pieces.proofs.Common.{◌∙◌, List, ap, arith, Cell, at, mirrored, mirrored_square, Setup}
use Rattle.dob_pieces.proofs.Boards.{cells_more, cells_all}
use Rattle.dob_pieces.proofs.setup.Setup.mirrored.Goals as goal

pub loop-index-preserved : goal.loop-index-preserved
loop-index-preserved c =
    cells_more (λ k. at c.args.self.now (mirrored_square k)) c.loop-index.board c.loop-index.index c.at.result
    c.loop-index.invariant.0 (omega arith) c.loop-index.invariant.1
    (c.at.ensures ∙ ap (at c.args.self.now) (c.mirrored.ensures ∙ ap mirrored_square c.new.ensures))

pub returns : goal.returns
unfolding mirrored
returns c =
    ap (λ (board : List Cell). let s : Setup = record { board = board; hands = c.args.self.now.hands } in s)
    (cells_all (λ k. at c.args.self.now (mirrored_square k)) c.loop-index.board c.loop-index.index
    c.loop-index.invariant.0 c.loop-index-test.false c.loop-index.invariant.1)
