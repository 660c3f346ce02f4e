-- each set of which the piece is has its square more
use Rattle.dob_pieces.proofs.Common.{rules, subst, sym, Mover}
use Rattle.dob_pieces.specs.Boards.{IsBoardOf}
use Rattle.dob_pieces.proofs.BoardChanges.{piece_added}
use Rattle.dob_pieces.proofs.board.Board.with_own.Goals as goal

pub returns : goal.returns
returns c = λ before after empty w are.
    subst (IsBoardOf after) (sym c.own_added.ensures)
    (piece_added before after c.args.square (search rules) c.args.self are empty Mover c.args.kind w)
