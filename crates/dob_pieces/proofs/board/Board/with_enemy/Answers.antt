-- each set of which the piece is has its square more
use Rattle.dob_pieces.proofs.Common.{rules, subst, sym, Enemy}
use Rattle.dob_pieces.specs.Boards.{IsBoardOf}
use Rattle.dob_pieces.proofs.BoardChanges.{piece_added}
use Rattle.dob_pieces.proofs.board.Board.with_enemy.Goals as goal

pub returns : goal.returns
returns c = λ before after empty w are.
    subst (IsBoardOf after) (sym c.enemy_added.ensures)
    (piece_added before after c.args.square (search rules) c.args.self are empty Enemy c.args.kind w)
