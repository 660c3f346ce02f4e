-- A board shows one setup, so the one that is known.
use Rattle.dob_moves.proofs.Common.{subst, sym, IsBoardOf, IsLegal, Setup}
use Rattle.dob_moves.proofs.Shown.{shown_is}
use Rattle.dob_moves.proofs.position_board.PositionBoard.new.Goals as goal

pub invariant_of-result : goal.invariant_of-result
invariant_of-result c =
    let p = c.requires.0 in
    let same = sym (shown_is p c.args.board c.requires.2 c.requires.1.squares) in
    record {
      legal = subst (λ (s : Setup). IsLegal s) same c.requires.1;
      shows = subst (λ (s : Setup). IsBoardOf s c.args.board) same c.requires.2;
    }

pub returns : goal.returns
returns c = λ setup legal are. shown_is setup c.args.board are legal.squares
