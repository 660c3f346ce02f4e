-- set by set
use Rattle.dob_pieces.proofs.Common.{refl, rules}
use Rattle.dob_pieces.proofs.BoardChanges.{without_piece}
use Rattle.dob_pieces.proofs.board.Board.without.Goals as goal

pub returns : goal.returns
returns c = λ before after w are. without_piece before after c.args.square (search rules) c.args.self are w _ c.without.ensures
    c.without-2.ensures c.without-3.ensures c.without-4.ensures c.without-5.ensures c.without-6.ensures
    c.without-7.ensures refl
