-- set by set
use Rattle.dob_pieces.proofs.Common.{◌∙◌, sym}
use Rattle.dob_pieces.specs.Boards.{is_chick, is_elephant, is_enemy, is_enemy_lion, is_giraffe, is_hen, is_own_lion}
use Rattle.dob_pieces.proofs.ImageMasks.{AreSquares-mirrored, hands-mirrored}
use Rattle.dob_pieces.proofs.board.Board.mirrored.Goals as goal

pub returns : goal.returns
returns c = λ setup are. record {
  own_lion_is = AreSquares-mirrored setup is_own_lion _ _ c.mirrored.ensures are.own_lion_is;
  enemy_lion_is = AreSquares-mirrored setup is_enemy_lion _ _ c.mirrored-2.ensures are.enemy_lion_is;
  chicks_are = AreSquares-mirrored setup is_chick _ _ c.mirrored-3.ensures are.chicks_are;
  elephants_are = AreSquares-mirrored setup is_elephant _ _ c.mirrored-4.ensures are.elephants_are;
  giraffes_are = AreSquares-mirrored setup is_giraffe _ _ c.mirrored-5.ensures are.giraffes_are;
  hens_are = AreSquares-mirrored setup is_hen _ _ c.mirrored-6.ensures are.hens_are;
  enemies_are = AreSquares-mirrored setup is_enemy _ _ c.mirrored-7.ensures are.enemies_are;
  hands_are = are.hands_are ∙ sym (hands-mirrored setup);
}
