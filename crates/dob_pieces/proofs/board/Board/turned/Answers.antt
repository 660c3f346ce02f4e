-- set by set
use Rattle.dob_pieces.proofs.Common.{◌&&◌, ◌∙◌, ap, not, refl, Hands}
use Rattle.dob_pieces.proofs.ImageMasks.{AreSquares-turned, hands-turned}
use Rattle.dob_pieces.specs.Boards.{is_chick, is_elephant, is_enemy, is_enemy_lion, is_giraffe, is_hen, is_other, is_own_lion}
use Rattle.dob_pieces.proofs.board.Board.turned.Goals as goal

pub returns : goal.returns
returns c = λ setup are. record {
  own_lion_is = AreSquares-turned setup is_enemy_lion is_own_lion _ _ refl c.turned.ensures are.enemy_lion_is;
  enemy_lion_is = AreSquares-turned setup is_own_lion is_enemy_lion _ _ refl c.turned-2.ensures are.own_lion_is;
  chicks_are = AreSquares-turned setup is_chick is_chick _ _ refl c.turned-3.ensures are.chicks_are;
  elephants_are = AreSquares-turned setup is_elephant is_elephant _ _ refl c.turned-4.ensures are.elephants_are;
  giraffes_are = AreSquares-turned setup is_giraffe is_giraffe _ _ refl c.turned-5.ensures are.giraffes_are;
  hens_are = AreSquares-turned setup is_hen is_hen _ _ refl c.turned-6.ensures are.hens_are;
  enemies_are = AreSquares-turned setup (λ cell. is_other cell && not (is_enemy cell)) is_enemy _ _ refl c.turned-7.ensures
      (c.but_not.ensures _ _ (c.others.ensures setup are) are.enemies_are);
  hands_are = ap (λ (hands : Hands). record { mover = hands.enemy; enemy = hands.mover }) are.hands_are ∙ hands-turned setup;
}
