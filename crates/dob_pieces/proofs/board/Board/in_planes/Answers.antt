-- Each set is a plane, what two planes have, or what one has without the other.
use Rattle.dob_pieces.proofs.Common.{◌&&◌, not, refl, AreSquares}
use Rattle.dob_pieces.proofs.BoardPlanes.{has_planes}
use Rattle.dob_pieces.proofs.CellPlanes.{squares_same}
use Rattle.dob_pieces.specs.Boards.{is_any_lion, is_chick, is_elephant, is_enemy, is_enemy_lion, is_foe, is_giraffe, is_giraffe_or_hen, is_hen, is_own_lion}
use Rattle.dob_pieces.proofs.board.Board.in_planes.Goals as goal

pub returns : goal.returns
returns c = λ setup twelve word hands.
    let has = has_planes setup c.args.planes twelve word in
    let lions : AreSquares setup is_any_lion c.plane-lions.result = rw c.plane-lions.ensures has.lions_are in
    let foes : AreSquares setup is_foe c.plane-enemies.result = rw c.plane-enemies.ensures has.foes_are in
    let chicks : AreSquares setup is_chick c.plane-chicks.result = rw c.plane-chicks.ensures has.chicks_are in
    let elephants : AreSquares setup is_elephant c.plane-elephants.result = rw c.plane-elephants.ensures has.elephants_are in
    let long : AreSquares setup is_giraffe_or_hen c.plane-giraffes_and_hens.result = rw c.plane-giraffes_and_hens.ensures has.giraffes_and_hens_are in
    record {
      own_lion_is = squares_same setup (λ cell. is_any_lion cell && not (is_foe cell)) is_own_lion _ refl (c.but_not.ensures _ _ lions foes);
      enemy_lion_is = squares_same setup (λ cell. is_any_lion cell && is_foe cell) is_enemy_lion _ refl (c.and.ensures _ _ lions foes);
      chicks_are = chicks;
      elephants_are = elephants;
      giraffes_are = squares_same setup (λ cell. is_giraffe_or_hen cell && not (is_chick cell)) is_giraffe _ refl (c.but_not-2.ensures _ _ long chicks);
      hens_are = squares_same setup (λ cell. is_giraffe_or_hen cell && is_chick cell) is_hen _ refl (c.and-2.ensures _ _ long chicks);
      enemies_are = squares_same setup (λ cell. is_foe cell && not (is_any_lion cell)) is_enemy _ refl (c.but_not-3.ensures _ _ foes lions);
      hands_are = hands;
    }
