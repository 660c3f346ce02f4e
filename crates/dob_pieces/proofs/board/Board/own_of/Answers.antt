-- The kind's pieces that aren't the enemy's; a chick is no hen.
use Rattle.dob_pieces.proofs.Common.{◌&&◌, ◌||◌, not, refl, is_piece, Chick, Elephant, Giraffe, Hen, Mover}
use Rattle.dob_pieces.specs.Boards.{is_chick, is_elephant, is_enemy, is_giraffe, is_hen}
use Rattle.dob_pieces.proofs.CellPlanes.{squares_same}
use Rattle.dob_pieces.proofs.board.Board.own_of.Goals as goal

pub returns-in-Lion : goal.returns-in-Lion
returns-in-Lion c = λ setup are. rw c.in-Lion.is are.own_lion_is

pub returns-in-Giraffe : goal.returns-in-Giraffe
returns-in-Giraffe c = λ setup are.
    rw c.in-Giraffe.is (squares_same setup (λ cell. is_giraffe cell && not (is_enemy cell)) (is_piece Mover Giraffe) _ refl
    (c.but_not.ensures _ _ are.giraffes_are are.enemies_are))

pub returns-in-Elephant : goal.returns-in-Elephant
returns-in-Elephant c = λ setup are.
    rw c.in-Elephant.is (squares_same setup (λ cell. is_elephant cell && not (is_enemy cell)) (is_piece Mover Elephant) _ refl
    (c.but_not-in-Elephant.ensures _ _ are.elephants_are are.enemies_are))

pub returns-in-Chick : goal.returns-in-Chick
returns-in-Chick c = λ setup are.
    rw c.in-Chick.is (squares_same setup (λ cell. is_chick cell && not (is_hen cell || is_enemy cell)) (is_piece Mover Chick) _ refl
    (c.but_not-in-Chick.ensures _ _ are.chicks_are (c.or.ensures _ _ are.hens_are are.enemies_are)))

pub returns-in-Hen : goal.returns-in-Hen
returns-in-Hen c = λ setup are.
    rw c.in-Hen.is (squares_same setup (λ cell. is_hen cell && not (is_enemy cell)) (is_piece Mover Hen) _ refl
    (c.but_not-in-Hen.ensures _ _ are.hens_are are.enemies_are))
