-- By the first set that has the square, and else a chick.
use Rattle.dob_pieces.proofs.Common.{◌∙◌, sym, at, Mover}
use Rattle.dob_pieces.specs.Boards.{is_elephant, is_giraffe, is_hen, is_own_lion}
use Rattle.dob_pieces.proofs.Attacks.{cell_lion, is_that_lion}
use Rattle.dob_pieces.proofs.OwnKinds.{own_chick, own_elephant, own_giraffe, own_hen}
use Rattle.dob_pieces.proofs.board.Board.own_kind.Goals as goal

pub returns-then-has : goal.returns-then-has
returns-then-has c = λ setup are own.
    let cell = at setup c.args.square in
    is_that_lion Mover cell (sym (cell_lion Mover cell) ∙ sym (c.has.ensures (λ s. is_own_lion (at setup s)) are.own_lion_is) ∙ c.if-has.true)

pub returns-then-has-2 : goal.returns-then-has-2
returns-then-has-2 c = λ setup are own.
    own_giraffe (at setup c.args.square) own (sym (c.has-else-has.ensures (λ s. is_giraffe (at setup s)) are.giraffes_are) ∙ c.if-has-2.true)

pub returns-then-has-3 : goal.returns-then-has-3
returns-then-has-3 c = λ setup are own.
    own_elephant (at setup c.args.square) own (sym (c.has-else-has-2.ensures (λ s. is_elephant (at setup s)) are.elephants_are) ∙ c.if-has-3.true)

pub returns-then-has-4 : goal.returns-then-has-4
returns-then-has-4 c = λ setup are own.
    own_hen (at setup c.args.square) own (sym (c.has-else-has-3.ensures (λ s. is_hen (at setup s)) are.hens_are) ∙ c.if-has-4.true)

pub returns-else-has-4 : goal.returns-else-has-4
returns-else-has-4 c = λ setup are own.
    own_chick (at setup c.args.square) own
    (sym (c.has.ensures (λ s. is_own_lion (at setup s)) are.own_lion_is) ∙ c.if-has.false)
    (sym (c.has-else-has.ensures (λ s. is_giraffe (at setup s)) are.giraffes_are) ∙ c.if-has-2.false)
    (sym (c.has-else-has-2.ensures (λ s. is_elephant (at setup s)) are.elephants_are) ∙ c.if-has-3.false)
    (sym (c.has-else-has-3.ensures (λ s. is_hen (at setup s)) are.hens_are) ∙ c.if-has-4.false)
