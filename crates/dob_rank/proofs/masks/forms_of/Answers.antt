-- The lowest bit of a mask is the square of the layer's first piece.
use Rattle.dob_rank.proofs.Common.{◌∙◌, arith, sym, order}
use Rattle.dob_rank.proofs.Boards.BoardLayers.{first_of_layer, second_of_layer}
use Rattle.dob_rank.proofs.Boards.LayerMasks.{no_form, form_found, forms_found, first_on_board, second_on_board}
use Rattle.dob_rank.proofs.masks.forms_of.Goals as goal

pub returns-then-pieces-eq0 : goal.returns-then-pieces-eq0
returns-then-pieces-eq0 c = λ setup has. sym (no_form (order c.args.of_layer) setup.board (sym has.pieces_are ∙ c.if-pieces-eq0.true))

pub form_at-first-requires : goal.form_at-first-requires
form_at-first-requires c =
    let has = c.requires.layer.1 in
    first_on_board (order c.args.of_layer) c.requires.layer.0.board c.args.mask has.long has.mask_is (omega (arith, has.pieces_are))

pub returns-then-pieces-eq1 : goal.returns-then-pieces-eq1
returns-then-pieces-eq1 c = λ setup has.
    form_found (order c.args.of_layer) setup.board c.args.mask _ has.long has.mask_is (sym has.pieces_are ∙ c.if-pieces-eq1.true)
    (c.form_at-first.ensures.value setup has.squares
    (first_of_layer (order c.args.of_layer) setup.board c.args.mask has.long has.mask_is (let one = sym has.pieces_are ∙ c.if-pieces-eq1.true in omega (arith, one))))

pub form_at-second-requires : goal.form_at-second-requires
form_at-second-requires c =
    let has = c.requires.layer.1 in
    second_on_board (order c.args.of_layer) c.requires.layer.0.board c.args.mask _ has.long has.mask_is c.saturating_sub.ensures (omega (arith, has.pieces_are, c.requires.few))

pub returns : goal.returns
returns c = λ setup has.
    forms_found (order c.args.of_layer) setup.board c.args.mask _ _ _ _ has.long has.mask_is c.saturating_sub.ensures (omega (arith, has.pieces_are, c.requires.few))
    (c.form_at-first.ensures.value setup has.squares
    (first_of_layer (order c.args.of_layer) setup.board c.args.mask has.long has.mask_is (omega (arith, has.pieces_are, c.requires.few))))
    (c.form_at-second.ensures.value setup has.squares
    (second_of_layer (order c.args.of_layer) setup.board c.args.mask _ has.long has.mask_is c.saturating_sub.ensures (omega (arith, has.pieces_are, c.requires.few))))
    c.base_of.ensures.value
