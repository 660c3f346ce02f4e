-- The parts of the spot are below the products of their bases, and their digits are those of the spot.
use Rattle.dob_rank.proofs.Common.{◌<◌, ◌∙◌, ap, arith, refl, subst, sym, ℕ, digits_of, product, form_bases, square_bases, ◌%◌, ◌/◌, ◌≡◌}
use Rattle.dob_rank.proofs.InRuns.DigitParts.{parts_are, below_same, digits_same, quotient_is, rest_is, AreFewOnBoard-digits, AreParts, digits_joined}
use Rattle.dob_rank.proofs.block.digits_with.Goals as goal
use Rattle.dob_rank.proofs.block.digits_with.Goals.{After-form_bits, After-split_by_power-square}

pub form_bits-requires : goal.form_bits-requires
form_bits-requires c = AreFewOnBoard-digits c.args.set c.args.on_board.now c.requires.on_board

pub split_by_power-square-requires : goal.split_by_power-square-requires
split_by_power-square-requires c = (let few = c.form_bits.ensures.bound in omega arith)

-- the parts of the spot, and the numbers of its squares and of its forms
parts : (c : After-form_bits) → AreParts c.args.set c.args.on_board.now c.args.spot.run c.args.spot.local (product (form_bases c.args.on_board.now))
parts c = parts_are c.args.set c.args.on_board.now c.args.spot.run c.args.spot.local _ c.requires.run c.requires.local refl

square : (c : After-split_by_power-square) → c.split_by_power-square.result.0 ≡ c.args.spot.local / product (form_bases c.args.on_board.now)
square c = quotient_is _ _ _ _ c.split_by_power-square.ensures.quotient c.form_bits.ensures.value

form : (c : After-split_by_power-square) → c.split_by_power-square.result.1 ≡ c.args.spot.local % product (form_bases c.args.on_board.now)
form c = rest_is _ _ _ _ c.split_by_power-square.ensures.rest c.form_bits.ensures.value

pub three_digits-squares-requires : goal.three_digits-squares-requires
three_digits-squares-requires c =
    let at = goal.at.three_digits-squares-requires c in
    below_same _ _ _ c.requires.choices (subst (λ (n : ℕ). n < product (square_bases c.args.on_board.now)) (sym (square at.After-split_by_power-square))
    (parts at.After-form_bits).squares_low)

pub form_digits-forms-requires-clause-few : goal.form_digits-forms-requires-clause-few
form_digits-forms-requires-clause-few c = AreFewOnBoard-digits c.args.set c.args.on_board.now c.requires.on_board

pub form_digits-forms-requires-clause-number : goal.form_digits-forms-requires-clause-number
form_digits-forms-requires-clause-number c =
    let at = goal.at.form_digits-forms-requires-clause-number c in
    subst (λ (n : ℕ). n < product (form_bases c.args.on_board.now)) (sym (form at.After-split_by_power-square)) (parts at.After-form_bits).forms_low

pub returns : goal.returns
returns c =
    let at = (goal.at.returns c).After-split_by_power-square in
    digits_joined c.args.set c.args.on_board.now c.args.run c.args.spot.run c.args.spot.local (product (form_bases c.args.on_board.now)) _ _ _ _ _ _ _
    c.requires.run c.requires.local refl c.requires.digits
    (c.three_digits-squares.ensures ∙ digits_same _ _ _ c.requires.choices ∙ ap (digits_of (square_bases c.args.on_board.now)) (square at))
    (c.form_digits-forms.ensures ∙ ap (digits_of (form_bases c.args.on_board.now)) (form at))
    c.from.ensures c.from-2.ensures c.from-3.ensures c.from-4.ensures c.from-5.ensures
