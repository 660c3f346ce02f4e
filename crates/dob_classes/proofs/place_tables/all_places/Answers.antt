-- Each number's digits are choices, and their places go to the end of the table.
use Rattle.dob_classes.proofs.Common.{◌<◌, ◌∙◌, ◌≡◌, List, ap, arith, subst, ℕ, digits_of, product, AreSomePlaces, square_bases}
use Rattle.dob_classes.proofs.Tables.PlaceTables.{are_choices, choices-positive, choices-fit, places_more}
use Rattle.dob_classes.proofs.place_tables.all_places.Goals as goal

pub product-number-end-requires : goal.product-number-end-requires
product-number-end-requires c = record {
  positive = choices-positive c.args.on_board.now c.args.choices.now c.requires.few c.requires.choices;
  fits = choices-fit c.args.on_board.now c.args.choices.now c.requires.few c.requires.choices;
}

pub places_by-places-requires : goal.places_by-places-requires
places_by-places-requires c =
    let below : c.loop-number.number < product (square_bases c.args.on_board.now) =
    subst (λ (bs : List ℕ). c.loop-number.number < product bs) c.requires.choices (omega (arith, c.loop-number-test.true, c.product-number-end.ensures)) in
    are_choices c.args.on_board.now c.three_digits.result c.loop-number.number c.requires.few below
    (c.three_digits.ensures ∙ ap (λ bs. digits_of bs c.loop-number.number) c.requires.choices)

pub loop-number-preserved : goal.loop-number-preserved
loop-number-preserved c =
    places_more c.args.on_board.now c.three_digits.result c.loop-number.number c.places_by-places.result c.loop-number.table.items _ c.loop-number.invariant
    (c.three_digits.ensures ∙ ap (λ bs. digits_of bs c.loop-number.number) c.requires.choices) c.places_by-places.ensures c.in_ok-push.ensures.items

pub returns : goal.returns
returns c =
    let whole = c.product-number-end.ensures in
    let number : c.loop-number.number ≡ product c.args.choices.now = omega (arith, whole, c.loop-number.auto.number-end, c.loop-number-test.false) in
    subst (λ (n : ℕ). AreSomePlaces c.args.on_board.now n c.loop-number.table.items) (number ∙ ap product c.requires.choices) c.loop-number.invariant
