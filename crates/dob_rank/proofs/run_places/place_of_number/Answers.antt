-- The search finds the choice of the chicks' squares, and what is left of the number gives the others' squares and the chicks' forms.
use Rattle.dob_rank.proofs.Common.{◌%◌, ◌*◌, ◌+◌, ◌-◌, ◌/◌, ◌<◌, ◌^◌, ◌≡◌, ◌≤◌, ◌∙◌, ap, arith, slice_index, subst, sym, ℕ, B, choose, forms_in, free_squares, others_squares}
use Rattle.dob_rank.proofs.Common.{div-add-mod', div_below, mod_below}
use Rattle.dob_rank.proofs.Positions.Blocks.{choose_ten, four_small}
use Rattle.dob_rank.proofs.OfFamilies.PlaceCounts.{others_forms-some}
use Rattle.dob_rank.proofs.OfFamilies.FamilyRanks.{place_for}
use Rattle.dob_rank.proofs.ProfileB.PlaceNumbers.{IsInChoice, choice_found, few_forms, forms_in_choice, number_fits, numbered, place_small, square_small}
use Rattle.dob_rank.proofs.ProfileB.PlaceNumbers.{two_four}
use Rattle.dob_rank.proofs.run_places.place_of_number.Goals as goal
use Rattle.dob_rank.proofs.run_places.place_of_number.Goals.{After-split_by_power-rest, After-choice_of-choice, After-forms_at-forms}

some_forms : (c : After-split_by_power-rest) → 0 < 2 ^ c.others_bits-bits.result
some_forms c = subst (λ (n : ℕ). 0 < n) (sym c.others_bits-bits.ensures.value) (others_forms-some c.args.on_board.now)

pub choice_at-found-requires-clause-number : goal.choice_at-found-requires-clause-number
choice_at-found-requires-clause-number c =
    let at = (goal.at.choice_at-found-requires-clause-number c).After-split_by_power-rest in
    let all = forms_in B (slice_index c.args.on_board.now 0) c.args.lions in
    subst (λ (n : ℕ). n / c.others_in-others.result < all) (sym c.split_by_power-rest.ensures.quotient)
    (number_fits c.args.number (2 ^ c.others_bits-bits.result) c.others_in-others.result all
    (subst (λ (n : ℕ). c.args.number < all * (n * 2 ^ c.others_bits-bits.result)) (sym c.others_in-others.ensures.value)
    (subst (λ (n : ℕ). c.args.number < all * (others_squares c.args.on_board.now * n)) (sym c.others_bits-bits.ensures.value) c.requires.number))
    c.others_in-others.ensures.positive (some_forms at))

in_it : (c : After-choice_of-choice) → IsInChoice c.others_in-others.result c.split_by_power-rest.result.0 c.choice_of-choice.result.before
    c.choice_of-choice.result.forms
in_it c = choice_found (slice_index c.args.on_board.now 0) c.args.lions c.others_in-others.result c.split_by_power-rest.result.0 c.choice_at-found.result
    c.choice_of-choice.result.before c.choice_of-choice.result.forms c.others_in-others.ensures.positive c.choice_at-found.ensures.low
    c.choice_at-found.ensures.high c.choice_of-choice.ensures.before c.choice_of-choice.ensures.forms

square_few : (c : After-choice_of-choice) → c.choice_at-found.result * c.others_in-others.result
    + (c.split_by_power-rest.result.0 - c.choice_of-choice.result.before * c.others_in-others.result) / c.choice_of-choice.result.forms < 45 * 2025
square_few c =
    let at = in_it c in
    square_small c.choice_at-found.result c.others_in-others.result _ (choose free_squares (slice_index c.args.on_board.now 0)) c.choice_at-found.ensures.choice
    (choose_ten (slice_index c.args.on_board.now 0) c.requires.few.chicks)
    (div_below _ c.choice_of-choice.result.forms c.others_in-others.result at.some at.left) c.others_in-others.ensures.bound

pub overflow_sub-left : goal.overflow_sub-left
overflow_sub-left c = (in_it (goal.at.overflow_sub-left c).After-choice_of-choice).low

pub overflow_mul-square : goal.overflow_mul-square
overflow_mul-square c = (let few = square_few (goal.at.overflow_mul-square c).After-choice_of-choice in omega (arith, few))

pub overflow_add-square : goal.overflow_add-square
overflow_add-square c = (let few = square_few (goal.at.overflow_add-square c).After-choice_of-choice in omega (arith, few))

pub nonzero_div-square : goal.nonzero_div-square
nonzero_div-square c = (in_it (goal.at.nonzero_div-square c).After-choice_of-choice).some

pub nonzero_rem-left : goal.nonzero_rem-left
nonzero_rem-left c = (in_it (goal.at.nonzero_rem-left c).After-choice_of-choice).some

pub forms_at-forms-requires-clause-number : goal.forms_at-forms-requires-clause-number
forms_at-forms-requires-clause-number c =
    forms_in_choice (slice_index c.args.on_board.now 0) c.args.lions c.choice_at-found.result c.choice_of-choice.result.forms
    c.choice_of-choice.result.squares.0 c.choice_of-choice.result.squares.1 _ c.choice_at-found.ensures.choice c.choice_of-choice.ensures.forms
    c.choice_of-choice.ensures.squares (in_it (goal.at.forms_at-forms-requires-clause-number c).After-choice_of-choice).some

small : (a b : ℕ) → a < b → b ≤ 2 ^ 31 → a < 2 ^ 31
small a b h k = omega (arith, h, k)

smaller : (a b : ℕ) → a < b → b ≤ 2 ^ 31 → a < 2 ^ 32
smaller a b h k = omega (arith, h, k)

pub join_by_power-requires-clause-quotient : goal.join_by_power-requires-clause-quotient
join_by_power-requires-clause-quotient c = small _ _ (square_few (goal.at.join_by_power-requires-clause-quotient c).After-choice_of-choice) (omega arith)

form_few : (n : ℕ) → n ≤ 16 → n ≤ 2 ^ 31
form_few n h = omega (arith, h)

pub join_by_power-requires-clause-rest : goal.join_by_power-requires-clause-rest
join_by_power-requires-clause-rest c =
    smaller _ _ c.forms_at-forms.ensures.below (form_few _ (four_small (slice_index c.args.on_board.now 0) c.requires.few.chicks))

pub join_by_power-requires-2-clause-quotient : goal.join_by_power-requires-2-clause-quotient
join_by_power-requires-2-clause-quotient c =
    let i = slice_index c.args.on_board.now 0 in
    let bits = two_four i c.requires.few.chicks in
    subst (λ (n : ℕ). n < 2 ^ 31) (sym c.join_by_power.ensures)
    (small _ _ (place_small _ (2 ^ (2 * i)) c.forms_at-forms.result (square_few (goal.at.join_by_power-requires-2-clause-quotient c).After-choice_of-choice)
    (subst (λ (n : ℕ). n ≤ 16) (sym bits) (four_small i c.requires.few.chicks)) (subst (λ (n : ℕ). c.forms_at-forms.result < n) (sym bits) c.forms_at-forms.ensures.below))
    (omega arith))

others_below : (c : After-split_by_power-rest) → c.split_by_power-rest.result.1 < 2 ^ c.others_bits-bits.result
others_below c = subst (λ (n : ℕ). n < 2 ^ c.others_bits-bits.result) (sym c.split_by_power-rest.ensures.rest) (mod_below c.args.number _ (some_forms c))

pub join_by_power-requires-2-clause-rest : goal.join_by_power-requires-2-clause-rest
join_by_power-requires-2-clause-rest c =
    smaller _ _ (others_below (goal.at.join_by_power-requires-2-clause-rest c).After-split_by_power-rest)
    (form_few _ (subst (λ (n : ℕ). n ≤ 16) (sym c.others_bits-bits.ensures.value) (few_forms c.args.on_board.now c.requires.few)))

pub returns : goal.returns
returns c =
    let i = slice_index c.args.on_board.now 0 in
    let at = goal.at.returns c in
    let is = numbered c.args.on_board.now c.args.lions c.args.number (2 ^ c.others_bits-bits.result) (2 ^ (2 * i)) c.others_in-others.result
    c.choice_at-found.result c.choice_of-choice.result.before c.choice_of-choice.result.forms c.choice_of-choice.result.squares.0
    c.choice_of-choice.result.squares.1 c.forms_at-forms.result c.join_by_power-2.result c.split_by_power-rest.result.0 c.split_by_power-rest.result.1
    c.others_bits-bits.ensures.value (two_four i c.requires.few.chicks) c.others_in-others.ensures.value c.choice_at-found.ensures.choice
    c.choice_of-choice.ensures.before c.choice_of-choice.ensures.forms c.choice_of-choice.ensures.squares (in_it at.After-choice_of-choice)
    c.forms_at-forms.ensures.below c.forms_at-forms.ensures.allowed c.forms_at-forms.ensures.number (others_below at.After-split_by_power-rest)
    (whole c.args.number (2 ^ c.others_bits-bits.result) _ _ c.split_by_power-rest.ensures.quotient c.split_by_power-rest.ensures.rest)
    (c.join_by_power-2.ensures ∙ ap (λ (n : ℕ). n * 2 ^ c.others_bits-bits.result + c.split_by_power-rest.result.1) c.join_by_power.ensures) in
    place_for c.args.on_board.now c.args.lions c.args.number c.join_by_power-2.result c.requires.lions is.place_below is.allowed is.number_is
  where
    whole : (number r rest f : ℕ) → rest ≡ number / r → f ≡ number % r → rest * r + f ≡ number
    whole number r rest f e h = ap (λ (n : ℕ). n * r + f) e ∙ ap (λ (n : ℕ). number / r * r + n) h ∙ div-add-mod' number r
