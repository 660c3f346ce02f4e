-- The parts of the place give the choice and the forms, and these its number.
use Rattle.dob_rank.proofs.Common.{◌%◌, ◌*◌, ◌+◌, ◌/◌, ◌<◌, ◌^◌, ◌≡◌, ◌≤◌, ◌∙◌, ap, arith, slice_index, subst, sym, ℕ, B, choose, free_squares, one_if}
use Rattle.dob_rank.proofs.Common.{choice_weight, forms_before, forms_stand, marks_below}
use Rattle.dob_rank.specs.Weights.{allowed_place, stands}
use Rattle.dob_rank.proofs.Marked.Words.{marks_below-le}
use Rattle.dob_rank.proofs.ProfileB.PlaceNumbers.{AreParts, few_forms, parts_of, number_is, two_four}
use Rattle.dob_rank.proofs.run_places.number_of_place.Goals as goal
use Rattle.dob_rank.proofs.run_places.number_of_place.Goals.{After-split_by_power-square, After-join_by_power}

parts : (c : After-split_by_power-square) → AreParts c.args.on_board.now
    (c.args.place / 2 ^ c.others_bits-bits.result / 2 ^ (2 * slice_index c.args.on_board.now 0) / c.others_in-others.result)
    (c.args.place / 2 ^ c.others_bits-bits.result / 2 ^ (2 * slice_index c.args.on_board.now 0) % c.others_in-others.result)
    (c.args.place / 2 ^ c.others_bits-bits.result % 2 ^ (2 * slice_index c.args.on_board.now 0)) (c.args.place % 2 ^ c.others_bits-bits.result)
parts c = parts_of c.args.on_board.now c.args.place (2 ^ c.others_bits-bits.result) (2 ^ (2 * slice_index c.args.on_board.now 0)) c.others_in-others.result
    c.requires.place c.others_bits-bits.ensures.value (two_four (slice_index c.args.on_board.now 0) c.requires.few.chicks) c.others_in-others.ensures.value
    c.others_in-others.ensures.positive

square_is : (c : After-split_by_power-square) → c.split_by_power-square.result.0
    ≡ c.args.place / 2 ^ c.others_bits-bits.result / 2 ^ (2 * slice_index c.args.on_board.now 0)
square_is c = c.split_by_power-square.ensures.quotient ∙ ap (λ (n : ℕ). n / 2 ^ (2 * slice_index c.args.on_board.now 0)) c.split_by_power-rest.ensures.quotient

form_is : (c : After-split_by_power-square) → c.split_by_power-square.result.1
    ≡ c.args.place / 2 ^ c.others_bits-bits.result % 2 ^ (2 * slice_index c.args.on_board.now 0)
form_is c = c.split_by_power-square.ensures.rest ∙ ap (λ (n : ℕ). n % 2 ^ (2 * slice_index c.args.on_board.now 0)) c.split_by_power-rest.ensures.quotient

pub choice_of-choice-requires-clause-number : goal.choice_of-choice-requires-clause-number
choice_of-choice-requires-clause-number c =
    subst (λ (n : ℕ). n / c.others_in-others.result < choose free_squares (slice_index c.args.on_board.now 0)) (sym (square_is c)) (parts c).choice_below

pub number_of_forms-requires-clause-forms : goal.number_of_forms-requires-clause-forms
number_of_forms-requires-clause-forms c =
    let at = (goal.at.number_of_forms-requires-clause-forms c).After-split_by_power-square in
    omega (arith, form_is at, (parts at).form_below)

pub join_by_power-requires-clause-rest : goal.join_by_power-requires-clause-rest
join_by_power-requires-clause-rest c =
    small c.own_forms.result c.split_by_power-rest.result.1 (c.args.place % 2 ^ c.others_bits-bits.result) c.own_forms.ensures.bound
    c.split_by_power-rest.ensures.rest (few_forms c.args.on_board.now c.requires.few)
    (parts (goal.at.join_by_power-requires-clause-rest c).After-split_by_power-square).forms_below
  where
    small : (own f g : ℕ) {r : ℕ} → own ≤ f → f ≡ g → r ≤ 16 → g < r → own < 2 ^ 32
    small own f g h e few low = omega (arith, h, e, few, low)

value : (c : After-join_by_power)
    → c.split_by_power-square.result.0 ≡ c.args.place / 2 ^ c.others_bits-bits.result / 2 ^ (2 * slice_index c.args.on_board.now 0)
    → c.split_by_power-square.result.1 ≡ c.args.place / 2 ^ c.others_bits-bits.result % 2 ^ (2 * slice_index c.args.on_board.now 0)
    → c.join_by_power.result ≡ marks_below (allowed_place B c.args.on_board.now c.args.lions) c.args.place
value c square form =
    let i = slice_index c.args.on_board.now 0 in
    c.join_by_power.ensures
    ∙ ap (λ (n : ℕ). (c.choice_of-choice.result.before * c.others_in-others.result + n % c.others_in-others.result * c.choice_of-choice.result.forms
    + c.number_of_forms.result) * 2 ^ c.others_bits-bits.result + c.own_forms.result) square
    ∙ number_is c.args.on_board.now c.args.lions c.args.place (2 ^ c.others_bits-bits.result) (2 ^ (2 * i)) c.others_in-others.result
    c.choice_of-choice.result.before c.choice_of-choice.result.forms c.choice_of-choice.result.squares.0 c.choice_of-choice.result.squares.1
    c.number_of_forms.result c.own_forms.result c.may_have_forms-is_allowed.result
    c.requires.place c.others_bits-bits.ensures.value (two_four i c.requires.few.chicks) c.others_in-others.ensures.value c.others_in-others.ensures.positive
    (c.choice_of-choice.ensures.before ∙ ap (λ (n : ℕ). forms_before B c.args.lions i (n / c.others_in-others.result)) square)
    (c.choice_of-choice.ensures.forms ∙ ap (λ (n : ℕ). choice_weight B c.args.lions i (n / c.others_in-others.result)) square)
    (λ k. ap (λ (n : ℕ). stands B c.args.lions i (n / c.others_in-others.result) k) (sym square) ∙ c.choice_of-choice.ensures.squares k)
    (c.number_of_forms.ensures.value
    ∙ ap (marks_below (forms_stand i c.choice_of-choice.result.squares.0 c.choice_of-choice.result.squares.1)) form)
    (c.may_have_forms-is_allowed.ensures ∙ ap (forms_stand i c.choice_of-choice.result.squares.0 c.choice_of-choice.result.squares.1) form)
    (c.own_forms.ensures.value ∙ ap (λ (n : ℕ). n * one_if c.may_have_forms-is_allowed.result) c.split_by_power-rest.ensures.rest)

pub returns-clause-value : goal.returns-clause-value
returns-clause-value c = (let at = (goal.at.returns-clause-value c).After-split_by_power-square in value c (square_is at) (form_is at))

pub returns-clause-bound : goal.returns-clause-bound
returns-clause-bound c =
    let at = (goal.at.returns-clause-bound c).After-split_by_power-square in
    few c.join_by_power.result c.args.place (value c (square_is at) (form_is at)) (marks_below-le (allowed_place B c.args.on_board.now c.args.lions) c.args.place)
  where
    few : (a b : ℕ) {m : ℕ} → a ≡ m → m ≤ b → a ≤ b
    few a b e h = omega (arith, e, h)
