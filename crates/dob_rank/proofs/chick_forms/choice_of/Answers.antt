-- The places among the squares that the lions leave are squares of the board.
use Rattle.dob_rank.proofs.Common.{◌≡◌, ◌∙◌, ap, sym, first_place, free_squares, marks_below, second_place, forms_stand}
use Rattle.dob_rank.specs.Weights.{left_square}
use Rattle.dob_rank.proofs.ProfileB.FormSquares.{chick_squares_are}
use Rattle.dob_rank.proofs.ProfileB.ChickForms.{weight_is}
use Rattle.dob_rank.proofs.chick_forms.choice_of.Goals as goal
use Rattle.dob_rank.proofs.chick_forms.choice_of.Goals.{After-among-squares}

first : (c : After-among-squares) → c.among-squares.result.0 ≡ left_square c.args.lions (first_place free_squares c.args.chicks c.args.number)
first c = c.among-squares.ensures.first ∙ ap (left_square c.args.lions) c.places_of-places.ensures.first

second : (c : After-among-squares) → c.among-squares.result.1 ≡ left_square c.args.lions (second_place free_squares c.args.chicks c.args.number)
second c = c.among-squares.ensures.second ∙ ap (left_square c.args.lions) c.places_of-places.ensures.second

pub returns-clause-forms : goal.returns-clause-forms
returns-clause-forms c =
    let at = (goal.at.returns-clause-forms c).After-among-squares in
    c.number_of_forms.ensures.value
    ∙ ap (marks_below (forms_stand c.args.chicks c.among-squares.result.0 c.among-squares.result.1)) c.power.ensures
    ∙ sym (weight_is c.args.lions c.args.chicks c.args.number _ _ c.requires.lions c.requires.chicks c.requires.number (first at) (second at))

pub returns-clause-squares : goal.returns-clause-squares
returns-clause-squares c =
    let at = (goal.at.returns-clause-squares c).After-among-squares in
    chick_squares_are c.args.lions c.args.chicks c.args.number _ _ c.requires.lions c.requires.chicks c.requires.number (first at) (second at)
