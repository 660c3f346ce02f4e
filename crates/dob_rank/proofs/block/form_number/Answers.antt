-- Forms are digits in bases that are powers of 2.
use Rattle.std.proofs.Common.{refl, ◌∙◌, arith}
use Rattle.dob_rank.proofs.InRuns.DigitParts.{forms_joined}
use Rattle.dob_rank.proofs.block.form_number.Goals as goal

pub join_by_power-elephants-requires : goal.join_by_power-elephants-requires
join_by_power-elephants-requires c =
    let are = forms_joined c.args.on_board.now c.args.forms.now _ c.told-forms c.requires.few c.requires.forms refl in
    record { exponent = are.few_elephants; quotient = are.first_low; rest = are.second_low }

pub join_by_power-requires : goal.join_by_power-requires
join_by_power-requires c =
    let are = forms_joined c.args.on_board.now c.args.forms.now _ c.told-forms c.requires.few c.requires.forms c.join_by_power-elephants.ensures in
    record { exponent = are.few_giraffes; quotient = are.joined_low; rest = are.third_low }

pub returns-clause-value : goal.returns-clause-value
returns-clause-value c =
    c.join_by_power.ensures
    ∙ (forms_joined c.args.on_board.now c.args.forms.now _ c.told-forms c.requires.few c.requires.forms c.join_by_power-elephants.ensures).number_is

pub returns-clause-bound : goal.returns-clause-bound
returns-clause-bound c =
    let are = forms_joined c.args.on_board.now c.args.forms.now _ c.told-forms c.requires.few c.requires.forms c.join_by_power-elephants.ensures in
    omega (arith, c.join_by_power.ensures, are.number_is, are.number_low)
