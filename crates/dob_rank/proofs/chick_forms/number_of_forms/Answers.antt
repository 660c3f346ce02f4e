-- The first chick's form and the second one's are the digits of the number.
use Rattle.dob_rank.proofs.Common.{◌≡◌, ◌∙◌, ap, arith, refl, sym, marks_below, forms_stand}
use Rattle.dob_rank.proofs.ProfileB.ChickForms.{no_form, one_form, two_chicks, with_form, without_form}
use Rattle.dob_rank.proofs.chick_forms.number_of_forms.Goals as goal

pub returns-in-0-clause-value : goal.returns-in-0-clause-value
returns-in-0-clause-value c =
    sym (ap (λ n. marks_below (forms_stand n c.args.squares.0 c.args.squares.1) c.args.forms) c.in-0.is ∙ no_form c.args.squares.0 c.args.squares.1 c.args.forms)

pub returns-in-1-clause-value : goal.returns-in-1-clause-value
returns-in-1-clause-value c =
    c.forms_below.ensures.value
    ∙ sym (ap (λ n. marks_below (forms_stand n c.args.squares.0 c.args.squares.1) c.args.forms) c.in-1.is
    ∙ one_form c.args.squares.0 c.args.squares.1 c.args.forms (rw c.in-1.is at c.requires.forms))

pub returns-then-may_have_forms-clause-value : goal.returns-then-may_have_forms-clause-value
returns-then-may_have_forms-clause-value c =
    let two : c.args.chicks ≡ 2 = omega arith in
    with_form c.forms_below-in_default.result c.forms_below-in_default-2.result c.forms_below-then-may_have_forms.result _ c.may_have_forms.result
    c.if-may_have_forms.true
    (two_chicks c.args.chicks c.args.squares.0 c.args.squares.1 c.args.forms c.forms_below-in_default.result c.forms_below-in_default-2.result
    c.forms_below-then-may_have_forms.result c.may_have_forms.result two c.requires.forms c.forms_below-in_default.ensures.value
    c.forms_below-in_default-2.ensures.value c.may_have_forms.ensures c.forms_below-then-may_have_forms.ensures.value)

pub returns-else-may_have_forms-clause-value : goal.returns-else-may_have_forms-clause-value
returns-else-may_have_forms-clause-value c =
    let two : c.args.chicks ≡ 2 = omega arith in
    without_form c.forms_below-in_default.result c.forms_below-in_default-2.result _ _ c.may_have_forms.result c.if-may_have_forms.false
    (two_chicks c.args.chicks c.args.squares.0 c.args.squares.1 c.args.forms c.forms_below-in_default.result c.forms_below-in_default-2.result
    _ c.may_have_forms.result two c.requires.forms c.forms_below-in_default.ensures.value
    c.forms_below-in_default-2.ensures.value c.may_have_forms.ensures refl)
