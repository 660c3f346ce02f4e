-- Of one chick those of the squares before.
use Rattle.dob_rank.proofs.Common.{◌∙◌, ◌<◌, ap, arith, sym, B, forms_before}
use Rattle.dob_rank.proofs.ProfileB.ChickForms.{before_one}
use Rattle.dob_rank.proofs.chick_forms.before_choice.Goals as goal

pub returns-in-1-clause-value : goal.returns-in-1-clause-value
returns-in-1-clause-value c =
    let low : c.args.number < 10 = rw c.in-1.is at c.requires.number in
    c.forms_upto.ensures.value
    ∙ sym (ap (λ n. forms_before B c.args.lions n c.args.number) c.in-1.is ∙ before_one c.args.lions c.args.number c.requires.lions (omega (arith, low)))
