-- One choice, all forms of one chick, or those of all pairs.
use Rattle.dob_rank.proofs.Common.{◌≡◌, ◌∙◌, ap, arith, sym}
use Rattle.dob_rank.proofs.ProfileB.ChickForms.{in_run, run_forms}
use Rattle.dob_rank.proofs.chick_forms.forms_in.Goals as goal

pub returns-in-0-clause-value : goal.returns-in-0-clause-value
returns-in-0-clause-value c = sym (in_run c.args.chicks c.args.lions c.requires.chicks c.requires.lions ∙ ap (λ n. run_forms n c.args.lions) c.in-0.is)

pub returns-in-1-clause-value : goal.returns-in-1-clause-value
returns-in-1-clause-value c =
    c.forms_upto.ensures.value ∙ sym (in_run c.args.chicks c.args.lions c.requires.chicks c.requires.lions ∙ ap (λ n. run_forms n c.args.lions) c.in-1.is)

pub returns-in_default-clause-value : goal.returns-in_default-clause-value
returns-in_default-clause-value c =
    let two : c.args.chicks ≡ 2 = omega arith in
    c.pairs_before.ensures.value ∙ sym (in_run c.args.chicks c.args.lions c.requires.chicks c.requires.lions ∙ ap (λ n. run_forms n c.args.lions) two)
