-- The sums over all lions, computed.
use Rattle.dob_rank.proofs.Common.{◌≡◌, ◌∙◌, ap, arith, sym}
use Rattle.dob_rank.proofs.ProfileB.ChickForms.{hand_of, hand_size_is}
use Rattle.dob_rank.proofs.chick_forms.hand_size.Goals as goal

pub returns-in-0-clause-value : goal.returns-in-0-clause-value
returns-in-0-clause-value c = sym (hand_size_is c.args.chicks c.requires ∙ ap hand_of c.in-0.is)

pub returns-in-1-clause-value : goal.returns-in-1-clause-value
returns-in-1-clause-value c = sym (hand_size_is c.args.chicks c.requires ∙ ap hand_of c.in-1.is)

pub returns-in_default-clause-value : goal.returns-in_default-clause-value
returns-in_default-clause-value c = (let two : c.args.chicks ≡ 2 = omega arith in sym (hand_size_is c.args.chicks c.requires ∙ ap hand_of two))
