-- One more number is of forms that the chicks may have, or none.
use Rattle.dob_rank.proofs.Common.{◌∙◌, arith, sym, forms_stand}
use Rattle.dob_rank.proofs.Marked.Words.{marks_below_none, none_counted, one_counted}
use Rattle.dob_rank.proofs.chick_forms.forms_at.Goals as goal
use Rattle.dob_rank.proofs.chick_forms.forms_at.Goals.{then-may_have_forms+else-before-number, else-may_have_forms}

pub loop-forms-init : goal.loop-forms-init
loop-forms-init c = record { counted = sym (marks_below_none (forms_stand c.args.chicks c.args.squares.0 c.args.squares.1)); few = omega arith }

pub loop-forms-preserved : goal.loop-forms-preserved
loop-forms-preserved c = elim c.if-may_have_forms.branch [
  | then-may_have_forms+else-before-number w ↦ record {
    counted = w.before-is ∙ one_counted (forms_stand c.args.chicks c.args.squares.0 c.args.squares.1) c.loop-forms.forms c.loop-forms.before c.loop-forms.invariant.counted
        (sym c.may_have_forms.ensures ∙ w.if-may_have_forms.true);
    few = omega (arith, w.before-is, c.loop-forms.invariant.few, w.if-before-number.false);
  }
  | else-may_have_forms w ↦ record {
    counted = w.before-is ∙ none_counted (forms_stand c.args.chicks c.args.squares.0 c.args.squares.1) c.loop-forms.forms c.loop-forms.before c.loop-forms.invariant.counted
        (sym c.may_have_forms.ensures ∙ w.if-may_have_forms.false);
    few = omega (arith, w.before-is, c.loop-forms.invariant.few);
  }
]
