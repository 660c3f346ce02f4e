-- So many of the numbers so far are of forms that the chicks may have, and no more than are looked for.
use Rattle.dob_rank.proofs.Common.{◌≡◌, ◌≤◌, marks_below, forms_stand}
use Rattle.dob_rank.proofs.chick_forms.forms_at.Given as goal

abbrev pub invariant-loop-forms : goal.invariant-loop-forms
invariant-loop-forms l = record {
  counted : l.before ≡ marks_below (forms_stand l.chicks l.squares.0 l.squares.1) l.forms;
  few : l.before ≤ l.number;
}
