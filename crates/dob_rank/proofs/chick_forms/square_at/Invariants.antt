-- The forms of the squares so far are no more than the number.
use Rattle.dob_rank.proofs.Common.{◌*◌, ◌≡◌, ◌≤◌}
use Rattle.dob_rank.specs.Weights.{forms_upto}
use Rattle.dob_rank.proofs.chick_forms.square_at.Given as goal

abbrev pub invariant-loop-square : goal.invariant-loop-square
invariant-loop-square l = record {
  counted : l.seen ≡ forms_upto l.lions l.square;
  low : l.seen ≤ l.number;
  few : l.seen ≤ 4 * l.square;
}
