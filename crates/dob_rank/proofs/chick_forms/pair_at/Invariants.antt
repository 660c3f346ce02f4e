-- The forms of the pairs whose first square is one so far are no more than the number.
use Rattle.dob_rank.proofs.Common.{◌*◌, ◌≡◌, ◌≤◌}
use Rattle.dob_rank.specs.Weights.{forms_upto, pairs_before}
use Rattle.dob_rank.proofs.chick_forms.pair_at.Given as goal

abbrev pub invariant-loop-first : goal.invariant-loop-first
invariant-loop-first l = record {
  counted : l.seen ≡ forms_upto l.lions l.first;
  sum : l.before ≡ pairs_before l.lions l.first;
  low : l.before ≤ l.number;
  few : l.seen ≤ 4 * l.first;
  few_pairs : l.before ≤ 160 * l.first;
}
