-- So many stand in the runs of the lions so far.
use Rattle.dob_rank.proofs.Common.{◌*◌, ◌≡◌, ◌≤◌, B, lions_before}
use Rattle.dob_rank.proofs.chick_forms.before_lions.Given as goal

abbrev pub invariant-loop-earlier : goal.invariant-loop-earlier
invariant-loop-earlier l = record {
  counted : l.before ≡ lions_before B l.chicks l.earlier;
  few : l.before ≤ 1600 * l.earlier;
}
