-- What a check answers of a table, by the verdict of all its classes.
use Rattle.dob_probe.proofs.Common.{◌≡◌, Err, IfErr, IfOk, Ok, Result, arith, length, refl, ClassTable, IsConsistent, IsTable, IsValueTable, consistent_is_right}
use Rattle.dob_probe.proofs.Common.{Fault, Inconsistent}
use Rattle.dob_probe.specs.Faults.{IsFaultOfCheck, IsVerdict}
use Rattle.dob_probe.proofs.Following.{consistent_has_no_break, consistent_of_all}

abbrev pub Verdict : Type 0
Verdict = Result (Unit {0}) Fault

pub record IsAnswer (table : ClassTable) (verdict : Verdict) : Type 0 where
  pub consistent : IfOk verdict (λ _. IsConsistent table.family table.values)
  pub right : IfOk verdict (λ _. IsValueTable table.family table.values)
  pub fault : IfErr verdict (IsFaultOfCheck table)
  pub passed : IsConsistent table.family table.values → verdict ≡ Ok tt

pub answered : (table : ClassTable) (verdict : Verdict) → IsTable table.family table.values → IsVerdict table 0 (length table.values) verdict → IsAnswer table verdict
answered table (Ok _) whole all =
    let is = consistent_of_all table whole (λ class within. all class (omega arith) within) in record {
      consistent = is;
      right = consistent_is_right table.family table.values is;
      fault = tt;
      passed = λ _. refl;
    }
answered table (Err (Inconsistent class)) whole first = record {
  consistent = tt;
  right = tt;
  fault = first;
  passed = λ consistent. absurd (consistent_has_no_break table class consistent first.breaks);
}
answered table (Err _) whole wrong = absurd wrong
