-- A fault of checking a table is one of checking its file.
use Rattle.dob_survey.proofs.Common.{ClassTable, IsFaultOfCheck, IsFileOf, List, Table, ℕ}
use Rattle.dob_survey.specs.Checks.{IsCheckFault}
use Rattle.dob_probe.specs.declared.fault.Fault as probing
use Rattle.dob_probe.specs.declared.fault.Fault.TheVariants as table_fault

module _ (Has : List ℕ → Type 0) (table : ClassTable) (file : IsFileOf Has table) where
  pub check_fault_holds : (fault : probing.Fault) → IsFaultOfCheck table fault → IsCheckFault Has (Table fault)
  check_fault_holds (table_fault.Inconsistent class) holds = (table, file, holds)
  check_fault_holds fault holds = absurd holds
