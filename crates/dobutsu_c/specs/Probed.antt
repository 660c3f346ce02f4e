-- What is answered of a position's text by the bytes of a file: a fault's number or 0, and where it is 0 the value.
use Rattle.std.specs.Prelude.{◌≡◌, ◌≢◌, ℕ, List}
use Rattle.dob_pieces.specs.declared.profile.Family.{Family}
use Rattle.dob_pieces.specs.declared.setup.Setup.{Setup}
use Rattle.dob_distance.specs.declared.value.Value.{Value}
use Rattle.dob_value.specs.Follows.{ClassTable, IsValueTable}
use Rattle.dob_distance.specs.Values.{HasValue}
use Rattle.dob_dbfile.specs.declared.header.Format.{Format}
use Rattle.dob_dbfile.specs.Format.{IsFile}
use Rattle.dobutsu_c.specs.declared.by_index.ByFault.{ByFault}
use Rattle.dobutsu_c.specs.declared.fault.QuestionFault.{QuestionFault}
use Rattle.dobutsu_c.specs.declared.numbering.Numbering.{Numbering}
use Rattle.dobutsu_c.specs.declared.value.DobutsuValue.{DobutsuValue}
use Rattle.dobutsu_c.specs.ByIndex.{IsIndexFor, IsMarkedBy, IsToldBy, HasByFault, number_by}
use Rattle.dobutsu_c.specs.Faults.{fault_number}
use Rattle.dobutsu_c.specs.Probes.{AreRead, IsTextOf, IsTold, HasProbeFault, shown}

-- The number is 0, and the value is the one that the file gives the position, by the file of a value table its own. Or it is that of the one fault, and the
-- value is as it was.
pub record IsExact (file text : List ℕ) (old new : DobutsuValue) (number : ℕ) : Type 0 where
  pub given : number ≡ 0 → (value : Value) × IsTold file text value × (new ≡ shown value)
  pub told : (value : Value) → IsTold file text value → (number ≡ 0) × (new ≡ shown value)
  pub right : (table : ClassTable) (setup : Setup) → IsFile file table → IsValueTable table.family table.values → IsTextOf text setup → number ≡ 0
      → (value : Value) × HasValue table.family.profile setup value × (new ≡ shown value)
  pub refused : number ≢ 0 → (fault : QuestionFault) × HasProbeFault file text fault × (number ≡ fault_number fault)
  pub first : (fault : QuestionFault) → HasProbeFault file text fault → number ≡ fault_number fault
  pub unchanged : number ≢ 0 → new ≡ old

-- With the index of the file's family it is so; and with any numbers the value is that of some record of the file, or the fault is one that they have too.
pub record IsAnswer (file : List ℕ) (by : Numbering) (text : List ℕ) (old new : DobutsuValue) (number : ℕ) : Type 0 where
  pub exact : IsIndexFor file by → IsExact file text old new number
  pub told_by : number ≡ 0 → (value : Value) × IsToldBy file text by value × (new ≡ shown value)
  pub refused_by : number ≢ 0 → (fault : ByFault) × HasByFault file text by fault × (number ≡ number_by fault)
  pub unmarked : (format : Format) (family : Family) (setup : Setup) → AreRead file text format family setup → ¬ IsMarkedBy by family → number ≡ 29
  pub unchanged : number ≢ 0 → new ≡ old
