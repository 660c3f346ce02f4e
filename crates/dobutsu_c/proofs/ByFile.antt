-- By the file of a value table the moves that are answered have the values that they have by definition.
use Rattle.dobutsu_c.proofs.Common.{List, ℕ, Setup, IsPositionOf, moves_keep_the_family, ClassTable, IsValueTable, HasValue, Value, CountsClasses, IsFile}
use Rattle.dobutsu_c.proofs.Common.{Format, AreValuedMoves, ValuedMove, AreToldMoves, IsGiven, IsTextOf}
use Rattle.dob_dbfile.proofs.Looked.{table_has_record}
use Rattle.dob_probe.specs.Lines.{GivenBy}
use Rattle.dob_probe.proofs.Best.{of_value}
use Rattle.dob_probe.proofs.Relations.{listed_by}
use Rattle.dobutsu_c.proofs.Exact.{as_table, given_right}

module _ (file : List ℕ) (table : ClassTable) (is : IsFile file table) (right : IsValueTable table.family table.values) (format : Format)
    (counts : CountsClasses format table.family file) where
  -- what a position's value is the file gives it
  right_given : (q : Setup) (value : Value) → IsPositionOf table.family q → HasValue table.family.profile q value
      → IsGiven file format table.family q value
  right_given q value member has =
      let entry : GivenBy table q value = of_value table right q value member has in
      (entry.class, entry.number, table_has_record table file format table.family entry.class value right.table is counts entry.entry)

  valued_right : (p : Setup) (list : List ValuedMove) → IsPositionOf table.family p
      → AreValuedMoves table.family.profile (IsGiven file format table.family) p list
      → AreValuedMoves table.family.profile (HasValue table.family.profile) p list
  valued_right =
      listed_by table.family.profile (IsPositionOf table.family) (λ p m q is. moves_keep_the_family table.family p m q is) (IsGiven file format table.family)
      (HasValue table.family.profile) (given_right file table is right format counts) right_given

pub moves_right : (file text : List ℕ) (table : ClassTable) (setup : Setup) (list : List ValuedMove) → IsFile file table
    → IsValueTable table.family table.values → IsTextOf text setup → AreToldMoves file text list
    → AreValuedMoves table.family.profile (HasValue table.family.profile) setup list
moves_right file text table setup list is right named told =
    let as_is = as_table file table is right text setup told.0 told.1 told.2 named told.3 in
    valued_right file table is right told.0 as_is.3 setup list as_is.2 (rw (as_is.0, as_is.1) at told.4)
