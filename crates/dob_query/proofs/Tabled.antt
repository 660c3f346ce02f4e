-- In the file of a table the records say what it gives: so moves and lines by the ones are those by the other.
use Rattle.dob_query.proofs.Common.{◌<◌, List, subst, ℕ, slice_get_within, Setup, Move, ClassTable, IsTable, Value, table_has_record, table_record, whole}
use Rattle.dob_query.proofs.Common.{Format, GivenBy, IsLine, ValuedMove, IsRecorded}
use Rattle.dob_pieces.specs.declared.profile.Profile.{Profile}
use Rattle.dob_dbfile.specs.Faults.{CountsClasses}
use Rattle.dob_dbfile.specs.Format.{IsFile}
use Rattle.dob_dbfile.proofs.Written.{table_classes}
use Rattle.dob_probe.specs.ValuedMoves.{AreValuedMoves}
use Rattle.dob_probe.proofs.Relations as relations

-- where each position has the same values by two relations, lines by the one are lines by the other
module _ (profile : Profile) (By Other : Setup → Value → Type 0) (there : (p : Setup) (v : Value) → By p v → Other p v)
    (back : (p : Setup) (v : Value) → Other p v → By p v) where
  pub line_by : (moves : List Move) (p : Setup) → IsLine profile By p moves → IsLine profile Other p moves
  line_by moves p line =
      relations.line_by profile (λ p. Unit {0}) (λ p m q is goes_on goes. tt) By Other (λ p v is. there p v) (λ p v is. back p v) moves p tt line

  pub listed_by : (p : Setup) (list : List ValuedMove) → AreValuedMoves profile By p list → AreValuedMoves profile Other p list
  listed_by p list are =
      relations.listed_by profile (λ p. Unit {0}) (λ p m q is goes_on goes. tt) By Other (λ p v is. there p v) (λ p v is. back p v) p list tt are

-- ---- in the file of a table, read in the format and by the family that its header says

module _ (table : ClassTable) (bytes : List ℕ) (format : Format) (is : IsTable table.family table.values) (file : IsFile bytes table)
    (named : CountsClasses format table.family bytes) where
  pub given_by_record : (p : Setup) (v : Value) → IsRecorded (whole bytes) format table.family p v → GivenBy table p v
  given_by_record p v says = record {
    class = says.class;
    number = says.number;
    entry = table_record table bytes format table.family says.class v is file named says.below says.says;
  }

  pub record_of_given : (p : Setup) (v : Value) → GivenBy table p v → IsRecorded (whole bytes) format table.family p v
  record_of_given p v given = record {
    class = given.class;
    number = given.number;
    below = subst (λ (n : ℕ). given.class < n) (table_classes table is) (slice_get_within table.values given.class v given.entry);
    says = table_has_record table bytes format table.family given.class v is file named given.entry;
  }
