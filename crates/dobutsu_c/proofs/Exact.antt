-- At most one fault holds, none where the position is one of the file's family, and a position is given one value.
use Rattle.dobutsu_c.proofs.Common.{◌<◌, ◌≡◌, ◌≢◌, List, ap, refl, ℕ, Family, A, Setup, same_spelled, TextFault, IsPositionOf, class_number, classes_of}
use Rattle.dobutsu_c.proofs.Common.{IsInClass-class_number, class_number-below, one_class, ClassTable, IsValueTable, HasValue, Value, whole, CountsClasses}
use Rattle.dobutsu_c.proofs.Common.{HasReadFault, IsNoLonger, IsFile, Format, AreRead, HasProbeFault, IsAsked, IsGiven, IsTextOf, IsTold, QuestionFault}
use Rattle.dob_text.specs.Faults.{HasTextFault}
use Rattle.dob_text.proofs.Verdicts as texts
use Rattle.dob_dbfile.specs.declared.fault.Fault.{Fault as FileFault}
use Rattle.dob_dbfile.specs.declared.fault.Fault.TheVariants as file_fault
use Rattle.dob_dbfile.proofs.Looked.{one_record, table_family, table_record}
use Rattle.dob_dbfile.proofs.Places as files
use Rattle.dobutsu_c.specs.declared.fault.QuestionFault.TheVariants.{Text, File, Member}
use Rattle.dobutsu_c.specs.declared.fault.Stranger.{Stranger}
use Rattle.dobutsu_c.specs.declared.fault.Stranger.TheVariants.{FarChick, OtherSet}
use Rattle.dobutsu_c.specs.Faults.{IsStranger}

-- ---- one position, one format, one family
pub no_text_fault : (text : List ℕ) (setup : Setup) (fault : TextFault) → IsTextOf text setup → HasTextFault A text fault → ⊥
no_text_fault text setup fault is wrong = texts.no_fault A text setup fault is.0 refl is.1 wrong

pub no_file_fault : (file : List ℕ) (format : Format) (family : Family) (fault : FileFault) → IsNoLonger format family (whole file)
    → HasReadFault (whole file) fault → fault ≢ file_fault.Digest → ⊥
no_file_fault file format family fault is wrong known = known (files.only_digest (whole file) fault format family (is, refl) wrong)

-- what holds of the format, the family and the position that are read holds of those that they are found to be
by_read : (file text : List ℕ) (f g : Format) (p q : Family) (s t : Setup) (P : Format → Family → Setup → Type 0)
    → AreRead file text f p s → AreRead file text g q t → P f p s → P g q t
by_read file text f g p q s t P at_s at_t holds =
    let head = files.same_head f g p q file at_s.1.0.0.0 at_t.1.0.0.0 in
    rw (head.0, head.1, same_spelled text s t at_s.0.1 at_t.0.1) at holds

-- ---- faults
pub no_stranger : (family : Family) (p : Setup) (stranger : Stranger) → IsPositionOf family p → IsStranger family p stranger → ⊥
no_stranger family p FarChick member wrong = wrong member.allowed
no_stranger family p OtherSet member wrong = wrong.1 member.of_set

one_stranger : (family : Family) (p : Setup) (s t : Stranger) → IsStranger family p s → IsStranger family p t → s ≡ t
one_stranger family p FarChick FarChick at_s at_t = refl
one_stranger family p FarChick OtherSet at_s at_t = absurd (at_s at_t.0)
one_stranger family p OtherSet FarChick at_s at_t = absurd (at_t at_s.0)
one_stranger family p OtherSet OtherSet at_s at_t = refl

pub no_fault : (file text : List ℕ) (format : Format) (family : Family) (setup : Setup) (fault : QuestionFault) → IsAsked file text format family setup
    → HasProbeFault file text fault → ⊥
no_fault file text format family setup (Text fault) asked wrong = no_text_fault text setup fault asked.0.0 wrong
no_fault file text format family setup (File fault) asked wrong = no_file_fault file format family fault asked.0.1 wrong.2 wrong.3
no_fault file text format family setup (Member stranger) asked wrong =
    no_stranger wrong.1 wrong.2 stranger
    (by_read file text format wrong.0 family wrong.1 setup wrong.2 (λ (f : Format) (p : Family) (s : Setup). IsPositionOf p s) asked.0 wrong.3 asked.1) wrong.4

pub one_fault : (file text : List ℕ) (f g : QuestionFault) → HasProbeFault file text f → HasProbeFault file text g → f ≡ g
one_fault file text (Text f) (Text g) at_f at_g = ap (λ (h : TextFault). let fault : QuestionFault = Text h in fault) (texts.one_fault A text f g at_f at_g)
one_fault file text (Text f) (File g) at_f at_g = absurd (no_text_fault text at_g.0 f at_g.1 at_f)
one_fault file text (Text f) (Member g) at_f at_g = absurd (no_text_fault text at_g.2 f at_g.3.0 at_f)
one_fault file text (File f) (Text g) at_f at_g = absurd (no_text_fault text at_f.0 g at_f.1 at_g)
one_fault file text (File f) (File g) at_f at_g = ap (λ (h : FileFault). let fault : QuestionFault = File h in fault) (files.one_fault (whole file) f g at_f.2 at_g.2)
one_fault file text (File f) (Member g) at_f at_g = absurd (no_file_fault file at_g.0 at_g.1 f at_g.3.1 at_f.2 at_f.3)
one_fault file text (Member f) (Text g) at_f at_g = absurd (no_text_fault text at_f.2 g at_f.3.0 at_g)
one_fault file text (Member f) (File g) at_f at_g = absurd (no_file_fault file at_f.0 at_f.1 g at_f.3.1 at_g.2 at_g.3)
one_fault file text (Member f) (Member g) at_f at_g = ap (λ (h : Stranger). let fault : QuestionFault = Member h in fault) (one_stranger at_g.1 at_g.2 f g
    (by_read file text at_f.0 at_g.0 at_f.1 at_g.1 at_f.2 at_g.2 (λ (k : Format) (p : Family) (s : Setup). IsStranger p s f) at_f.3 at_g.3 at_f.4) at_g.4)

-- ---- values
pub one_given : (file : List ℕ) (format : Format) (family : Family) (setup : Setup) (v w : Value) → IsGiven file format family setup v
    → IsGiven file format family setup w → v ≡ w
one_given file format family setup v w at_v at_w =
    one_record (whole file) format at_w.0 v w (rw (one_class family setup at_v.0 at_w.0 at_v.1 at_w.1) at at_v.2) at_w.2

pub one_told : (file text : List ℕ) (v w : Value) → IsTold file text v → IsTold file text w → v ≡ w
one_told file text v w at_v at_w =
    one_given file at_w.0 at_w.1 at_w.2 v w
    (by_read file text at_v.0 at_w.0 at_v.1 at_w.1 at_v.2 at_w.2 (λ (f : Format) (p : Family) (s : Setup). IsGiven file f p s v) at_v.3.0 at_w.3.0 at_v.4)
    at_w.4

-- ---- by the file of the value table

module _ (file : List ℕ) (table : ClassTable) (is : IsFile file table) (right : IsValueTable table.family table.values) where
  -- what the file gives a position of the family is its value
  pub given_right : (format : Format) → CountsClasses format table.family file → (q : Setup) (value : Value) → IsPositionOf table.family q
      → IsGiven file format table.family q value → HasValue table.family.profile q value
  given_right format counts q value member given =
      let number : given.0 ≡ class_number table.family q =
      one_class table.family q given.0 (class_number table.family q) given.1 (IsInClass-class_number table.family q member) in
      let below : given.0 < classes_of table.family = rw number (class_number-below table.family q member) in
      right.values_are q value member (record {
        class = given.0;
        number = given.1;
        entry = table_record table file format table.family given.0 value right.table is counts below given.2;
      })

  -- what was read is of the table's family
  pub as_table : (text : List ℕ) (setup : Setup) (format : Format) (family : Family) (p : Setup) → IsTextOf text setup → IsAsked file text format family p
      → (family ≡ table.family) × (p ≡ setup) × IsPositionOf table.family setup × CountsClasses format table.family file
  as_table text setup format family p named asked =
      let counts = asked.0.1.0.0 in
      let same : family ≡ table.family = table_family table file format family right.table is counts in
      let read : p ≡ setup = same_spelled text p setup asked.0.0.1 named.1 in
      (same, read, rw (same, read) at asked.1, rw same at counts)

pub told_right : (file text : List ℕ) (table : ClassTable) (setup : Setup) (value : Value) → IsFile file table → IsValueTable table.family table.values
    → IsTextOf text setup → IsTold file text value → HasValue table.family.profile setup value
told_right file text table setup value is right named told =
    let as_is = as_table file table is right text setup told.0 told.1 told.2 named told.3 in
    given_right file table is right told.0 as_is.3 setup value as_is.2 (rw (as_is.0, as_is.1) at told.4)
