-- The faults of the records, of the header and of opening the file are those of asking it, and by the file of a value table the answer is right.
use Rattle.dob_query.proofs.Common.{◌≡◌, List, inr, subst, sym, ℕ, IfOk, Result, Family, Profile, Setup, ClassTable, HasValue, Value, Stream, whole}
use Rattle.dob_query.proofs.Common.{CountsClasses, Format, IsRefusal, IsRecorded, ShelfChange, Ending, GivesOver, AreAnswerLines, AreRightAnswerLines, Asked}
use Rattle.dob_query.proofs.Common.{By, IsAnswerOf, IsAnswerTo, IsAskFault, IsAskingFault, IsFaultOfAsking, IsFaultTo, IsGapFor, IsFileOf, IsOfNamed}
use Rattle.dob_query.proofs.Common.{IsOpeningFault, IsPositionOf, IsRecordsFault, IsTableAnswer, IsTableFault, FailsWhere, IfErr, Err, Ok, String, false, is_io}
use Rattle.dob_query.proofs.Common.{IsToldBy, HasValueFile, IsTextOf, ProgramFault, File, Memory, Table, Question, Moves, OfValue}
use Rattle.dob_pieces.specs.Profiles.{IsAllowed}
use Rattle.dob_value.specs.Follows.{IsTable, IsValueTable}
use Rattle.dob_dbfile.specs.Format.{IsFile}
use Rattle.dob_dbfile.proofs.Looked.{table_family}
use Rattle.dob_probe.specs.Lines.{GivenBy}
use Rattle.dob_probe.specs.declared.fault.Fault as probing
use Rattle.dob_probe.specs.declared.fault.Fault.TheVariants as table_fault
use Rattle.dob_probe.proofs.Best.{lines_are_best}
use Rattle.dob_probe.proofs.ByValue.{valued_rightly}
use Rattle.dob_query.proofs.Tabled.{given_by_record, line_by, listed_by, record_of_given}
use Rattle.dob_files.proofs.TableFaults.{over_weaker, right_table}
use Rattle.dob_files.specs.Owed.{AnswersOwed}
use Rattle.dob_query.specs.Questions.{question_owed}
use Rattle.dob_words.specs.declared.command.orders.By.TheVariants as way
use Rattle.dob_files.specs.declared.fault.ProgramFault.TheVariants.{Text}
use Rattle.dob_text.specs.declared.fault.TextFault.{TextFault}
use Rattle.dob_files.specs.Faults.{fault_of_table}
use Rattle.dob_probe.specs.declared.gap.LookupFault.{LookupFault}
use Rattle.dob_probe.specs.declared.gap.LookupFault.TheVariants as gap
use Rattle.std.proofs.Common.{arith}
use Rattle.std.specs.Prelude.{string_bytes}

-- what each of the bytes that a file may have gives of an Ok value, all of them give of it
pub ok_each : {T E : Type 0} (Has : List ℕ → Type 0) (P : List ℕ → T → Type 0) (result : Result T E) → ((bytes : List ℕ) → Has bytes → IfOk result (P bytes))
    → IfOk result (λ t. (bytes : List ℕ) → Has bytes → P bytes t)
ok_each Has P result each = grind (arith, each)

-- where what is right is right in another way, and each fault that holds too
pub answered_weaker : {X : Type 0} (c : ShelfChange) (Is Other : X → Type 0) (Holds Also : ProgramFault → Type 0) (result : Result X ProgramFault)
    → ((x : X) → Is x → Other x) → ((fault : ProgramFault) → Holds fault → Also fault) → GivesOver c Is Holds result → GivesOver c Other Also result
answered_weaker c Is Other Holds Also result right fault is = grind (arith, right, fault)

-- ---- faults of asking a source

-- the family that refuses the position
pub refusal_asks : (question : Question) (Gives : Stream → Type 0) (p : Setup) (format : Format) (family : Family) (fault : probing.Fault)
    → IsRefusal family p fault → ((stream : Stream) → Gives stream → CountsClasses format family stream.bytes) → IsFaultOfAsking question Gives p (Table fault)
refusal_asks question Gives p format family table_fault.FarChick refused names = λ stream known. (format, family, names stream known, refused)
refusal_asks question Gives p format family table_fault.OtherSet refused names = λ stream known. (format, family, names stream known, refused)
refusal_asks question Gives p format family fault refused names = absurd refused

-- the records of a source that shows what it may give
pub records_ask : (question : Question) (Gives Shows : Stream → Type 0) (p : Setup) (format : Format) (family : Family) (fault : ProgramFault)
    → ((stream : Stream) → Gives stream → IsOfNamed stream p format family) → ((stream : Stream) → Gives stream → Shows stream)
    → IsRecordsFault question Shows format family p fault → IsFaultOfAsking question Gives p fault
records_ask question Gives Shows p format family (File fault) named shows holds =
    λ stream known. inr (inr (format, family, named stream known, holds stream (shows stream known)))
records_ask question Gives Shows p format family (Table (table_fault.Inconsistent class)) named shows holds =
    λ stream known. (format, family, named stream known, holds stream (shows stream known))
records_ask question Gives Shows p format family Memory named shows holds = tt
records_ask question Gives Shows p format family fault named shows holds = absurd holds

-- ---- faults of asking the file

module _ (question : Question) (Has : List ℕ → Type 0) (p : Setup) where
  -- a fault of asking a source that gives the file
  pub source_asks : (Gives : Stream → Type 0) (fault : ProgramFault) → ((bytes : List ℕ) → Has bytes → Gives (whole bytes))
      → IsFaultOfAsking question Gives p fault
      → IsAskingFault question Has p fault
  source_asks Gives (File fault) gives holds = λ stream known. holds stream (subst Gives (sym known.2) (gives known.0 known.1))
  source_asks Gives (Table table_fault.Memory) gives holds = absurd holds
  source_asks Gives (Table fault) gives holds = λ stream known. holds stream (subst Gives (sym known.2) (gives known.0 known.1))
  source_asks Gives Memory gives holds = tt
  source_asks Gives fault gives holds = absurd holds

-- none is a text's
no_text : (by : By) (question : Question) (Has : List ℕ → Type 0) (p : Setup) (fault : TextFault) → IsFaultTo by question Has p (Text fault) → ⊥
no_text way.Table question Has p fault holds = holds
no_text way.Records question Has p fault holds = holds

-- a fault of asking for a position is one of asking for the text's
pub asks_for_text : (asked : Asked) (Has : List ℕ → Type 0) (p : Setup) (words : List ℕ) (fault : ProgramFault) → IsTextOf words p
    → IsFaultTo asked.by asked.question Has p fault → IsAskFault asked Has words fault
asks_for_text asked Has p words (Text fault) named holds = absurd (no_text asked.by asked.question Has p fault holds)
asks_for_text asked Has p words Memory named holds = tt
asks_for_text asked Has p words fault named holds = (p, named, holds)

-- a fault of opening the file is one of asking its table
pub opening_asks : (question : Question) (Has : List ℕ → Type 0) (p : Setup) (fault : ProgramFault) → IsOpeningFault Has fault
    → IsFaultTo way.Table question Has p fault
opening_asks question Has p (Table fault) holds = absurd holds
opening_asks question Has p fault holds = holds

-- so is one of asking the table
pub table_asks : (question : Question) (Has : List ℕ → Type 0) (table : ClassTable) (p : Setup) (fault : ProgramFault) → IsFileOf Has table
    → IsTableFault question table p fault → IsFaultTo way.Table question Has p fault
table_asks question Has table p (Table fault) file holds = (table, file, holds)
table_asks question Has table p fault file holds = grind arith

-- no device fails in that
no_device : (question : Question) (table : ClassTable) (p : Setup) (c : ShelfChange) (fault : ProgramFault) → FailsWhere c false
    → IsTableFault question table p fault
    → FailsWhere c (is_io fault)
no_device question table p c fault works holds = grind arith

pub by_table : {X : Type 0} (c : ShelfChange) (question : Question) (file : List ℕ) (table : ClassTable) (p : Setup) (result : Result (String X) ProgramFault)
    → IsFileOf (c.before.has file) table → FailsWhere c false → IfOk result (λ lines. IsTableAnswer question table p (string_bytes lines))
    → IfErr result (IsTableFault question table p)
    → GivesOver c (λ lines. IsAnswerTo way.Table question (c.before.has file) p (string_bytes lines)) (IsFaultTo way.Table question (c.before.has file) p) result
by_table c question file table p (Ok lines) is works told fault = ((table, is, told), works)
by_table c question file table p (Err lower) is works told fault = (table_asks question (c.before.has file) table p lower is fault, no_device question table p c lower works fault)

-- ---- by what says values

-- a table has a value for each position, so it leaves open only where a line breaks off
pub table_gap : (question : Question) (table : ClassTable) (p : Setup) (why : LookupFault probing.Fault) → IsPositionOf table.family p
    → IsGapFor question table.family (GivenBy table) (λ (q : Setup) (fault : probing.Fault). ⊥) p why → IsTableFault question table p (fault_of_table why)
table_gap (OfValue form) table p (gap.NoValue fault) member is = absurd is
table_gap (Moves form) table p (gap.NoValue fault) member is = absurd is.2
table_gap line table p (gap.NoValue fault) member is = absurd is.2
table_gap question table p (gap.Inconsistent class) member is = (member, is)
table_gap question table p gap.Memory member is = tt

-- ---- by the file of a value table

-- what the records of a table's file tell the table tells
module _ (table : ClassTable) (bytes : List ℕ) (format : Format) (is : IsTable table.family table.values) (file : IsFile bytes table)
    (named : CountsClasses format table.family bytes) (p : Setup) where
  abbrev Recorded : Setup → Value → Type 0
  Recorded = IsRecorded (whole bytes) format table.family

  there : (q : Setup) (v : Value) → Recorded q v → GivenBy table q v
  there = given_by_record table bytes format is file named

  back : (q : Setup) (v : Value) → GivenBy table q v → Recorded q v
  back = record_of_given table bytes format is file named

  told_by_table : (question : Question) (lines : List ℕ) → IsToldBy question table.family.profile Recorded p lines
      → IsToldBy question table.family.profile (GivenBy table) p lines
  told_by_table (OfValue form) lines told = (told.0, there p told.0 told.1, told.2)
  told_by_table (Moves form) lines told = (told.0, listed_by table.family.profile Recorded (GivenBy table) there back p told.0 told.1, told.2)
  told_by_table line lines told =
      (told.0, told.1, there p told.0 told.2, line_by table.family.profile Recorded (GivenBy table) there back told.1 p told.3, told.4)

-- what a value table tells is right
told_rightly : (table : ClassTable) → IsValueTable table.family table.values → (p : Setup) → IsPositionOf table.family p → (question : Question)
    (lines : List ℕ) → IsToldBy question table.family.profile (GivenBy table) p lines
    → IsToldBy question table.family.profile (HasValue table.family.profile) p lines
told_rightly table right p member (OfValue form) lines told = (told.0, right.values_are p told.0 member told.1, told.2)
told_rightly table right p member (Moves form) lines told = (told.0, valued_rightly table right p member told.0 told.1, told.2)
told_rightly table right p member line lines told =
    (told.0, told.1, right.values_are p told.0 member told.2, lines_are_best table p told.1 right member told.3, told.4)

-- by the rules of its profile
module _ (profile : Profile) (table : ClassTable) (right : IsValueTable table.family table.values) (rules : table.family.profile ≡ profile) (p : Setup)
    (member : IsPositionOf table.family p) where
  table_allowed : IsAllowed profile p
  table_allowed = subst (λ (by : Profile). IsAllowed by p) rules member.allowed

  table_told : (question : Question) (lines : List ℕ) → IsToldBy question table.family.profile (GivenBy table) p lines
      → IsToldBy question profile (HasValue profile) p lines
  table_told question lines told =
      subst (λ (by : Profile). IsToldBy question by (HasValue by) p lines) rules (told_rightly table right p member question lines told)

module _ (Has : List ℕ → Type 0) (profile : Profile) (file : HasValueFile Has profile) (p : Setup) (question : Question) (lines : List ℕ)
    (told : (bytes : List ℕ) → Has bytes → IsAnswerOf question (whole bytes) p lines) where
  abbrev table : ClassTable
  table = file.table

  abbrev answer : IsAnswerOf question (whole file.bytes) p lines
  answer = told file.bytes file.has

  same : answer.family ≡ table.family
  same = table_family table file.bytes answer.format answer.family file.right.table file.file answer.by.named

  by : IsOfNamed (whole file.bytes) p answer.format table.family
  by = subst (IsOfNamed (whole file.bytes) p answer.format) same answer.by

  pub answer_allowed : IsAllowed profile p
  answer_allowed = table_allowed profile table file.right file.rules p by.member

  pub answer_right : IsToldBy question profile (HasValue profile) p lines
  answer_right =
      table_told profile table file.right file.rules p by.member question lines
      (told_by_table table file.bytes answer.format file.right.table file.file by.named p question lines
      (subst (λ (family : Family). IsToldBy question family.profile (IsRecorded (whole file.bytes) answer.format family) p lines) same answer.told))

-- what is told by the file is right, and the position is one of its rules
pub told_right : (by : By) (question : Question) (Has : List ℕ → Type 0) (profile : Profile) → HasValueFile Has profile → (p : Setup) (lines : List ℕ)
    → IsAnswerTo by question Has p lines → IsAllowed profile p × IsToldBy question profile (HasValue profile) p lines
told_right way.Table question Has profile file p lines (table, is, told) =
    let right = right_table Has profile file table is in
    (table_allowed profile table right.0 right.1 p told.member, table_told profile table right.0 right.1 p told.member question lines told.told)
told_right way.Records question Has profile file p lines told =
    (answer_allowed Has profile file p question lines told, answer_right Has profile file p question lines told)

-- so is what is told of a text's position
pub right_of : (by : By) (question : Question) (Has : List ℕ → Type 0) (profile : Profile) → HasValueFile Has profile → (words lines : List ℕ) (p : Setup)
    → IsTextOf words p → IsAnswerTo by question Has p lines → AreRightAnswerLines question profile words lines
right_of by question Has profile file words lines p named told =
    let is = told_right by question Has profile file p lines told in record { position = p; named = named; allowed = is.0; told = is.1 }

pub question_right : (asked : Asked) (name words : List ℕ) (c : ShelfChange) (e : Ending) → AnswersOwed (question_owed asked name words) c e
    → (question_owed asked name words).right c e
question_right asked name words c e answers = λ profile file.
    over_weaker c (AreAnswerLines asked (c.before.has name) words) (AreRightAnswerLines asked.question profile words) (IsAskFault asked (c.before.has name) words) e
    (λ lines told. right_of asked.by asked.question (c.before.has name) profile file words lines told.position told.named told.told)
    answers
