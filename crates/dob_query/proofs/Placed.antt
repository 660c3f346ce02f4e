-- What the lines of standard input come to by the records of a source is what is owed for asking for each.
use Rattle.dob_query.proofs.Common.{◌≡◌, Bool, List, Option, inl, inr, refl, subst, sym, true, ℕ, Err, IfErr, IfOk, Ok, Result, String, is_err, Family}
use Rattle.dob_query.proofs.Common.{Setup, IsPositionOf, Stream, whole, CountsClasses, Format, IsRefusal, IsRecorded, ShelfChange}
use Rattle.dob_query.proofs.Common.{AreEachLines, GivesWhole, IsEachFault, IsRecordsFault, IsRecordsGap, IsToldBy, IsTextOf, EndsLines, ProgramFault, File}
use Rattle.dob_query.proofs.Common.{◌⊎◌, Memory, Table, Question, OfValue}
use Rattle.std.specs.Prelude.{string_bytes}
use Rattle.dob_probe.specs.declared.fault.Fault as probing
use Rattle.dob_dbfile.specs.declared.fault.Fault.TheVariants as file_fault
use Rattle.dob_probe.specs.declared.fault.Fault.TheVariants as table_fault
use Rattle.dob_probe.specs.declared.gap.LookupFault.TheVariants as gap
use Rattle.dob_words.specs.declared.command.orders.By.TheVariants as way
use Rattle.dob_query.specs.QuestionsEach.{AnswersLine, EndsRecords, GivesLine, IsStreamAnswer}
use Rattle.dob_query.specs.QuestionsEach.{IsPlaceAnswer, IsRecordAnswer, IsRecordEnd, IsToldOf, TellsRecords, end_of, ended_lines, ends_all}
use Rattle.dob_files.proofs.EachLine.{tells_are}
use Rattle.dob_files.specs.Telling.{Told}
use Rattle.std.proofs.Common.{arith}

module _ (question : Question) (Has : List ℕ → Type 0) (Gives Shows : Stream → Type 0) (gives : (bytes : List ℕ) → Has bytes → Gives (whole bytes))
    (shows : (bytes : List ℕ) → Has bytes → Shows (whole bytes)) where
  given : (stream : Stream) → GivesWhole Has stream → Gives stream
  given stream file = subst Gives (sym file.2) (gives file.0 file.1)

  shown : (stream : Stream) → GivesWhole Has stream → Shows stream
  shown stream file = subst Shows (sym file.2) (shows file.0 file.1)

  module _ (format : Format) (family : Family) (named : (stream : Stream) → Gives stream → CountsClasses format family stream.bytes) where
    place_answer : (line : List ℕ) (answer : Result (List ℕ) ProgramFault) → IsRecordAnswer question Shows format family line answer
        → IsPlaceAnswer (AnswersLine (IsStreamAnswer question (GivesWhole Has))) question (GivesWhole Has) line answer
    place_answer line (Ok lines) is = (
      is.0,
      is.1,
      λ stream file. record {
        format = format;
        family = family;
        by = record { named = named stream (given stream file); member = is.2.0 };
        told = is.2.1 stream (shown stream file);
      },
    )
    place_answer line (Err (Table (table_fault.Inconsistent class))) is = (
      is.0,
      is.1,
      λ stream file. (format, family, record { named = named stream (given stream file); member = is.2.0 }, is.2.1 stream (shown stream file)),
    )
    place_answer line (Err (Table table_fault.Memory)) is = absurd is.2
    place_answer line (Err (Table fault)) is = (is.0, is.1, λ stream file. (format, family, named stream (given stream file), is.2))
    place_answer line (Err (File fault)) is = (
      is.0,
      is.1,
      λ stream file. (format, family, record { named = named stream (given stream file); member = is.2.0 }, is.2.1 stream (shown stream file)),
    )
    place_answer line (Err fault) is = grind arith

module _ (question : Question) (c : ShelfChange) (name : List ℕ) (Gives Shows : Stream → Type 0)
    (gives : (bytes : List ℕ) → c.before.has name bytes → Gives (whole bytes))
    (shows : (bytes : List ℕ) → c.before.has name bytes → Shows (whole bytes)) (known : Option (List ℕ)) (same : known ≡ c.before.input) where
  pub places_told : (lines : List (List ℕ)) (is_refused : Bool) (text : List ℕ) → TellsRecords question Gives Shows lines is_refused text
      → AreEachLines way.Records question (c.before.has name) lines is_refused text
  places_told lines is_refused text told =
      tells_are (Result (List ℕ) ProgramFault) (ended_lines (end_of question)) is_err (IsRecordAnswer question Shows told.format told.family)
      (IsPlaceAnswer (AnswersLine (IsStreamAnswer question (GivesWhole (c.before.has name)))) question (GivesWhole (c.before.has name)))
      (place_answer question (c.before.has name) Gives Shows gives shows told.format told.family told.named) lines is_refused text told.told

  pub places_ended : (fault : ProgramFault) → EndsRecords Gives Shows known fault → IsEachFault way.Records c name fault
  places_ended (File fault) (inl front) = λ stream file. front stream (given question (c.before.has name) Gives Shows gives shows stream file)
  places_ended (File fault) (inr fails) = λ stream file.
      absurd (cc (fails stream (shown question (c.before.has name) Gives Shows gives shows stream file), file.2))
  places_ended fault ends = grind (arith, same)

-- of fewer streams
pub record_weaker : (question : Question) (Shows Fewer : Stream → Type 0) → ((stream : Stream) → Fewer stream → Shows stream) → (format : Format)
    (family : Family) (line : List ℕ) (answer : Result (List ℕ) ProgramFault) → IsRecordAnswer question Shows format family line answer
    → IsRecordAnswer question Fewer format family line answer
record_weaker question Shows Fewer shows format family line answer is = grind (arith, shows)

pub told_weaker : (question : Question) (Shows Fewer : Stream → Type 0) → ((stream : Stream) → Fewer stream → Shows stream)
    → (format : Format) (family : Family)
    (line : List ℕ) (told : Told) → IsToldOf question (IsRecordAnswer question Shows format family) line told
    → IsToldOf question (IsRecordAnswer question Fewer format family) line told
told_weaker question Shows Fewer shows format family line told is =
    (is.0, record_weaker question Shows Fewer shows format family line is.0 is.1, is.2, is.3)

-- ---- what a line came to

module _ (question : Question) (Shows : Stream → Type 0) (format : Format) (family : Family) (line : List ℕ) (position : Setup) where
  -- why the family refuses its position
  pub refused_line : (X : Type 0) (fault : probing.Fault) → IsTextOf line position → IsRefusal family position fault
      → GivesLine {X = X} (IsRecordAnswer question Shows format family line) (Err (Table fault))
  refused_line X fault named refused = grind arith

  -- what the records give of it
  pub told_line : {X : Type 0} (result : Result (String X) ProgramFault) → IsTextOf line position → IsPositionOf family position
      → ((stream : Stream) → Shows stream → IfOk result (λ lines. IsToldBy question family.profile (IsRecorded stream format family) position (string_bytes lines)))
      → IfErr result (IsRecordsFault question Shows format family position) → GivesLine (IsRecordAnswer question Shows format family line) result
  told_line result named member told fault = grind arith

module _ (question : Question) (Shows : Stream → Type 0) (format : Format) (family : Family) (line : List ℕ) where
  -- a device that fails is the source
  lacks_io : (q : Question) → question ≡ q → (stream : Stream) (bytes : ℕ) → (position : Setup)
      → IsRecordsGap q stream format family position (gap.NoValue (file_fault.Io bytes))
      → stream.fails ≡ true
  lacks_io (OfValue form) same stream bytes position lacks = lacks.fails.1
  lacks_io q same stream bytes position lacks = lacks.2.fails.1

  -- and what ends all is that it failed, or memory
  pub line_ends : (X : Type 0) (fault : ProgramFault) → GivesLine {X = X} (IsRecordAnswer question Shows format family line) (Err fault) → ends_all fault ≡ true
      → IsRecordEnd Shows fault
  line_ends X (File (file_fault.Io bytes)) is ends = λ stream shows. lacks_io question refl stream bytes is.0 (is.2.1 stream shows)
  line_ends X fault is ends = grind arith

  pub record_end : {X : Type 0} (answer : Result (String X) ProgramFault) (fault : ProgramFault)
      → GivesLine (IsRecordAnswer question Shows format family line) answer
      → (fault ≡ Memory) ⊎ ((answer ≡ Err fault) × (ends_all fault ≡ true)) → IsRecordEnd Shows fault
  record_end answer fault is (inl none) = rw none tt
  record_end {X} answer fault is (inr ends) =
      line_ends X fault (subst (GivesLine (IsRecordAnswer question Shows format family line)) ends.0 is) ends.1

-- so the source's end is that of all
pub source_ends : (Gives Shows Later : Stream → Type 0) → ((stream : Stream) → Shows stream → Later stream) → (known : Option (List ℕ)) (fault : ProgramFault)
    → IsRecordEnd Later fault → EndsRecords Gives Shows known fault
source_ends Gives Shows Later later known (File (file_fault.Io bytes)) ends = inr (λ stream shows. ends stream (later stream shows))
source_ends Gives Shows Later later known fault ends = grind arith

-- and so is a line's
pub lines_end_records : (Gives Shows Later : Stream → Type 0) → ((stream : Stream) → Shows stream → Later stream)
    → (known : Option (List ℕ)) (fault : ProgramFault)
    → EndsLines (IsRecordEnd Later) known fault → EndsRecords Gives Shows known fault
lines_end_records Gives Shows Later later known fault (inl ends) = source_ends Gives Shows Later later known fault ends
lines_end_records Gives Shows Later later known fault (inr ends) = grind arith
