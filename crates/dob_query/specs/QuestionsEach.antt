-- What the program owes where it is asked about the position of each line of standard input.
use Rattle.std.specs.Prelude.{◌≡◌, ◌⊎◌, true, false, ℕ, Bool, List, [], ◌∷◌, ◌++◌, None, Option, Result, Ok, Err, String, codes, is_err, string_bytes}
use Rattle.dob_pieces.specs.declared.profile.Family.{Family}
use Rattle.dob_pieces.specs.declared.profile.Profile.{Profile}
use Rattle.dob_pieces.specs.declared.profile.Profile.TheVariants.{A}
use Rattle.dob_pieces.specs.declared.setup.Setup.{Setup}
use Rattle.dob_pieces.specs.Bytes.{line_feed}
use Rattle.dob_text.specs.Faults.{HasTextFault}
use Rattle.dob_rank.specs.Families.{IsPositionOf}
use Rattle.dob_dbfile.specs.declared.fault.Fault.TheVariants as file_fault
use Rattle.dob_device.specs.Devices.{Stream}
use Rattle.dob_dbfile.specs.declared.header.Format.{Format}
use Rattle.dob_dbfile.specs.Faults.{CountsClasses}
use Rattle.dob_dbfile.specs.Looking.{HasFrontFault}
use Rattle.dob_value.specs.Follows.{ClassTable}
use Rattle.dob_probe.specs.declared.fault.Fault.TheVariants as table_fault
use Rattle.dob_probe.specs.declared.gap.LookupFault.TheVariants as gap
use Rattle.dob_probe.specs.Faults.{IsRefusal}
use Rattle.dob_query.specs.Records.{IsRecorded}
use Rattle.dob_files.specs.declared.fault.ProgramFault.{ProgramFault}
use Rattle.dob_files.specs.declared.fault.ProgramFault.TheVariants.{Text, File, Table, Memory, Io}
use Rattle.dob_words.specs.declared.command.orders.Asked.{Asked}
use Rattle.dob_words.specs.declared.command.orders.By.{By}
use Rattle.dob_words.specs.declared.command.orders.By.TheVariants as way
use Rattle.dob_words.specs.declared.command.orders.LineForm.TheVariants as line_form
use Rattle.dob_words.specs.declared.command.orders.MovesForm.TheVariants as moves_form
use Rattle.dob_words.specs.declared.command.orders.Question.{Question}
use Rattle.dob_words.specs.declared.command.orders.Question.TheVariants as ask
use Rattle.dob_words.specs.declared.command.orders.ValueForm.TheVariants as value_form
use Rattle.dob_files.specs.Telling.{AnswersLines, TellsLinesOf, TellsOne, Told}
use Rattle.dob_files.specs.Endings.{Ending}
use Rattle.dob_files.specs.Faults.{fault_text, is_io}
use Rattle.dob_query.specs.Questions.{AreRightAnswerLines, GivesWhole, IsAnswerOf, IsFaultOfAsking, IsOfNamed, IsRecordsFault, IsRecordsGap, IsTableAnswer}
use Rattle.dob_query.specs.Questions.{IsTableFault, IsToldBy}
use Rattle.dob_files.specs.Tables.{HasFileFault, IsFileOf, IsShut, IsTextOf}
use Rattle.dob_shelf.specs.Shelves.{ShelfChange}

-- ---- what is printed

-- what stands behind an answer, and how a fault is told in its place
abbrev pub End : Type 0
End = List ℕ × (ProgramFault → List ℕ)

-- a fault as a JSON object, on a line
abbrev pub fault_object : ProgramFault → List ℕ
fault_object fault = codes "{\"fault\":\"" ++ (fault_text fault ++ (codes "\"}" ++ line_feed ∷ []))

-- such an end, and a fault without `dobutsu: ` before it
abbrev pub plain_end : List ℕ → End
plain_end end = (end, λ fault. fault_text fault ++ (line_feed ∷ end))

-- an empty line where an answer may have more lines than one; a fault is an object where answers are
abbrev pub end_of : Question → End
end_of (ask.Moves moves_form.Plain) = plain_end (line_feed ∷ [])
end_of (ask.Line line_form.Numbered) = plain_end (line_feed ∷ [])
end_of (ask.Line line_form.Object) = ([], fault_object)
end_of (ask.Value value_form.Object) = ([], fault_object)
end_of (ask.Moves moves_form.Object) = ([], fault_object)
end_of _ = plain_end []

-- what a call gave, as bytes
abbrev pub bytes_of : {X : Type 0} → Result (String X) ProgramFault → Result (List ℕ) ProgramFault
bytes_of (Ok text) = Ok (string_bytes text)
bytes_of (Err fault) = Err fault

-- the lines of an answer with that end, or of a fault
abbrev pub ended_lines : End → Result (List ℕ) ProgramFault → List ℕ
ended_lines end (Ok lines) = lines ++ end.0
ended_lines end (Err fault) = end.1 fault

-- the text gives what the lines come to, and whether one was refused
abbrev pub TellsAnswersOf : Question → (List ℕ → Result (List ℕ) ProgramFault → Type 0) → List (List ℕ) → Bool → List ℕ → Type 0
TellsAnswersOf question = TellsLinesOf (Result (List ℕ) ProgramFault) (ended_lines (end_of question)) is_err

-- what is told of a line; by Is an answer is the line's
abbrev pub IsToldOf : Question → (List ℕ → Result (List ℕ) ProgramFault → Type 0) → List ℕ → Told → Type 0
IsToldOf question Is = TellsOne (ended_lines (end_of question)) is_err Is

-- what a call gives that is asked for one line: its answer, or that memory failed
abbrev pub GivesLine : {X : Type 0} → (Result (List ℕ) ProgramFault → Type 0) → Result (String X) ProgramFault → Type 0
GivesLine Is (Err Memory) = Unit {0}
GivesLine Is result = Is (bytes_of result)

-- whether the fault ends all: that memory failed, or a device
abbrev pub ends_all : ProgramFault → Bool
ends_all Memory = true
ends_all fault = is_io fault

abbrev pub ends_all_in : {X : Type 0} → Result X ProgramFault → Bool
ends_all_in (Ok x) = false
ends_all_in (Err fault) = ends_all fault

-- the answer ends nothing, and so it is told
pub record IsKept {X : Type 0} (question : Question) (answer : Result (String X) ProgramFault) (told : Told) : Type 0 where
  pub goes_on : ends_all_in answer ≡ false
  pub text : told.text ≡ ended_lines (end_of question) (bytes_of answer)
  pub refused : told.is_refused ≡ is_err (bytes_of answer)

-- ---- a line

-- What a line comes to: an answer, which is the line's by IsTold; or its fault: its first as a text, or one of its position by Fails. What ends all is neither.
abbrev pub IsLineAnswer : (List ℕ → List ℕ → Type 0) → (Setup → ProgramFault → Type 0) → List ℕ → Result (List ℕ) ProgramFault → Type 0
IsLineAnswer IsTold Fails line (Ok lines) = IsTold line lines
IsLineAnswer IsTold Fails line (Err (Text fault)) = HasTextFault A line fault
IsLineAnswer IsTold Fails line (Err Memory) = ⊥
IsLineAnswer IsTold Fails line (Err fault) = (position : Setup) × IsTextOf line position × Fails position fault

-- the lines answer the line's position
abbrev pub AnswersLine : (Setup → List ℕ → Type 0) → List ℕ → List ℕ → Type 0
AnswersLine Is line lines = (position : Setup) × IsTextOf line position × Is position lines

-- ---- by a table

-- what a line comes to by the table; by IsTold an answer is a line's
abbrev pub IsTableLine : (List ℕ → List ℕ → Type 0) → Question → ClassTable → List ℕ → Result (List ℕ) ProgramFault → Type 0
IsTableLine IsTold question table = IsLineAnswer IsTold (IsTableFault question table)

-- the text gives what the lines come to by the table of the file
pub record AreTableLines (IsTold : ClassTable → List ℕ → List ℕ → Type 0) (question : Question) (Has : List ℕ → Type 0) (lines : List (List ℕ))
    (is_refused : Bool) (text : List ℕ) : Type 0 where
  pub table : ClassTable
  pub whole : IsFileOf Has table
  pub told : TellsAnswersOf question (IsTableLine (IsTold table) question table) lines is_refused text

-- ---- by a file that may give these streams

-- the lines answer the question of the position
abbrev pub IsStreamAnswer : Question → (Stream → Type 0) → Setup → List ℕ → Type 0
IsStreamAnswer question Gives position lines = (stream : Stream) → Gives stream → IsAnswerOf question stream position lines

-- why the family of the header refuses the position, or that a record which the question needs isn't whole, or that the line breaks off
abbrev pub IsPlaceFault : Question → (Stream → Type 0) → Setup → ProgramFault → Type 0
IsPlaceFault question Gives position (File fault) = (stream : Stream) → Gives stream
    → (format : Format) × (family : Family) × IsOfNamed stream position format family × IsRecordsGap question stream format family position (gap.NoValue fault)
IsPlaceFault question Gives position fault = IsFaultOfAsking question Gives position fault

-- what a line comes to by it; by IsTold an answer is a line's
abbrev pub IsPlaceAnswer : (List ℕ → List ℕ → Type 0) → Question → (Stream → Type 0) → List ℕ → Result (List ℕ) ProgramFault → Type 0
IsPlaceAnswer IsTold question Gives = IsLineAnswer IsTold (IsPlaceFault question Gives)

-- ---- by a source whose header was read

-- by the records of a source that shows these streams the lines answer the question of the position
abbrev pub IsRecordsAnswer : Question → (Stream → Type 0) → Format → Family → Setup → List ℕ → Type 0
IsRecordsAnswer question Shows format family position lines = IsPositionOf family position
    × ((stream : Stream) → Shows stream → IsToldBy question family.profile (IsRecorded stream format family) position lines)

-- why the family refuses the position, or what its records leave open
abbrev pub IsRecordFault : Question → (Stream → Type 0) → Format → Family → Setup → ProgramFault → Type 0
IsRecordFault question Shows format family position (Table (table_fault.Inconsistent class)) =
    IsPositionOf family position × IsRecordsFault question Shows format family position (Table (table_fault.Inconsistent class))
IsRecordFault question Shows format family position (Table fault) = IsRefusal family position fault
IsRecordFault question Shows format family position (File fault) =
    IsPositionOf family position × IsRecordsFault question Shows format family position (File fault)
IsRecordFault question Shows format family position _ = ⊥

-- what a line comes to by them
abbrev pub IsRecordAnswer : Question → (Stream → Type 0) → Format → Family → List ℕ → Result (List ℕ) ProgramFault → Type 0
IsRecordAnswer question Shows format family =
    IsLineAnswer (AnswersLine (IsRecordsAnswer question Shows format family)) (IsRecordFault question Shows format family)

-- memory failed, or the source did
abbrev pub IsRecordEnd : (Stream → Type 0) → ProgramFault → Type 0
IsRecordEnd Shows Memory = Unit {0}
IsRecordEnd Shows (File (file_fault.Io bytes)) = (stream : Stream) → Shows stream → stream.fails ≡ true
IsRecordEnd Shows _ = ⊥

-- By a source that may give and show these streams the text gives what the lines come to, by the family that the header names.
pub record TellsRecords (question : Question) (Gives Shows : Stream → Type 0) (lines : List (List ℕ)) (is_refused : Bool) (text : List ℕ) : Type 0 where
  pub format : Format
  pub family : Family
  pub named : (stream : Stream) → Gives stream → CountsClasses format family stream.bytes
  pub told : TellsAnswersOf question (IsRecordAnswer question Shows format family) lines is_refused text

-- what ends all of that
abbrev pub EndsRecords : (Stream → Type 0) → (Stream → Type 0) → Option (List ℕ) → ProgramFault → Type 0
EndsRecords Gives Shows known (File fault) = ((stream : Stream) → Gives stream → (fault ≡ file_fault.Memory) ⊎ HasFrontFault stream fault)
    ⊎ ((stream : Stream) → Shows stream → stream.fails ≡ true)
EndsRecords Gives Shows known Memory = Unit {0}
EndsRecords Gives Shows known Io = known ≡ None
EndsRecords Gives Shows known _ = ⊥

-- ---- what the program does

-- the text answers the question of the lines' positions, by the whole file or by its records
abbrev pub AreEachLines : By → Question → (List ℕ → Type 0) → List (List ℕ) → Bool → List ℕ → Type 0
AreEachLines way.Table question Has = AreTableLines (λ table. AnswersLine (IsTableAnswer question table)) question Has
AreEachLines way.Records question Has =
    TellsAnswersOf question (IsPlaceAnswer (AnswersLine (IsStreamAnswer question (GivesWhole Has))) question (GivesWhole Has))

-- so that each answer says what is right by definition and the rules of the profile
abbrev pub AreRightEachLines : Profile → By → Question → (List ℕ → Type 0) → List (List ℕ) → Bool → List ℕ → Type 0
AreRightEachLines profile way.Table question Has = AreTableLines (λ table. AreRightAnswerLines question profile) question Has
AreRightEachLines profile way.Records question Has =
    TellsAnswersOf question (IsPlaceAnswer (AreRightAnswerLines question profile) question (GivesWhole Has))

-- A fault that ends all: one of the whole file, or of its header; or memory failed, or the file couldn't be opened. Or standard input failed, of which nothing
-- was known.
abbrev pub IsEachFault : By → ShelfChange → List ℕ → ProgramFault → Type 0
IsEachFault way.Table c file (File fault) = HasFileFault (c.before.has file) fault
IsEachFault way.Records c file (File fault) =
    (stream : Stream) → GivesWhole (c.before.has file) stream → (fault ≡ file_fault.Memory) ⊎ HasFrontFault stream fault
IsEachFault by c file Memory = Unit {0}
IsEachFault by c file Io = IsShut (c.before.has file) ⊎ (c.before.input ≡ None)
IsEachFault by c file _ = ⊥

abbrev pub AnswersEach : Asked → ShelfChange → List ℕ → Ending → Type 0
AnswersEach asked c file = AnswersLines c (AreEachLines asked.by asked.question (c.before.has file)) (IsEachFault asked.by c file)

abbrev pub AnswersEachRight : Asked → ShelfChange → Profile → List ℕ → Ending → Type 0
AnswersEachRight asked c profile file = AnswersLines c (AreRightEachLines profile asked.by asked.question (c.before.has file)) (IsEachFault asked.by c file)
