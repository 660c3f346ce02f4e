-- What the program owes where it is asked about a position by a database file: by its whole table, or by its header and the records that are needed.
use Rattle.std.specs.Prelude.{◌≡◌, ◌⊎◌, ◌||◌, ℕ, Bool, false, true, IfErr, IfOk, List, Result, String, string_bytes}
use Rattle.dob_pieces.specs.declared.profile.Family.{Family}
use Rattle.dob_pieces.specs.declared.profile.Profile.{Profile}
use Rattle.dob_pieces.specs.declared.profile.Profile.TheVariants.{A}
use Rattle.dob_pieces.specs.declared.setup.Setup.{Setup}
use Rattle.dob_pieces.specs.Profiles.{IsAllowed}
use Rattle.dob_text.specs.Faults as text
use Rattle.dob_moves.specs.declared.game_move.Move.{Move as GameMove}
use Rattle.dob_rank.specs.Families.{IsPositionOf}
use Rattle.dob_distance.specs.declared.value.Value.{Value}
use Rattle.dob_distance.specs.Values.{HasValue}
use Rattle.dob_dbfile.specs.declared.fault.Fault as file
use Rattle.dob_dbfile.specs.declared.fault.Fault.TheVariants as file_fault
use Rattle.dob_dbfile.specs.declared.header.Format.{Format}
use Rattle.dob_device.specs.Devices.{Stream, whole}
use Rattle.dob_dbfile.specs.Faults.{CountsClasses, fails}
use Rattle.dob_dbfile.specs.Looking.{HasFrontFault}
use Rattle.dob_value.specs.Follows.{ClassTable}
use Rattle.dob_probe.specs.declared.by_value.ValuedMove.{ValuedMove}
use Rattle.dob_probe.specs.declared.fault.Fault as probing
use Rattle.dob_probe.specs.declared.fault.Fault.TheVariants as table_fault
use Rattle.dob_probe.specs.declared.gap.LookupFault.{LookupFault}
use Rattle.dob_probe.specs.declared.gap.LookupFault.TheVariants as gap
use Rattle.dob_probe.specs.Faults.{IsRefusal}
use Rattle.dob_probe.specs.Lines.{GivenBy, IsLine}
use Rattle.dob_probe.specs.Said.{IsGapOfLine, IsGapOfMoves, fails as says_failed, is_failing}
use Rattle.dob_probe.specs.ValuedMoves.{AreValuedMoves}
use Rattle.dob_query.specs.Records.{IsRecorded, LacksRecord}
use Rattle.dob_files.specs.declared.fault.ProgramFault.{ProgramFault}
use Rattle.dob_files.specs.declared.fault.ProgramFault.TheVariants.{Text, File, Table, Memory, Io}
use Rattle.dob_words.specs.declared.command.orders.Asked.{Asked}
use Rattle.dob_words.specs.declared.command.orders.By.{By}
use Rattle.dob_words.specs.declared.command.orders.By.TheVariants as way
use Rattle.dob_words.specs.declared.command.orders.LineForm.{LineForm}
use Rattle.dob_words.specs.declared.command.orders.LineForm.TheVariants as line_form
use Rattle.dob_words.specs.declared.command.orders.MovesForm.{MovesForm}
use Rattle.dob_words.specs.declared.command.orders.MovesForm.TheVariants as moves_form
use Rattle.dob_words.specs.declared.command.orders.Question.{Question}
use Rattle.dob_words.specs.declared.command.orders.Question.TheVariants as ask
use Rattle.dob_words.specs.declared.command.orders.ValueForm.{ValueForm}
use Rattle.dob_words.specs.declared.command.orders.ValueForm.TheVariants as value_form
use Rattle.dob_files.specs.Endings.{AnswersOver, Ending}
use Rattle.dob_files.specs.Faults.{is_io}
use Rattle.dob_files.specs.Owed.{ByValueFile, Owed, file_owed}
use Rattle.dob_lines.specs.Objects.{line_object, moves_object, value_object}
use Rattle.dob_lines.specs.Values.{value_line}
use Rattle.dob_lines.specs.Played.{moves_lines, played_drawing}
use Rattle.dob_files.specs.Tables.{IsFileOf, IsOpeningFault, IsShut, IsTextOf}
use Rattle.dob_lines.specs.ValuedMoves.{best_move_line, move_lines}
use Rattle.dob_shelf.specs.Shelves.{ShelfChange}

-- the question that `value` answers, and `probe` by a table
abbrev pub plain_value : Question
plain_value = ask.Value value_form.Plain

abbrev pub probed : Asked
probed = record { question = plain_value; by = way.Table }

-- ---- the answer, where Has says which value a position has

-- the line tells the position's value
abbrev pub TellsValue : (Value → List ℕ) → (Setup → Value → Type 0) → Setup → List ℕ → Type 0
TellsValue tell Has p lines = (value : Value) × Has p value × (lines ≡ tell value)

-- the lines tell the moves of the position with their values
abbrev pub TellsMoves : (List ValuedMove → List ℕ) → Profile → (Setup → Value → Type 0) → Setup → List ℕ → Type 0
TellsMoves tell profile Has p lines = (legal : List ValuedMove) × AreValuedMoves profile Has p legal × (lines ≡ tell legal)

-- the lines tell the position's value and its line
abbrev pub TellsPlay : (Value → List GameMove → List ℕ) → Profile → (Setup → Value → Type 0) → Setup → List ℕ → Type 0
TellsPlay tell profile Has p lines =
    (value : Value) × (moves : List GameMove) × Has p value × IsLine profile Has p moves × (lines ≡ tell value moves)

-- the lines that tell that value of the position
abbrev pub value_told : ValueForm → Setup → Value → List ℕ
value_told value_form.Plain p = value_line
value_told value_form.Object p = value_object p

-- the lines that tell such moves of it
abbrev pub moves_told : MovesForm → Setup → List ValuedMove → List ℕ
moves_told moves_form.Plain p = move_lines
moves_told moves_form.Best p = best_move_line
moves_told moves_form.Object p = moves_object p

-- the lines that tell such moves, the line of a position of that value
abbrev pub line_told : LineForm → Setup → Value → List GameMove → List ℕ
line_told line_form.Plain p = moves_lines false
line_told line_form.Numbered p = moves_lines true
line_told line_form.Object p = line_object p
line_told line_form.Drawn p = played_drawing p

-- the lines answer the question of the position
abbrev pub IsToldBy : Question → Profile → (Setup → Value → Type 0) → Setup → List ℕ → Type 0
IsToldBy (ask.Value form) profile Has p = TellsValue (value_told form p) Has p
IsToldBy (ask.Moves form) profile Has p = TellsMoves (moves_told form p) profile Has p
IsToldBy (ask.Line form) profile Has p = TellsPlay (line_told form p) profile Has p

-- why no value is told: it isn't said, by Lacks for that reason; or memory failed
abbrev pub IsGapOfValue : {F : Type 0} → (Setup → F → Type 0) → Setup → LookupFault F → Type 0
IsGapOfValue Lacks p (gap.NoValue fault) = Lacks p fault
IsGapOfValue Lacks p (gap.Inconsistent class) = ⊥
IsGapOfValue Lacks p gap.Memory = Unit {0}

-- why the question isn't answered: a value that it needs isn't said, or the line breaks off at that class; or memory failed
abbrev pub IsGapFor : {F : Type 0} → Question → Family → (Setup → Value → Type 0) → (Setup → F → Type 0) → Setup → LookupFault F → Type 0
IsGapFor (ask.Value form) family Has Lacks p why = IsGapOfValue Lacks p why
IsGapFor (ask.Moves form) family Has Lacks p why = IsGapOfMoves family.profile Lacks p why
IsGapFor (ask.Line form) family Has Lacks p why = IsGapOfLine family Has Lacks p why

-- What a call gives that answers by what says values: the lines, or why there are none. What the source holds it still holds, and it has failed just where it
-- had or the call's fault is a device's.
pub record GivesSaid {X H F : Type 0} (question : Question) (family : Family) (p : Setup) (Holds Still : H → Type 0) (says : H → Setup → Value → Type 0)
    (lacks : H → Setup → F → Type 0) (had_failed has_failed : Bool) (is_failure : F → Bool) (result : Result (String X) (LookupFault F)) : Type 0 where
  pub ok : (held : H) → Holds held → IfOk result (λ lines. IsToldBy question family.profile (says held) p (string_bytes lines))
  pub fault : (held : H) → Holds held → IfErr result (IsGapFor question family (says held) (lacks held) p)
  pub still : (held : H) → Holds held → Still held
  pub failed : has_failed ≡ (had_failed || says_failed (is_failing is_failure) result)

-- ---- by a table

-- the position is of the table's family, and the lines answer the question by it
pub record IsTableAnswer (question : Question) (table : ClassTable) (position : Setup) (lines : List ℕ) : Type 0 where
  pub member : IsPositionOf table.family position
  pub told : IsToldBy question table.family.profile (GivenBy table) position lines

-- a fault of asking a table: it refuses the position, or the line breaks off by it; or memory failed
abbrev pub IsTableFault : Question → ClassTable → Setup → ProgramFault → Type 0
IsTableFault question table p (Table (table_fault.Inconsistent class)) =
    IsPositionOf table.family p × IsGapFor question table.family (GivenBy table) (λ (q : Setup) (fault : probing.Fault). ⊥) p (gap.Inconsistent class)
IsTableFault question table p (Table fault) = IsRefusal table.family p fault
IsTableFault question table p Memory = Unit {0}
IsTableFault question table p _ = ⊥

-- ---- by the records of a stream

-- the stream's header names the family and the format, and the position is of that family
pub record IsOfNamed (stream : Stream) (position : Setup) (format : Format) (family : Family) : Type 0 where
  pub named : CountsClasses format family stream.bytes
  pub member : IsPositionOf family position

-- the position is of the family that the stream's header names, and the lines answer the question by its records
pub record IsAnswerOf (question : Question) (stream : Stream) (position : Setup) (lines : List ℕ) : Type 0 where
  pub format : Format
  pub family : Family
  pub by : IsOfNamed stream position format family
  pub told : IsToldBy question family.profile (IsRecorded stream format family) position lines

-- why its records don't answer the question
abbrev pub IsRecordsGap : Question → Stream → Format → Family → Setup → LookupFault file.Fault → Type 0
IsRecordsGap question stream format family = IsGapFor question family (IsRecorded stream format family) (LacksRecord stream format family)

-- a fault of answering by the records of a source that shows these streams, in that format and family
abbrev pub IsRecordsFault : Question → (Stream → Type 0) → Format → Family → Setup → ProgramFault → Type 0
IsRecordsFault question Shows format family p (File fault) =
    (stream : Stream) → Shows stream → IsRecordsGap question stream format family p (gap.NoValue fault)
IsRecordsFault question Shows format family p (Table (table_fault.Inconsistent class)) =
    (stream : Stream) → Shows stream → IsRecordsGap question stream format family p (gap.Inconsistent class)
IsRecordsFault question Shows format family p Memory = Unit {0}
IsRecordsFault question Shows format family p _ = ⊥

-- What a call gives that answers by the records of a source, in that format and family: the lines. What the source showed it still shows, and it has failed
-- just where it had or the call's fault is a device's.
pub record GivesTold {X : Type 0} (question : Question) (Showed Shows : Stream → Type 0) (had_failed has_failed : Bool) (format : Format) (family : Family)
    (p : Setup) (result : Result (String X) ProgramFault) : Type 0 where
  pub ok : (stream : Stream) → Showed stream
      → IfOk result (λ lines. IsToldBy question family.profile (IsRecorded stream format family) p (string_bytes lines))
  pub shown : (stream : Stream) → Showed stream → Shows stream
  pub failed : has_failed ≡ (had_failed || fails is_io result)

-- the header names a family that refuses the position
abbrev pub IsRefusedBy : Stream → Setup → probing.Fault → Type 0
IsRefusedBy stream position fault =
    (format : Format) × (family : Family) × CountsClasses format family stream.bytes × IsRefusal family position fault

-- A fault of asking a source that may give these streams: the header's, or that its family refuses the position, or of answering by the records; or memory
-- failed.
abbrev pub IsFaultOfAsking : Question → (Stream → Type 0) → Setup → ProgramFault → Type 0
IsFaultOfAsking question Gives p (File fault) = (stream : Stream) → Gives stream → (fault ≡ file_fault.Memory) ⊎ (HasFrontFault stream fault
    ⊎ ((format : Format) × (family : Family) × IsOfNamed stream p format family × IsRecordsGap question stream format family p (gap.NoValue fault)))
IsFaultOfAsking question Gives p (Table (table_fault.Inconsistent class)) = (stream : Stream) → Gives stream
    → (format : Format) × (family : Family) × IsOfNamed stream p format family × IsRecordsGap question stream format family p (gap.Inconsistent class)
IsFaultOfAsking question Gives p (Table table_fault.Memory) = ⊥
IsFaultOfAsking question Gives p (Table fault) = (stream : Stream) → Gives stream → IsRefusedBy stream p fault
IsFaultOfAsking question Gives p Memory = Unit {0}
IsFaultOfAsking question Gives p _ = ⊥

-- ---- by the words; Has says which bytes the file has, where that is known

-- the file gives that stream
abbrev pub GivesWhole : (List ℕ → Type 0) → Stream → Type 0
GivesWhole Has stream = (bytes : List ℕ) × Has bytes × (stream ≡ whole bytes)

-- the lines answer the question of the position by the file's records
abbrev pub IsAnswerBy : Question → (List ℕ → Type 0) → Setup → List ℕ → Type 0
IsAnswerBy question Has position lines = (bytes : List ℕ) → Has bytes → IsAnswerOf question (whole bytes) position lines

-- a fault of asking them, or of opening the file
abbrev pub IsAskingFault : Question → (List ℕ → Type 0) → Setup → ProgramFault → Type 0
IsAskingFault question Has position Io = IsShut Has
IsAskingFault question Has position fault = IsFaultOfAsking question (GivesWhole Has) position fault

-- the lines answer it by the whole file or by its records
abbrev pub IsAnswerTo : By → Question → (List ℕ → Type 0) → Setup → List ℕ → Type 0
IsAnswerTo way.Table question Has position lines = (table : ClassTable) × IsFileOf Has table × IsTableAnswer question table position lines
IsAnswerTo way.Records question Has position lines = IsAnswerBy question Has position lines

-- a fault of asking it so
abbrev pub IsFaultTo : By → Question → (List ℕ → Type 0) → Setup → ProgramFault → Type 0
IsFaultTo way.Table question Has position (Table fault) = (table : ClassTable) × IsFileOf Has table × IsTableFault question table position (Table fault)
IsFaultTo way.Table question Has position fault = IsOpeningFault Has fault
IsFaultTo way.Records question Has position fault = IsAskingFault question Has position fault

-- the lines answer what the position is asked that a text names
pub record AreAnswerLines (asked : Asked) (Has : List ℕ → Type 0) (words lines : List ℕ) : Type 0 where
  pub position : Setup
  pub named : IsTextOf words position
  pub told : IsAnswerTo asked.by asked.question Has position lines

-- the lines answer it by the values that positions have by definition and the rules of the profile, which allow the position
pub record AreRightAnswerLines (question : Question) (profile : Profile) (words lines : List ℕ) : Type 0 where
  pub position : Setup
  pub named : IsTextOf words position
  pub allowed : IsAllowed profile position
  pub told : IsToldBy question profile (HasValue profile) position lines

-- A fault of asking that of the position of a text: the text's, or memory failed; the file is asked only where the text is a position's.
abbrev pub IsAskFault : Asked → (List ℕ → Type 0) → List ℕ → ProgramFault → Type 0
IsAskFault asked Has words (Text fault) = text.HasTextFault A words fault
IsAskFault asked Has words Memory = Unit {0}
IsAskFault asked Has words fault = (position : Setup) × IsTextOf words position × IsFaultTo asked.by asked.question Has position fault

-- ---- what the program owes

-- the program answers what is right by definition and the rules of the profile
abbrev pub AnswersQuestionRight : Asked → ShelfChange → Profile → List ℕ → List ℕ → Ending → Type 0
AnswersQuestionRight asked c profile file words =
    AnswersOver c (AreRightAnswerLines asked.question profile words) (IsAskFault asked (c.before.has file) words)

-- it does so by the file of a value table
abbrev pub question_owed : Asked → List ℕ → List ℕ → Owed
question_owed asked file words = record (file_owed file (λ Has. AreAnswerLines asked Has words) (λ Has. IsAskFault asked Has words)) {
  right = λ c e. ByValueFile c file (λ profile. AnswersQuestionRight asked c profile file words e);
}
