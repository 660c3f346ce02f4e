-- What lines come to by a table is what is owed for asking for each, and by a value table's file what is told of them is right.
use Rattle.dob_query.proofs.Common.{◌≡◌, AnswersEach, AnswersEachRight, AreEachLines, Asked, By, ClassTable, Ending, EndsLines, Err, ProgramFault, HasValueFile}
use Rattle.dob_query.proofs.Common.{◌⊎◌, Bool, inl, inr, subst, IsEachFault, IsOpeningFault, IsTableFault, IsTextOf, List, Memory, Ok, Profile, Question}
use Rattle.dob_query.proofs.Common.{Result, Setup, ShelfChange}
use Rattle.dob_query.proofs.Common.{AreRightAnswerLines, GivesWhole, IfErr, IfOk, IsTableAnswer, String, arith, false, is_err, refl, true, whole, ℕ}
use Rattle.std.specs.Prelude.{string_bytes}
use Rattle.dob_words.specs.declared.command.orders.By.TheVariants as way
use Rattle.dob_files.proofs.EachLine.{lines_weaker, tells_are}
use Rattle.dob_query.specs.QuestionsEach.{AnswersLine, AreRightEachLines, GivesLine, IsLineAnswer, IsPlaceFault, IsStreamAnswer, IsTableLine}
use Rattle.dob_query.specs.QuestionsEach.{bytes_of, end_of, ended_lines, ends_all, ends_all_in}
use Rattle.dob_files.specs.declared.fault.ProgramFault.TheVariants.{Text}
use Rattle.dob_query.proofs.Asking.{right_of}

-- ---- faults that end all

-- one of opening the file
pub opening_ends : (c : ShelfChange) (file : List ℕ) (fault : ProgramFault) → IsOpeningFault (c.before.has file) fault → IsEachFault way.Table c file fault
opening_ends c file fault holds = grind arith

-- one of the lines
pub lines_end : (c : ShelfChange) (file : List ℕ) (fault : ProgramFault) → EndsLines (λ f. f ≡ Memory) c.before.input fault → IsEachFault way.Table c file fault
lines_end c file fault ends = grind arith

-- ---- what a line came to

-- what the table gives of its position
pub line_in : {X : Type 0} (question : Question) (table : ClassTable) (line : List ℕ) (position : Setup) (result : Result (String X) ProgramFault)
    → IsTextOf line position
    → IfOk result (λ lines. IsTableAnswer question table position (string_bytes lines)) → IfErr result (IsTableFault question table position)
    → GivesLine (IsTableLine (AnswersLine (IsTableAnswer question table)) question table line) result
line_in question table line position result named told fault = grind arith

-- what ends all is that memory failed
pub table_ends : (X : Type 0) (question : Question) (table : ClassTable) (line : List ℕ) (fault : ProgramFault)
    → GivesLine {X = X} (IsTableLine (AnswersLine (IsTableAnswer question table)) question table line) (Err fault) → ends_all fault ≡ true → fault ≡ Memory
table_ends X question table line fault is ends = grind arith

pub table_end : {X : Type 0} (question : Question) (table : ClassTable) (line : List ℕ) (answer : Result (String X) ProgramFault) (fault : ProgramFault)
    → GivesLine (IsTableLine (AnswersLine (IsTableAnswer question table)) question table line) answer
    → (fault ≡ Memory) ⊎ ((answer ≡ Err fault) × (ends_all fault ≡ true))
    → fault ≡ Memory
table_end question table line answer fault is (inl none) = none
table_end {X} question table line answer fault is (inr ends) =
    table_ends X question table line fault (subst (GivesLine (IsTableLine (AnswersLine (IsTableAnswer question table)) question table line)) ends.0 is) ends.1

-- an answer that ends nothing is the line's
pub goes_on : {X : Type 0} (Is : Result (List ℕ) ProgramFault → Type 0) (answer : Result (String X) ProgramFault) → GivesLine Is answer
    → ends_all_in answer ≡ false
    → Is (bytes_of answer)
goes_on Is answer is on = grind arith

-- ---- by the file of a value table
right_line : (IsTold Right : List ℕ → List ℕ → Type 0) (Fails : Setup → ProgramFault → Type 0) → ((line lines : List ℕ) → IsTold line lines → Right line lines)
    → (line : List ℕ) (answer : Result (List ℕ) ProgramFault) → IsLineAnswer IsTold Fails line answer → IsLineAnswer Right Fails line answer
right_line IsTold Right Fails right line (Ok lines) is = right line lines is
right_line IsTold Right Fails right line (Err (Text fault)) is = is
right_line IsTold Right Fails right line (Err Memory) is = is
right_line IsTold Right Fails right line (Err fault) is = is

right_lines : (by : By) (question : Question) (Has : List ℕ → Type 0) (profile : Profile) → HasValueFile Has profile
    → (lines : List (List ℕ)) (is_refused : Bool)
    (text : List ℕ) → AreEachLines by question Has lines is_refused text → AreRightEachLines profile by question Has lines is_refused text
right_lines way.Table question Has profile file lines is_refused text told =
    let Is = AnswersLine (IsTableAnswer question told.table) in
    let Right = AreRightAnswerLines question profile in
    let Fails = IsTableFault question told.table in record {
      table = told.table;
      whole = told.whole;
      told = tells_are (Result (List ℕ) ProgramFault) (ended_lines (end_of question)) is_err (IsLineAnswer Is Fails) (IsLineAnswer Right Fails)
          (right_line Is Right Fails (λ line lines is. right_of way.Table question Has profile file line lines is.0 is.1 (told.table, told.whole, is.2)))
          lines is_refused text told.told;
    }
right_lines way.Records question Has profile file lines is_refused text told =
    let Is = AnswersLine (IsStreamAnswer question (GivesWhole Has)) in
    let Right = AreRightAnswerLines question profile in
    let Fails = IsPlaceFault question (GivesWhole Has) in
    tells_are (Result (List ℕ) ProgramFault) (ended_lines (end_of question)) is_err (IsLineAnswer Is Fails) (IsLineAnswer Right Fails)
    (right_line Is Right Fails (λ line lines is. right_of way.Records question Has profile file line lines is.0 is.1
    (λ (bytes : List ℕ) (has : Has bytes). is.2 (whole bytes) (bytes, has, refl))))
    lines is_refused text told

pub each_right : (c : ShelfChange) (profile : Profile) (asked : Asked) (name : List ℕ) (e : Ending) → HasValueFile (c.before.has name) profile
    → AnswersEach asked c name e → AnswersEachRight asked c profile name e
each_right c profile asked name e file =
    lines_weaker c (AreEachLines asked.by asked.question (c.before.has name)) (AreRightEachLines profile asked.by asked.question (c.before.has name))
    (IsEachFault asked.by c name) e (right_lines asked.by asked.question (c.before.has name) profile file)
