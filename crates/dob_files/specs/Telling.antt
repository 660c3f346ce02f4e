-- How the answers to the lines of standard input are told, one after the other.
use Rattle.std.specs.Prelude.{◌≡◌, ◌⊎◌, ◌||◌, ℕ, Bool, true, false, if◌then◌else◌, List, [], ◌∷◌, ◌++◌, None, Option, Some, Result, Ok, Err, flat_map}
use Rattle.std.specs.Prelude.{string_bytes}
use Rattle.std.specs.List.{concat, list_any}
use Rattle.std.specs.Str.Lines.{lines as lines_of}
use Rattle.dob_device.specs.Sinks.{Change, IsUntouched, Puts, SinkState, Stops, change}
use Rattle.dob_files.specs.declared.talk.LineAnswers.{LineAnswers}
use Rattle.dob_files.specs.declared.fault.ProgramFault.{ProgramFault}
use Rattle.dob_files.specs.declared.fault.ProgramFault.TheVariants.{Memory, Io}
use Rattle.dob_files.specs.Endings.{Ending, TellsOneFault}
use Rattle.dob_files.specs.Faults.{is_io}
use Rattle.dob_shelf.specs.Shelves.{FailsWhere, ShelfChange, TakesLine}

-- ---- what is told

-- these are what the lines come to, one for each, in their order; by Is an answer is a line's
abbrev pub AreAnswers : {A : Type 0} → (List ℕ → A → Type 0) → List (List ℕ) → List A → Type 0
AreAnswers Is [] [] = Unit {0}
AreAnswers Is (line ∷ more) (answer ∷ answers) = Is line answer × AreAnswers Is more answers
AreAnswers Is _ _ = ⊥

-- The text gives what the lines come to, each as it is told, and whether one was refused.
pub record TellsLinesOf (A : Type 0) (tell : A → List ℕ) (refuses : A → Bool) (Is : List ℕ → A → Type 0) (lines : List (List ℕ)) (is_refused : Bool)
    (text : List ℕ) : Type 0 where
  pub answers : List A
  pub each : AreAnswers Is lines answers
  pub same : text ≡ flat_map tell answers
  pub refused : is_refused ≡ list_any refuses answers

-- ---- how it is told

-- the pieces came in one after the other, each flushed once behind it, and no call failed
abbrev pub PutsAll : SinkState → SinkState → List (List ℕ) → Type 0
PutsAll before after [] = after ≡ before
PutsAll before after (piece ∷ more) = (next : SinkState) × Puts (change before next) piece × PutsAll next after more

-- the text came in in such pieces
abbrev pub PutsText : Change → List ℕ → Type 0
PutsText c text = (pieces : List (List ℕ)) × PutsAll c.before c.after pieces × (text ≡ concat pieces)

-- a front of the text came in so, then a beginning of the rest, and a call failed
abbrev pub StopsText : Change → List ℕ → Type 0
StopsText c text =
    (front rest : List ℕ) × (last : SinkState) × PutsText (change c.before last) front × Stops (change last c.after) rest × (text ≡ front ++ rest)

-- ---- of which lines: those of bytes are std's `lines`, which end at line feeds; a carriage return before one is dropped, and an empty rest
-- after the last is no line

-- these are all lines of standard input, where its bytes are known
abbrev pub AreAllLines : Option (List ℕ) → List (List ℕ) → Type 0
AreAllLines input lines = (known : List ℕ) → input ≡ Some known → lines ≡ lines_of known

-- these are the first of them
abbrev pub AreFirstLines : Option (List ℕ) → List (List ℕ) → Type 0
AreFirstLines input lines = (known : List ℕ) → input ≡ Some known → (more : List (List ℕ)) × (lines_of known ≡ lines ++ more)

-- one line was taken of these bytes, where they are known, and those are left
abbrev pub TakesOne : Option (List ℕ) → Option (List ℕ) → Type 0
TakesOne input left = (known : List ℕ) → input ≡ Some known → (line : List ℕ) × TakesLine known true line left

-- These are the lines before the one that came to the fault: all that were taken but that one, where those bytes are left. Lack of memory may come before that.
abbrev pub AreLinesBefore : Option (List ℕ) → Option (List ℕ) → ProgramFault → List (List ℕ) → Type 0
AreLinesBefore input left fault lines = (known : List ℕ) → input ≡ Some known → (more : List ℕ)
    × (lines_of known ≡ lines ++ lines_of more) × ((fault ≡ Memory) ⊎ TakesOne (Some more) left)

-- what such lines come to is the text that was told so
pub record TellsSome (Which : List (List ℕ) → Type 0) (AreLines : List (List ℕ) → Bool → List ℕ → Type 0) (is_refused : Bool)
    (IsToldSo : List ℕ → Type 0) : Type 0 where
  pub lines : List (List ℕ)
  pub which : Which lines
  pub text : List ℕ
  pub right : AreLines lines is_refused text
  pub told : IsToldSo text

-- What the lines of standard input come to was told, all of it, and the answer is whether one was refused. Or there is a fault: one that holds, before any line
-- was taken, or behind what all lines before it come to, or standard output failed in that. After it those bytes are left. What else holds where nothing but
-- standard output failed is Works.
abbrev pub TellsEach : Option (List ℕ) → Option (List ℕ) → (List (List ℕ) → Bool → List ℕ → Type 0) → (ProgramFault → Type 0) → Type 0 → Change
    → Result Bool ProgramFault → Type 0
TellsEach input left AreLines Holds Works out (Ok is_refused) = TellsSome (AreAllLines input) AreLines is_refused (PutsText out) × Works
TellsEach input left AreLines Holds Works out (Err fault) =
    (Holds fault × ((IsUntouched out × (left ≡ input)) ⊎ ((is_refused : Bool)
    × TellsSome (AreLinesBefore input left fault) AreLines is_refused (λ text. PutsText out text ⊎ StopsText out text))))
    ⊎ ((fault ≡ Io) × ((is_refused : Bool) × TellsSome (AreFirstLines input) AreLines is_refused (StopsText out)) × Works)

-- the same over a shelf: no call of it failed, or one did just where the fault is a device's
abbrev pub TellsOver : ShelfChange → (List (List ℕ) → Bool → List ℕ → Type 0) → (ProgramFault → Type 0) → Change → Result Bool ProgramFault → Type 0
TellsOver c AreLines Holds = TellsEach c.before.input c.after.input AreLines (λ fault. Holds fault × FailsWhere c (is_io fault)) (FailsWhere c false)

-- ---- what the program does

-- 1 where a line was refused, and 0 where all were answered
abbrev pub status_of_lines : Bool → ℕ
status_of_lines is_refused = if is_refused then 1 else 0

-- it tells all of that and nothing else, with the status that goes with it; or its fault, behind what it told
abbrev pub AnswersLines : ShelfChange → (List (List ℕ) → Bool → List ℕ → Type 0) → (ProgramFault → Type 0) → Ending → Type 0
AnswersLines c AreLines Holds e =
    ((is_refused : Bool) × TellsOver c AreLines Holds e.out (Ok is_refused) × (e.status ≡ status_of_lines is_refused) × IsUntouched e.err)
    ⊎ ((fault : ProgramFault) × TellsOver c AreLines Holds e.out (Err fault) × TellsOneFault fault e.status e.err)

-- ---- what is held

-- so many bytes of answers are held at most while a line is heard
abbrev pub most_held : ℕ
most_held = 65536

-- ---- one line

-- what is told of a line: its lines, and whether it is refused
pub record Told : Type 0 where
  pub text : List ℕ
  pub is_refused : Bool

abbrev pub told_text : Told → List ℕ
told_text told = told.text

abbrev pub told_refused : Told → Bool
told_refused told = told.is_refused

abbrev pub told_of : LineAnswers → Told
told_of answers = record { text = string_bytes answers.lines; is_refused = answers.is_refused }

-- it is an answer of the line, as that is told
abbrev pub TellsOne : {A : Type 0} → (A → List ℕ) → (A → Bool) → (List ℕ → A → Type 0) → List ℕ → Told → Type 0
TellsOne {A} tell refuses Is line told = (answer : A) × Is line answer × (told.text ≡ tell answer) × (told.is_refused ≡ refuses answer)

-- the text gives what the lines come to, by what is told of each
abbrev pub TellsOf : (List ℕ → Told → Type 0) → List (List ℕ) → Bool → List ℕ → Type 0
TellsOf = TellsLinesOf Told told_text told_refused

-- a line more was heard, and what it comes to is held behind what was held; or there is no line more
abbrev pub HearsLine : (List ℕ → Told → Type 0) → Option (List ℕ) → Option (List ℕ) → Told → Told → Bool → Type 0
HearsLine Is input left old new true =
    (line : List ℕ) × (told : Told) × ((known : List ℕ) → input ≡ Some known → TakesLine known true line left) × Is line told
    × (new.text ≡ old.text ++ told.text) × (new.is_refused ≡ (old.is_refused || told.is_refused))
HearsLine Is input left old new false = ((known : List ℕ) → input ≡ Some known → known ≡ []) × (new ≡ old)

-- a fault that ends all: by Ends one that a line came to, or memory failed, or standard input did, of which nothing was known
abbrev pub EndsLines : (ProgramFault → Type 0) → Option (List ℕ) → ProgramFault → Type 0
EndsLines Ends input fault = Ends fault ⊎ ((fault ≡ Memory) ⊎ ((fault ≡ Io) × (input ≡ None)))
