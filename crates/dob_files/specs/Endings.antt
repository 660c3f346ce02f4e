-- How the program ends: an exit status, and what it writes on standard output and standard error.
use Rattle.std.specs.Prelude.{◌≡◌, ℕ, ◌⊎◌, false, List, [], ◌∷◌, ◌++◌, codes, Result, Ok, Err, String, string_bytes}
use Rattle.dob_device.specs.Sinks.{Change, IsUntouched, Puts, Says, Stops}
use Rattle.dob_files.specs.declared.fault.ProgramFault.{ProgramFault}
use Rattle.dob_files.specs.declared.fault.ProgramFault.TheVariants.{Memory, Io}
use Rattle.dob_files.specs.Faults.{fault_line, is_io, status_of}
use Rattle.dob_shelf.specs.Shelves.{FailsWhere, ShelfChange}
use Rattle.dob_pieces.specs.Bytes.{line_feed}

-- an exit status, and what happened to standard output and standard error
pub record Ending : Type 0 where
  pub status : ℕ
  pub out : Change
  pub err : Change

abbrev pub ended : ℕ → Change → Change → Ending
ended status out err = record { status = status; out = out; err = err }

-- the fault's status, and its line on standard error
abbrev pub TellsFaultAs : ProgramFault → ℕ → Change → Type 0
TellsFaultAs fault status err = (status ≡ status_of fault) × Says err (fault_line fault)

-- the fault, or that no memory was left for telling it
abbrev pub TellsOneFault : ProgramFault → ℕ → Change → Type 0
TellsOneFault fault status err = TellsFaultAs fault status err ⊎ TellsFaultAs Memory status err

-- it printed such lines: status 0, the lines on standard output and nothing else
pub record TellsLines (AreLines : List ℕ → Type 0) (e : Ending) : Type 0 where
  pub lines : List ℕ
  pub right : AreLines lines
  pub done : e.status ≡ 0
  pub told : Puts e.out lines
  pub silent : IsUntouched e.err

-- it printed a fault that holds, or that no memory was left for it, and nothing on standard output
pub record TellsFault (Holds : ProgramFault → Type 0) (e : Ending) : Type 0 where
  pub fault : ProgramFault
  pub holds : Holds fault
  pub told : TellsOneFault fault e.status e.err
  pub silent : IsUntouched e.out

-- standard output failed in such lines, after a beginning of them; it printed that fault
pub record FailsToTell (AreLines : List ℕ → Type 0) (e : Ending) : Type 0 where
  pub lines : List ℕ
  pub right : AreLines lines
  pub part : Stops e.out lines
  pub told : TellsOneFault Io e.status e.err

-- what the program does where it owes such lines, or the line of a fault that holds
abbrev pub Answers : (List ℕ → Type 0) → (ProgramFault → Type 0) → Ending → Type 0
Answers AreLines Holds e = TellsLines AreLines e ⊎ (TellsFault Holds e ⊎ FailsToTell AreLines e)

-- It answers so over a shelf: where it owes lines no call of the shelf failed, and where a fault, one did just where it is a device's.
abbrev pub AnswersOver : ShelfChange → (List ℕ → Type 0) → (ProgramFault → Type 0) → Ending → Type 0
AnswersOver c AreLines Holds = Answers (λ lines. AreLines lines × FailsWhere c false) (λ fault. Holds fault × FailsWhere c (is_io fault))

-- A call over a shelf that changes so gave what is right, and no call of the shelf failed; or it gave a fault that holds, and one failed just
-- where it is a device's.
abbrev pub GivesOver : {X : Type 0} → ShelfChange → (X → Type 0) → (ProgramFault → Type 0) → Result X ProgramFault → Type 0
GivesOver c Is Holds (Ok x) = Is x × FailsWhere c false
GivesOver c Is Holds (Err fault) = Holds fault × FailsWhere c (is_io fault)

-- the same of a text that has such lines
abbrev pub GivesLines : {X : Type 0} → ShelfChange → (List ℕ → Type 0) → (ProgramFault → Type 0) → Result (String X) ProgramFault → Type 0
GivesLines c AreLines Holds result = GivesOver c (λ text. AreLines (string_bytes text)) Holds result

-- the text on standard output and that status; or a beginning of it, and the fault of a failing output
abbrev pub TellsAs : ℕ → List ℕ → Ending → Type 0
TellsAs status text e =
    ((e.status ≡ status) × Puts e.out text × IsUntouched e.err) ⊎ (Stops e.out text × TellsOneFault Io e.status e.err)

-- the same with status 0
abbrev pub Tells : List ℕ → Ending → Type 0
Tells = TellsAs 0

-- that no memory was left, and nothing else
abbrev pub TellsMemory : Ending → Type 0
TellsMemory e = TellsFaultAs Memory e.status e.err × IsUntouched e.out

-- what it does where help is asked for: a text on standard output, which tests compare
abbrev pub AnswersHelp : Ending → Type 0
AnswersHelp e = ((text : List ℕ) × Tells text e) ⊎ TellsMemory e

-- the line of the version
abbrev pub version_line : List ℕ
version_line = codes "dobutsu 0.1.0" ++ line_feed ∷ []

-- what it does where its version is asked for
abbrev pub AnswersVersion : Ending → Type 0
AnswersVersion e = Tells version_line e ⊎ TellsMemory e

-- what it does with words that it doesn't know: status 2 and a text on standard error
abbrev pub AnswersUsage : Ending → Type 0
AnswersUsage e = ((text : List ℕ) × (e.status ≡ 2) × Says e.err text × IsUntouched e.out) ⊎ TellsMemory e
