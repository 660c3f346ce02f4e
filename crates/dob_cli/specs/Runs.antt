-- What the program does with its words, whatever they are.
use Rattle.std.specs.Prelude.{◌≡◌, ◌≢◌, ◌≤◌, ◌⊎◌, ℕ, Bool, IsTrue, false, true, List, [], ◌∷◌, ◌++◌, Option, codes}
use Rattle.std.specs.List.{All}
use Rattle.dob_device.specs.Sinks.{Change, IsSame, IsUntouched, Says, change}
use Rattle.dob_words.specs.Words.{Text, meaning_of}
use Rattle.dob_words.specs.declared.command.Order.{Order}
use Rattle.dob_words.specs.declared.command.Reading.{Reading}
use Rattle.dob_words.specs.declared.command.Reading.TheVariants as reading
use Rattle.dob_words.specs.Readings.{IsReadingOf}
use Rattle.dob_pieces.specs.Bytes.{line_feed}
use Rattle.dob_files.specs.Endings.{AnswersHelp, AnswersUsage, AnswersVersion, Ending, TellsMemory, ended}
use Rattle.dob_files.specs.Faults.{fault_line}
use Rattle.dob_files.specs.declared.fault.ProgramFault.TheVariants.{Io}
use Rattle.dob_shelf.specs.Shelves.{FailsWhere, SameFiles, ShelfChange}
use Rattle.dob_cli.specs.Orders.{AnswersOrder, AnswersRight, KeepsFiles, MakesWhatItReads, makes_file}

-- it does what is ordered: by the file of a value table rightly, and with no change of other files than the order names to be made
pub record DoesOrder (c : ShelfChange) (order : Order) (e : Ending) : Type 0 where
  pub answers : AnswersOrder c order e
  pub right : AnswersRight c order e
  pub files : KeepsFiles order c.before.has c.after.has

-- nothing was done with the shelf: each file has what it had, no call of it failed, and standard input wasn't read
abbrev pub LeavesShelf : ShelfChange → Type 0
LeavesShelf c = SameFiles c.before.has c.after.has × FailsWhere c false × (c.after.input ≡ c.before.input)

-- What is to be made is one of the program's streams or, by another name maybe, the file that is read: it is refused as words are that make no sense, and
-- nothing is done. Where the files' bytes are known, one file has one name.
abbrev pub RefusesOutput : ShelfChange → Order → Ending → Type 0
RefusesOutput c order e = IsTrue (makes_file order) × (IsTrue c.before.tells → MakesWhatItReads order) × AnswersUsage e × LeavesShelf c

-- what is ordered is answered, and other files are as they were; or its file is none of its own, and nothing is done. What would be lost is never made
abbrev pub DoesPlaced : ShelfChange → Order → Ending → Type 0
DoesPlaced c order e = (AnswersOrder c order e × KeepsFiles order c.before.has c.after.has × ¬ MakesWhatItReads order) ⊎ RefusesOutput c order e

-- it does what was read of the words; what would be lost by an order is never made
abbrev pub Does : ShelfChange → Reading → Ending → Type 0
Does c (reading.Order order) e = (DoesOrder c order e × ¬ MakesWhatItReads order) ⊎ RefusesOutput c order e
Does c (reading.Help _) e = AnswersHelp e × LeavesShelf c
Does c reading.Version e = AnswersVersion e × LeavesShelf c
Does c (reading.Usage _) e = AnswersUsage e × LeavesShelf c

-- it reads the words as what they ask for, and does that
pub record DoesAsked (c : ShelfChange) (words : List Text) (e : Ending) : Type 0 where
  pub read : Reading
  pub meant : IsReadingOf (meaning_of words) read
  pub done : Does c read e

-- no memory was left for the words: it says so, and does nothing else
abbrev pub LacksMemory : ShelfChange → Ending → Type 0
LacksMemory c e = TellsMemory e × LeavesShelf c

-- It does what these words ask for, over a shelf that changes so, or says that no memory was left for them. Its streams are those that they were.
pub record Ran (c : ShelfChange) (words : List Text) (e : Ending) : Type 0 where
  pub done : DoesAsked c words e ⊎ LacksMemory c e
  pub same_out : IsSame e.out
  pub same_err : IsSame e.err

-- ---- at a terminal

-- none of the bytes is a control character of ASCII
abbrev pub LacksControls : List ℕ → Type 0
LacksControls = All (λ b. (32 ≤ b) × (b ≢ 127))

-- more bytes stand behind, none of them a control character
abbrev pub AddsShown : List ℕ → List ℕ → Type 0
AddsShown before after = (more : List ℕ) × LacksControls more × (after ≡ before ++ more)

-- a line that begins with two spaces: the cause stands behind them, with no control character within it
abbrev pub IsCauseLine : List ℕ → Type 0
IsCauseLine line = (cause : List ℕ) × LacksControls cause × (line ≡ codes "  " ++ cause ++ line_feed ∷ [])

-- nothing more came to standard error, or a line with a cause did
abbrev pub MaySayCause : Change → Type 0
MaySayCause c = IsUntouched c ⊎ ((line : List ℕ) × IsCauseLine line × Says c line)

-- what was told is all that standard error got; or it was E24 alone, and below it there may be the cause
abbrev pub AddsCause : Change → Change → Type 0
AddsCause told err = (err ≡ told)
    ⊎ (Says told (fault_line Io) × (err.before ≡ told.before) × MaySayCause (change told.after err.after))

-- It does what these words ask for. Where standard error is a terminal the cause may stand below E24 there.
abbrev pub RanAt : Bool → ShelfChange → List Text → Ending → Type 0
RanAt false c words e = Ran c words e
RanAt true c words e = (told : Change) × Ran c words (ended e.status e.out told) × AddsCause told e.err

-- ---- by the standard library

-- what a writer of the standard library tells: the bytes that it held, and those that it holds after, where they are known
pub record Contents : Type 0 where
  pub before : Option (List ℕ)
  pub after : Option (List ℕ)

abbrev pub contents : Option (List ℕ) → Option (List ℕ) → Contents
contents before after = record { before = before; after = after }

-- the change is that of a sink over the writer which hadn't failed before; whether it fails, the writer doesn't tell
pub record IsOver (w : Contents) (c : Change) : Type 0 where
  pub before : c.before.received ≡ w.before
  pub after : c.after.received ≡ w.after
  pub fresh : c.before.has_failed ≡ false

-- it does what these words ask for, over writers that tell so much
pub record RanOver (c : ShelfChange) (words : List Text) (status : ℕ) (out err : Contents) : Type 0 where
  pub out_change : Change
  pub err_change : Change
  pub over_out : IsOver out out_change
  pub over_err : IsOver err err_change
  pub ran : Ran c words (ended status out_change err_change)

-- it says that an argument isn't UTF-8, with the status of unknown words
abbrev pub TellsNoText : Ending → Type 0
TellsNoText e =
    (e.status ≡ 2)
    × Says e.err (codes "error: an argument is not UTF-8" ++ line_feed ∷ line_feed ∷ codes "For more information, try '--help'." ++ line_feed ∷ [])
    × IsUntouched e.out
