-- What the program owes where it is asked to show a position.
use Rattle.std.specs.Prelude.{◌≡◌, ◌⊎◌, ℕ, IsTrue, List, Option, None, Some, Result, String, is_some, true}
use Rattle.dob_pieces.specs.declared.profile.Profile.TheVariants.{A}
use Rattle.dob_pieces.specs.declared.setup.Setup.{Setup}
use Rattle.dob_text.specs.Drawings.{drawing_of}
use Rattle.dob_text.specs.Pictures.{picture_of}
use Rattle.dob_text.specs.Faults.{HasTextFault}
use Rattle.dob_pieces.specs.declared.profile.Profile.{Profile}
use Rattle.dob_distance.specs.Values.{HasValue}
use Rattle.dob_files.specs.declared.fault.ProgramFault.{ProgramFault}
use Rattle.dob_files.specs.declared.fault.ProgramFault.TheVariants.{Text, Memory, Io}
use Rattle.dob_files.specs.Endings.{AnswersOver, Ending, GivesLines}
use Rattle.dob_shelf.specs.Shelves.{Files, HasJust, SameFiles, SameOthers, ShelfChange}
use Rattle.dob_files.specs.Keeping.{IsShelfFault}
use Rattle.dob_files.specs.Owed.{ByValueFile, Owed}
use Rattle.dob_files.specs.Tables.{IsTextOf}
use Rattle.dob_words.specs.declared.command.orders.LineForm.TheVariants.{Drawn}
use Rattle.dob_words.specs.declared.command.orders.Question.{Question}
use Rattle.dob_words.specs.declared.command.orders.Question.TheVariants.{Line}
use Rattle.dob_query.specs.Questions.{IsAnswerBy, IsAskingFault, IsToldBy}

-- what a file is asked for it
abbrev pub drawn_line : Question
drawn_line = Line Drawn

-- ---- lines

-- the lines draw the position, by the file of that name where one is named
abbrev pub AreDrawn : Files → Option (List ℕ) → Setup → List ℕ → Type 0
AreDrawn Has None position lines = lines ≡ drawing_of position
AreDrawn Has (Some file) position lines = IsAnswerBy drawn_line (Has file) position lines

-- where a picture is asked for, the file of that name has just these bytes on a shelf that tells its bytes
abbrev pub IsKept : ShelfChange → Option (List ℕ) → List ℕ → Type 0
IsKept c None bytes = Unit {0}
IsKept c (Some name) bytes = IsTrue c.before.tells → HasJust name bytes c.after.has

-- the lines draw the position that the text names, and so does the file that is named for its picture
pub record AreShowLines (c : ShelfChange) (file picture : Option (List ℕ)) (words lines : List ℕ) : Type 0 where
  pub position : Setup
  pub named : IsTextOf words position
  pub drawn : AreDrawn c.before.has file position lines
  pub kept : IsKept c picture (picture_of position)

-- the same, where the lines say what is right by definition
pub record AreRightShowLines (c : ShelfChange) (profile : Profile) (picture : Option (List ℕ)) (words lines : List ℕ) : Type 0 where
  pub position : Setup
  pub named : IsTextOf words position
  pub drawn : IsToldBy drawn_line profile (HasValue profile) position lines
  pub kept : IsKept c picture (picture_of position)

-- ---- faults

-- a fault of asking the file that is named, if one is
abbrev pub IsFaultBy : Files → Option (List ℕ) → Setup → ProgramFault → Type 0
IsFaultBy Has None position fault = ⊥
IsFaultBy Has (Some file) position fault = IsAskingFault drawn_line (Has file) position fault

-- a fault of drawing a position, by the file that is named if one is: the file's, or memory failed
abbrev pub IsDrawingFault : Files → Option (List ℕ) → Setup → ProgramFault → Type 0
IsDrawingFault Has file position Memory = Unit {0}
IsDrawingFault Has file position fault = IsFaultBy Has file position fault

-- The fault of showing: the text is no position's, or asking the file failed, or the file of the picture that is asked for, if one is, or memory was
-- refused. Each file has what it had.
abbrev pub IsShowFault : ShelfChange → Option (List ℕ) → Option (List ℕ) → List ℕ → ProgramFault → Type 0
IsShowFault c file picture words (Text fault) = HasTextFault A words fault × SameFiles c.before.has c.after.has
IsShowFault c file picture words Memory = SameFiles c.before.has c.after.has
IsShowFault c file picture words Io = (position : Setup) × IsTextOf words position
    × (IsFaultBy c.before.has file position Io ⊎ (is_some picture ≡ true)) × SameFiles c.before.has c.after.has
IsShowFault c file picture words fault = (position : Setup) × IsTextOf words position
    × IsFaultBy c.before.has file position fault × SameFiles c.before.has c.after.has

-- ---- what the calls give

-- the picture's file is kept and the lines are told, or that failed and each file has what it had
abbrev pub KeepsPicture : {X : Type 0} → List ℕ → Setup → List ℕ → Result (String X) ProgramFault → ShelfChange → Type 0
KeepsPicture name position lines result c =
    GivesLines c (λ told. (told ≡ lines) × (IsTrue c.before.tells → HasJust name (picture_of position) c.after.has))
    (λ fault. IsShelfFault fault × SameFiles c.before.has c.after.has) result

-- ---- what the program owes

-- each file has what it had, but the one of the picture where one is asked for
abbrev pub KeepsButPicture : Option (List ℕ) → Files → Files → Type 0
KeepsButPicture None = SameFiles
KeepsButPicture (Some name) = SameOthers name

-- by the file of a value table, where one is named, it answers what is right
abbrev pub AnswersShowRight : ShelfChange → Option (List ℕ) → Option (List ℕ) → List ℕ → Ending → Type 0
AnswersShowRight c None picture words e = Unit {0}
AnswersShowRight c (Some file) picture words e =
    ByValueFile c file (λ profile. AnswersOver c (AreRightShowLines c profile picture words) (IsShowFault c (Some file) picture words) e)

abbrev pub show_owed : Option (List ℕ) → Option (List ℕ) → List ℕ → Owed
show_owed file picture words = record {
  lines = λ c. AreShowLines c file picture words;
  faults = λ c. IsShowFault c file picture words;
  keeps = KeepsButPicture picture;
  right = λ c. AnswersShowRight c file picture words;
}
