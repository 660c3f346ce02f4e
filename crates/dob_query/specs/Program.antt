-- What the program owes where it is asked for the value of a position.
use Rattle.std.specs.Prelude.{ℕ, List}
use Rattle.dob_pieces.specs.declared.profile.Profile.{Profile}
use Rattle.dob_pieces.specs.declared.setup.Setup.{Setup}
use Rattle.dob_pieces.specs.Setups.{IsLegal}
use Rattle.dob_text.specs.PositionText.{Spells}
use Rattle.dob_text.specs.Faults.{HasTextFault}
use Rattle.dob_value.specs.Rosters.{SomeTooDeep, HasSamePieces}
use Rattle.dob_files.specs.declared.fault.ProgramFault.{ProgramFault}
use Rattle.dob_files.specs.declared.fault.ProgramFault.TheVariants.{Text, TooDeep, Memory}
use Rattle.dob_files.specs.Owed.{Owed, lines_owed}
use Rattle.dob_query.specs.Questions.{AreRightAnswerLines, plain_value}

-- The fault is given only where it is the text's first one, E26 behind all others, or memory failed.
abbrev pub IsFaultOf : Profile → List ℕ → ProgramFault → Type 0
IsFaultOf profile text (Text fault) = HasTextFault profile text fault
IsFaultOf profile text TooDeep =
    (position : Setup) × IsLegal position × Spells text position × SomeTooDeep profile (HasSamePieces profile position)
IsFaultOf profile text Memory = Unit {0}
IsFaultOf profile text _ = ⊥

-- what is owed for the value of the position that a text names, by the rules of a profile
abbrev pub value_owed : Profile → List ℕ → Owed
value_owed profile text = lines_owed (λ c. AreRightAnswerLines plain_value profile text) (λ c. IsFaultOf profile text)
