-- Why a position isn't one of a family, and the numbers of faults.
use Rattle.std.specs.Prelude.{ℕ}
use Rattle.dob_pieces.specs.declared.profile.Family.{Family}
use Rattle.dob_pieces.specs.declared.setup.Setup.{Setup}
use Rattle.dob_pieces.specs.Profiles.{IsAllowed}
use Rattle.dob_rank.specs.Order.{IsPositionOfSet}
use Rattle.dob_foreign.specs.Faults.{file_number, text_number}
use Rattle.dobutsu_c.specs.declared.fault.QuestionFault.{QuestionFault}
use Rattle.dobutsu_c.specs.declared.fault.QuestionFault.TheVariants.{Text, File, Member}
use Rattle.dobutsu_c.specs.declared.fault.Stranger.{Stranger}
use Rattle.dobutsu_c.specs.declared.fault.Stranger.TheVariants.{FarChick, OtherSet}

-- the family's profile doesn't allow the position; or it does, and the pieces aren't those of its set
abbrev pub IsStranger : Family → Setup → Stranger → Type 0
IsStranger family p FarChick = ¬ IsAllowed family.profile p
IsStranger family p OtherSet = IsAllowed family.profile p × ¬ IsPositionOfSet family.set p

abbrev pub stranger_number : Stranger → ℕ
stranger_number FarChick = 26
stranger_number OtherSet = 7

abbrev pub fault_number : QuestionFault → ℕ
fault_number (Text fault) = text_number fault
fault_number (File fault) = file_number fault
fault_number (Member stranger) = stranger_number stranger
