-- What is answered of a position by the bytes of a database's file, and the first fault of both.
use Rattle.std.specs.Prelude.{◌≢◌, ℕ, List}
use Rattle.dob_pieces.specs.declared.profile.Family.{Family}
use Rattle.dob_pieces.specs.declared.profile.Profile.TheVariants.{A}
use Rattle.dob_pieces.specs.declared.setup.Setup.{Setup}
use Rattle.dob_pieces.specs.Setups.{IsLegal}
use Rattle.dob_text.specs.Faults.{HasTextFault}
use Rattle.dob_text.specs.PositionText.{Spells}
use Rattle.dob_rank.specs.Families.{IsPositionOf, IsInClass}
use Rattle.dob_distance.specs.declared.value.Value.{Value}
use Rattle.dob_distance.specs.Distances.{plies_of}
use Rattle.dob_dbfile.specs.declared.fault.Fault.TheVariants as file_fault
use Rattle.dob_dbfile.specs.declared.header.Format.{Format}
use Rattle.dob_device.specs.Devices.{whole}
use Rattle.dob_dbfile.specs.Faults.{HasReadFault, IsNoLonger}
use Rattle.dob_dbfile.specs.Looking.{HasRecord}
use Rattle.dob_foreign.specs.Values.{outcome_number}
use Rattle.dobutsu_c.specs.declared.fault.QuestionFault.{QuestionFault}
use Rattle.dobutsu_c.specs.declared.fault.QuestionFault.TheVariants.{Text, File, Member}
use Rattle.dobutsu_c.specs.declared.value.DobutsuValue.{DobutsuValue}
use Rattle.dobutsu_c.specs.Faults.{IsStranger}

-- a value as other languages see it: 0 for a draw, 1 for a win, 2 for a loss, and the distance in plies, which is 0 for a draw
abbrev pub shown : Value → DobutsuValue
shown value = record { kind = outcome_number value; plies = plies_of value }

-- the text is that of a position
abbrev pub IsTextOf : List ℕ → Setup → Type 0
IsTextOf text setup = IsLegal setup × Spells text setup

-- the text is a position's, and the bytes are as many as the header's family has records for, with a digest
abbrev pub AreRead : List ℕ → List ℕ → Format → Family → Setup → Type 0
AreRead file text format family setup = IsTextOf text setup × IsNoLonger format family (whole file)

-- and the position is one of the family
abbrev pub IsAsked : List ℕ → List ℕ → Format → Family → Setup → Type 0
IsAsked file text format family setup = AreRead file text format family setup × IsPositionOf family setup

-- in a file of that format and family the record of the position's class is the value's
abbrev pub IsGiven : List ℕ → Format → Family → Setup → Value → Type 0
IsGiven file format family setup value = (class : ℕ) × IsInClass family setup class × HasRecord (whole file) format class value

-- the value that the file gives the position that is asked for
abbrev pub IsTold : List ℕ → List ℕ → Value → Type 0
IsTold file text value =
    (format : Format) × (family : Family) × (setup : Setup) × IsAsked file text format family setup × IsGiven file format family setup value

-- the first fault: of the text, of the file but for its digest, and of the position in the file
abbrev pub HasProbeFault : List ℕ → List ℕ → QuestionFault → Type 0
HasProbeFault file text (Text fault) = HasTextFault A text fault
HasProbeFault file text (File fault) = (setup : Setup) × IsTextOf text setup × HasReadFault (whole file) fault × (fault ≢ file_fault.Digest)
HasProbeFault file text (Member stranger) =
    (format : Format) × (family : Family) × (setup : Setup) × AreRead file text format family setup × IsStranger family setup stranger
