-- The numbers of faults.
use Rattle.std.specs.Prelude.{ℕ}
use Rattle.dob_pieces.specs.declared.fault.PositionFault.{PositionFault}
use Rattle.dob_pieces.specs.declared.fault.PositionFault.TheVariants as position
use Rattle.dob_text.specs.declared.fault.TextFault.{TextFault}
use Rattle.dob_text.specs.declared.fault.TextFault.TheVariants as text
use Rattle.dob_dbfile.specs.declared.fault.Fault.{Fault}
use Rattle.dob_dbfile.specs.declared.fault.Fault.TheVariants as file

abbrev pub text_number : TextFault → ℕ
text_number text.Shape = 1
text_number text.Letter = 2
text_number text.Hand = 3
text_number text.Lions = 4
text_number text.Count = 5
text_number text.FarLion = 6
text_number text.FarChick = 26

abbrev pub position_number : PositionFault → ℕ
position_number position.Lions = 4
position_number position.Count = 5
position_number position.FarLion = 6

abbrev pub file_number : Fault → ℕ
file_number file.Truncated = 15
file_number file.Magic = 16
file_number file.SetByte = 17
file_number file.ClassCount = 18
file_number file.Trailing = 19
file_number file.Digest = 20
file_number file.Memory = 23
file_number (file.Io bytes) = 24
file_number file.ProfileByte = 27
