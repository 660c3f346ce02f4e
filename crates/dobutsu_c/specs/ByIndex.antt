-- What is asked of a file by an index of its family.
use Rattle.std.specs.Prelude.{◌≡◌, ◌≢◌, ◌⊎◌, ℕ, ◌+◌, ◌*◌, ◌<◌, List, length, take, drop, ⊤}
use Rattle.dob_pieces.specs.declared.profile.Family.{Family}
use Rattle.dob_pieces.specs.declared.profile.Profile.TheVariants.{A}
use Rattle.dob_pieces.specs.declared.setup.Setup.{Setup}
use Rattle.dob_text.specs.declared.fault.TextFault.{TextFault}
use Rattle.dob_text.specs.Faults.{HasTextFault}
use Rattle.dob_rank.specs.Families.{IsPositionOf, IsInClass, classes_of}
use Rattle.dob_distance.specs.declared.value.Value.{Value}
use Rattle.dob_index.specs.Index.{IsIndex, IsMarked}
use Rattle.dob_dbfile.specs.declared.header.Format.{Format}
use Rattle.dob_device.specs.Devices.{whole}
use Rattle.dob_dbfile.specs.declared.fault.Fault.TheVariants as file_fault
use Rattle.dob_dbfile.specs.Faults.{NamesFamily, HasReadFault, IsNoLonger, count_place, header_len}
use Rattle.dob_dbfile.specs.Format.{count_bytes}
use Rattle.dob_dbfile.specs.Looking.{HasRecord}
use Rattle.dobutsu_c.specs.declared.fault.QuestionFault.TheVariants.{Text, File, Member}
use Rattle.dobutsu_c.specs.declared.fault.Stranger.{Stranger}
use Rattle.dobutsu_c.specs.declared.numbering.Numbering.{Numbering}
use Rattle.dobutsu_c.specs.declared.numbering.Numbering.TheVariants as numbering
use Rattle.dobutsu_c.specs.declared.by_index.ByFault.{ByFault}
use Rattle.dobutsu_c.specs.declared.by_index.ByFault.TheVariants.{Asked, Index}
use Rattle.dobutsu_c.specs.Counts.{IsFamily, count_fault}
use Rattle.dob_foreign.specs.Faults.{text_number}
use Rattle.dobutsu_c.specs.Faults.{IsStranger, fault_number, stranger_number}
use Rattle.dobutsu_c.specs.Probes.{IsTextOf}

-- by a count each family's classes are right; numbers are right where they are its index
abbrev pub IsRight : Numbering → Family → Type 0
IsRight numbering.Counted family = ⊤
IsRight (numbering.Index words) family = IsIndex family words.now

abbrev pub IsMarkedBy : Numbering → Family → Type 0
IsMarkedBy numbering.Counted family = ⊤
IsMarkedBy (numbering.Index words) family = IsMarked family words.now

-- the numbers are the index of the family that the file names
abbrev pub IsIndexFor : List ℕ → Numbering → Type 0
IsIndexFor file by = (format : Format) (family : Family) → NamesFamily format family file → IsRight by family

-- the file names the family, counts so many classes, and is as long as they need
pub record IsLongFor (file : List ℕ) (format : Format) (family : Family) (classes : ℕ) : Type 0 where
  pub named : NamesFamily format family file
  pub counted : take 8 (drop (count_place format) file) ≡ count_bytes classes
  pub long : length file ≡ header_len format + 2 * classes + 32

-- the file names the family, the numbers are marked as an index of it, and the file has so many classes; as many as the family, where they are its index
pub record IsHeldBy (file : List ℕ) (by : Numbering) (format : Format) (family : Family) (classes : ℕ) : Type 0 where
  pub named : NamesFamily format family file
  pub marked : IsMarkedBy by family
  pub long : length file ≡ header_len format + 2 * classes + 32
  pub right : IsRight by family → (classes ≡ classes_of family) × IsNoLonger format family (whole file)

-- and the text is that of a position of the family
pub record IsAskedBy (file text : List ℕ) (by : Numbering) (format : Format) (family : Family) (classes : ℕ) (setup : Setup) : Type 0 where
  pub named : IsTextOf text setup
  pub held : IsHeldBy file by format family classes
  pub member : IsPositionOf family setup

-- the value is that of a record of the file: by the index of its family, of the position's own class
pub record IsGivenBy (file : List ℕ) (by : Numbering) (format : Format) (family : Family) (classes : ℕ) (setup : Setup) (value : Value) : Type 0 where
  pub class : ℕ
  pub below : class < classes
  pub read : HasRecord (whole file) format class value
  pub right : IsRight by family → IsInClass family setup class

-- what the file gives the position that is asked for
abbrev pub IsToldBy : List ℕ → List ℕ → Numbering → Value → Type 0
IsToldBy file text by value = (format : Format) × (family : Family) × (classes : ℕ) × (setup : Setup)
    × IsAskedBy file text by format family classes setup × IsGivenBy file by format family classes setup value

-- the position's text and a file that the numbers fit
abbrev pub AreReadBy : List ℕ → List ℕ → Numbering → Format → Family → ℕ → Setup → Type 0
AreReadBy file text by format family classes setup = IsTextOf text setup × IsHeldBy file by format family classes

abbrev pub AreUnmarked : List ℕ → Numbering → Format → Family → Type 0
AreUnmarked file by format family = (¬ IsMarkedBy by family) × (classes : ℕ) × IsLongFor file format family classes

-- they are no index of the file's family: it is as long as it says, and they aren't marked so; or the file has no fault that is looked for; or they fit it, and
-- lead outside of it
abbrev pub AreNoIndex : List ℕ → Numbering → Format → Family → Setup → Type 0
AreNoIndex file by format family setup = (AreUnmarked file by format family
    ⊎ ((¬ IsRight by family) × (IsNoLonger format family (whole file)
    ⊎ ((classes : ℕ) × IsHeldBy file by format family classes × IsPositionOf family setup))))

-- the first fault, whatever the numbers are
abbrev pub HasByFault : List ℕ → List ℕ → Numbering → ByFault → Type 0
HasByFault file text by (Asked (Text fault)) = HasTextFault A text fault
HasByFault file text by (Asked (File fault)) = (setup : Setup) × IsTextOf text setup × HasReadFault (whole file) fault × (fault ≢ file_fault.Digest)
HasByFault file text by (Asked (Member stranger)) = (format : Format) × (family : Family) × (classes : ℕ) × (setup : Setup)
    × AreReadBy file text by format family classes setup × IsStranger family setup stranger
HasByFault file text by Index = (format : Format) × (family : Family) × (setup : Setup) × IsTextOf text setup × AreNoIndex file by format family setup

abbrev pub number_by : ByFault → ℕ
number_by (Asked fault) = fault_number fault
number_by Index = 29

-- a fault of the file, or that it has none
abbrev pub HasFileFault : List ℕ → ByFault → Type 0
HasFileFault file (Asked (File fault)) = HasReadFault (whole file) fault × (fault ≢ file_fault.Digest)
HasFileFault file Index = (format : Format) × (family : Family) × IsNoLonger format family (whole file)
HasFileFault file _ = ⊥

-- a fault of the file, or of the numbers
abbrev pub HasHeldFault : List ℕ → Numbering → ByFault → Type 0
HasHeldFault file by (Asked (File fault)) = HasReadFault (whole file) fault × (fault ≢ file_fault.Digest)
HasHeldFault file by Index = (format : Format) × (family : Family)
    × (AreUnmarked file by format family ⊎ (IsNoLonger format family (whole file) × ¬ IsRight by family))
HasHeldFault file by _ = ⊥

-- Why the number of a position's class isn't answered by an index, as a fault's number: the numbers aren't marked as an index of the family; or they are, and the
-- position isn't one of it.
abbrev pub IsUnfit : Family → List ℕ → Setup → ℕ → Type 0
IsUnfit family index setup number = ((¬ IsMarked family index) × (number ≡ 29))
    ⊎ (IsMarked family index × (stranger : Stranger) × IsStranger family setup stranger × (number ≡ stranger_number stranger))

-- the same of a text and of numbers that name a family: before that the text may be no position's, and then the numbers may name none
abbrev pub IsClassFault : ℕ → ℕ → ℕ → ℕ → List ℕ → List ℕ → ℕ → Type 0
IsClassFault chicks elephants giraffes profile index text number = ((fault : TextFault) × HasTextFault A text fault × (number ≡ text_number fault))
    ⊎ ((setup : Setup) × IsTextOf text setup
    × (((count_fault chicks elephants giraffes profile ≢ 0) × (number ≡ count_fault chicks elephants giraffes profile))
    ⊎ ((family : Family) × IsFamily chicks elephants giraffes profile family × IsUnfit family index setup number)))
