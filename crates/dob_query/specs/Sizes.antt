-- What the program owes where it is asked for the sizes of a piece set.
use Rattle.std.specs.Prelude.{◌≡◌, ◌≢◌, ℕ, List, ◌++◌, codes}
use Rattle.dob_pieces.specs.declared.piece_set.PieceSet.{PieceSet}
use Rattle.dob_pieces.specs.declared.profile.Family.{Family}
use Rattle.dob_pieces.specs.declared.profile.Profile.{Profile}
use Rattle.dob_pieces.specs.Sets.{set_text}
use Rattle.dob_rank.specs.Families.{HasClasses, HasSize, family_of}
use Rattle.dob_query.specs.declared.counts.Counts.{Counts}
use Rattle.dob_lines.specs.Tallies.{count_line}
use Rattle.dob_files.specs.Owed.{Owed, lines_owed}
use Rattle.dob_files.specs.declared.fault.ProgramFault.{ProgramFault}
use Rattle.dob_files.specs.declared.fault.ProgramFault.TheVariants.{SetText, Memory}

-- these are the family's numbers of positions and classes
pub record HasCounts (family : Family) (counts : Counts) : Type 0 where
  pub positions : HasSize family counts.positions
  pub classes : HasClasses family counts.classes

-- the text is that of a piece set with these numbers by the rules of the profile
abbrev pub AreCountsOf : Profile → List ℕ → Counts → Type 0
AreCountsOf profile text counts = (set : PieceSet) × (text ≡ set_text set) × HasCounts (family_of set profile) counts

-- the two lines that give the numbers
abbrev pub count_lines : Counts → List ℕ
count_lines counts = count_line (codes "positions ") counts.positions ++ count_line (codes "classes ") counts.classes

-- the bytes are the lines of the numbers of the text's piece set
abbrev pub AreCountLinesOf : Profile → List ℕ → List ℕ → Type 0
AreCountLinesOf profile text lines = (counts : Counts) × AreCountsOf profile text counts × (lines ≡ count_lines counts)

-- the fault is given only where no set has the text, or memory failed for the lines
abbrev pub IsCountFaultOf : List ℕ → ProgramFault → Type 0
IsCountFaultOf text SetText = (set : PieceSet) → text ≢ set_text set
IsCountFaultOf text Memory = Unit {0}
IsCountFaultOf text _ = ⊥

abbrev pub count_owed : Profile → List ℕ → Owed
count_owed profile text = lines_owed (λ c. AreCountLinesOf profile text) (λ c. IsCountFaultOf text)
