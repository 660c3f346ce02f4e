-- What the program owes where it is asked to build a database file.
use Rattle.std.specs.Prelude.{◌≡◌, ◌≢◌, ℕ, Bool, true, IsTrue, List, None, Option, Some}
use Rattle.dob_pieces.specs.declared.piece_set.PieceSet.{PieceSet}
use Rattle.dob_pieces.specs.Sets.{set_text}
use Rattle.dob_pieces.specs.declared.profile.Family.{Family}
use Rattle.dob_pieces.specs.declared.profile.Profile.{Profile}
use Rattle.dob_rank.specs.Families.{family_of}
use Rattle.dob_safra.specs.Laws.{IsSize}
use Rattle.dob_value.specs.Follows.{ClassTable, IsValueTable}
use Rattle.dob_run.specs.declared.built_table.Built.{Built}
use Rattle.dob_run.specs.Built.{IsBuilt}
use Rattle.dob_run.specs.Builds.{IsLeftByCrew}
use Rattle.dob_run.specs.Faults.{HasBuildFault}
use Rattle.dob_run.specs.BuildEnd.{IsFailureOf}
use Rattle.dob_run.specs.CrewStops.{StopsSo, IsUnheld}
use Rattle.dob_runner.specs.Runners.{says_no}
use Rattle.dob_runner.specs.TurnLoop.{until_halted}
use Rattle.dob_share.specs.declared.build_fault.BuildFault.{BuildFault}
use Rattle.dob_dbfile.specs.Format.{bytes_of}
use Rattle.dob_files.specs.declared.fault.ProgramFault.{ProgramFault}
use Rattle.dob_files.specs.declared.fault.ProgramFault.TheVariants.{SetText, Run, File, Memory, Io}
use Rattle.dob_shelf.specs.Shelves.{HasJust, SameFiles, SameOthers, ShelfChange}
use Rattle.dob_files.specs.Keeping.{IsWritingFault}
use Rattle.dob_lines.specs.Tallies.{class_lines}
use Rattle.dob_files.specs.Owed.{Owed, lines_owed}

-- so many nodes, where a number is given; else some number from 1 to 16
abbrev pub AreNodes : Option ℕ → ℕ → Type 0
AreNodes (Some number) nodes = nodes ≡ number
AreNodes None nodes = IsSize nodes

-- a gate that lets each node go on whenever it is asked
abbrev pub always_yes : ℕ → Bool → Type 0
always_yes node answer = answer ≡ true

-- so many nodes built it, and a crew of them left it, with batches of 256 items and inboxes of 64 batches, which asked such a gate
abbrev pub HaveBuilt : Family → ℕ → Built → Type 0
HaveBuilt family nodes built = IsBuilt family nodes 256 built × IsLeftByCrew (says_no always_yes) family nodes 256 64 built

-- Nodes built the table, so many where a number is given, by batches of 256 items and inboxes of 64 batches: it is the value table by the rules of
-- the profile of the piece set that the text names, there are 1 to 16 nodes, and the run of a crew of just so many ended with it.
pub record IsTableFor (profile : Profile) (text : List ℕ) (number : Option ℕ) (table : ClassTable) : Type 0 where
  pub named : text ≡ set_text table.family.set
  pub rules : table.family.profile ≡ profile
  pub nodes : ℕ
  pub asked : AreNodes number nodes
  pub few : IsSize nodes
  pub right : IsValueTable table.family table.values
  pub built : Built
  pub same : built.table ≡ table
  pub ran : HaveBuilt table.family nodes built

-- The lines are those of the value table of the text's piece set, and under the name the shelf has just its file, where it tells
-- its bytes.
pub record AreBuildLines (c : ShelfChange) (profile : Profile) (text : List ℕ) (number : Option ℕ) (file lines : List ℕ) : Type 0 where
  pub table : ClassTable
  pub built : IsTableFor profile text number table
  pub kept : IsTrue c.before.tells → HasJust file (bytes_of table) c.after.has
  pub same : lines ≡ class_lines table.values

-- why the run of the family by so many nodes, with batches of 256 and inboxes of 64, left no table: it was refused, or a crew of these that asked such a gate
-- stopped, and the node that is named is the one that failed, for that cause
abbrev pub IsRunFault : Family → ℕ → BuildFault → Type 0
IsRunFault family nodes fault = HasBuildFault nodes 256 64 fault × IsUnheld fault × StopsSo IsFailureOf (says_no always_yes) until_halted family nodes 256 64 fault

-- nodes built a table of the family, whose lines and file these are
abbrev pub AreBuilt : Family → ℕ → List ℕ → List ℕ → Type 0
AreBuilt family nodes lines bytes =
    (built : Built) × HaveBuilt family nodes built × (lines ≡ class_lines built.table.values) × (bytes ≡ bytes_of built.table)

-- why no file of the family's table is filled: the run by so many nodes left none, or what it left isn't written, or memory was refused
abbrev pub IsUnbuilt : Family → ℕ → ProgramFault → Type 0
IsUnbuilt family nodes (Run fault) = IsRunFault family nodes fault
IsUnbuilt family nodes (File fault) =
    (built : Built) × HaveBuilt family nodes built × IsWritingFault built.table (File fault)
IsUnbuilt family nodes Memory = Unit {0}
IsUnbuilt family nodes _ = ⊥

-- Why nothing is built: no set has the text; or the run by so many nodes was refused or stopped; or, where the set and the number of nodes are right,
-- the file couldn't be made or kept; or the table is there and couldn't be written; or memory was refused.
abbrev pub HasNoBuild : Profile → List ℕ → Option ℕ → ProgramFault → Type 0
HasNoBuild profile text number SetText = (set : PieceSet) → text ≢ set_text set
HasNoBuild profile text number (Run fault) =
    (set : PieceSet) × (text ≡ set_text set) × (nodes : ℕ) × AreNodes number nodes × IsRunFault (family_of set profile) nodes fault
HasNoBuild profile text number Io = (set : PieceSet) × (text ≡ set_text set) × (nodes : ℕ) × AreNodes number nodes × IsSize nodes
HasNoBuild profile text number (File fault) = (table : ClassTable) × IsTableFor profile text number table × IsWritingFault table (File fault)
HasNoBuild profile text number Memory = Unit {0}
HasNoBuild profile text number _ = ⊥

-- the fault of building; each file has what it had
abbrev pub IsBuildFault : ShelfChange → Profile → List ℕ → Option ℕ → ProgramFault → Type 0
IsBuildFault c profile text number fault = HasNoBuild profile text number fault × SameFiles c.before.has c.after.has

-- What is owed for a file of the table of the piece set that a text names, by the rules of a profile, built by so many nodes where a number is given. Where
-- standard output fails it does so in lines that are right, and so the file is whole.
abbrev pub build_owed : Profile → List ℕ → Option ℕ → List ℕ → Owed
build_owed profile text number file =
    record (lines_owed (λ c. AreBuildLines c profile text number file) (λ c. IsBuildFault c profile text number)) { keeps = SameOthers file }
