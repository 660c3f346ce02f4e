-- The table that was built, the file that is filled by it, and why there is none.
use Rattle.dob_build.proofs.Common.{◌∙◌, ◌≡◌, Bool, List, Option, ap, inl, inr, refl, subst, sym, ℕ, Err, IsTrue, Profile, family_of, bytes_of, Change, HasJust}
use Rattle.dob_build.proofs.Common.{SameFiles, ShelfChange, ShelfState, ProgramFault}
use Rattle.std.specs.Prelude.{MatchResult, Ok, Result, Some, String, string_bytes}
use Rattle.dob_safra.specs.Laws.{IsSize}
use Rattle.dob_pieces.specs.declared.piece_set.PieceSet.{PieceSet}
use Rattle.dob_pieces.specs.Sets.{set_text}
use Rattle.dob_pieces.specs.declared.profile.Family.{Family}
use Rattle.dob_value.specs.Follows.{IsValueTable}
use Rattle.dob_run.specs.declared.built_table.Built.{Built}
use Rattle.dob_share.specs.declared.build_fault.BuildFault.{BuildFault}
use Rattle.dob_share.specs.declared.build_fault.BuildFault.TheVariants.{Nodes}
use Rattle.dob_run.specs.Builds.{Builds}
use Rattle.dob_files.specs.declared.fault.ProgramFault.TheVariants.{Run, File, Memory}
use Rattle.dob_build.specs.Builds.{AreBuildLines, AreBuilt, AreNodes, HasNoBuild, HaveBuilt, IsBuildFault, IsRunFault, IsTableFor, IsUnbuilt, always_yes}
use Rattle.dob_files.specs.Keeping.{AreThese, FillsSink, IsShelfFault, IsWritingFault, LeavesFiles}
use Rattle.dob_lines.specs.Tallies.{class_lines}
use Rattle.dob_files.proofs.Kept.{AreKept, of_shelf_fault, same_chain}

-- the table that was built of the set with this text is the text's
pub table_for : (profile : Profile) (text : List ℕ) (set : PieceSet) (number : Option ℕ) (nodes : ℕ) (built : Built) → text ≡ set_text set
    → AreNodes number nodes → HaveBuilt (family_of set profile) nodes built → IsTableFor profile text number built.table
table_for profile text set number nodes built named asked (is, by) = record {
  nodes = nodes;
  asked = asked;
  named = named ∙ ap (λ (family : Family). set_text family.set) (sym is.family_is);
  rules = ap (λ (family : Family). family.profile) is.family_is;
  few = by.ran.within.0;
  right = subst (λ s. IsValueTable s built.table.values) (sym is.family_is) is.values;
  built = built;
  same = refl;
  ran = subst (λ family. HaveBuilt family nodes built) (sym is.family_is) (is, by);
}

module _ (profile : Profile) (text : List ℕ) (set : PieceSet) (named : text ≡ set_text set) (number : Option ℕ) (nodes : ℕ)
    (asked : AreNodes number nodes) (size : IsSize nodes) where
  -- why no file was filled is why nothing is built
  unbuilt : (fault : ProgramFault) → IsUnbuilt (family_of set profile) nodes fault → HasNoBuild profile text number fault
  unbuilt (Run f) holds = (set, named, nodes, asked, holds)
  unbuilt (File f) holds = (holds.0.table, table_for profile text set number nodes holds.0 named asked holds.1, holds.2)
  unbuilt Memory holds = tt
  unbuilt fault holds = absurd holds

  -- so is why it wasn't kept
  pub unkept : (fault : ProgramFault) → IsShelfFault fault → HasNoBuild profile text number fault
  unkept = of_shelf_fault (HasNoBuild profile text number) tt (set, named, nodes, asked, size)

  module _ (c : ShelfChange) (mid : ShelfState) where
    -- after the file was made, which changed no file
    pub building_holds : SameFiles c.before.has mid.has → (fault : ProgramFault)
        → LeavesFiles (record c { before = mid }) (IsUnbuilt (family_of set profile) nodes) fault → IsBuildFault c profile text number fault
    building_holds same fault holds = (
      elim holds.0 [ inl h ↦ unbuilt fault h | inr h ↦ unkept fault h ],
      same_chain c.before.has mid.has c.after.has same holds.1,
    )

    -- the lines and the file that was kept
    pub build_lines : {X : Type 0} (file : List ℕ) → mid.tells ≡ c.before.tells → (lines : String X)
        → AreKept (AreBuilt (family_of set profile) nodes) file (record c { before = mid }) lines
        → AreBuildLines c profile text number file (string_bytes lines)
    build_lines file told lines is = record {
      table = is.1.0.table;
      built = table_for profile text set number nodes is.1.0 named asked is.1.1;
      kept = λ tells. subst (λ (bytes : List ℕ). HasJust file bytes c.after.has) is.1.3 (is.2 (subst (λ (b : Bool). IsTrue b) (sym told) tells));
      same = is.1.2;
    }

-- the lines of the built table go with its file
pub built_fills : {X : Type 0} (family : Family) (nodes : ℕ) (built : Built) → HaveBuilt family nodes built → {lines : List ℕ}
    → lines ≡ class_lines built.table.values → (filled : Result (String X) ProgramFault) (c : Change)
    → FillsSink (AreThese lines (bytes_of built.table)) (IsWritingFault built.table) filled c
    → FillsSink (AreBuilt family nodes) (IsUnbuilt family nodes) filled c
built_fills family nodes built is told (Ok text) c fills = record {
  whole = let put = fills.whole in (put.0, (built, is, put.1.0 ∙ told, put.1.1), put.2);
  fault = tt;
  failed = fills.failed;
}
built_fills family nodes built is told (Err fault) c fills = record { whole = tt; fault = unwritten fault fills.fault; failed = fills.failed }
  where
    unwritten : (fault : ProgramFault) → IsWritingFault built.table fault → IsUnbuilt family nodes fault
    unwritten (File f) holds = (built, is, holds)
    unwritten fault holds = absurd holds

-- ---- numbers of nodes, and runs

-- a number of nodes that is asked for, and that no build has, is why none is made
pub refused_number : (asked : Option ℕ) (number : ℕ) → asked ≡ Some number → (¬ IsSize number) → (family : Family) →
    (nodes : ℕ) × AreNodes asked nodes × IsRunFault family nodes Nodes
refused_number asked number is outside family =
    subst (λ (o : Option ℕ). (nodes : ℕ) × AreNodes o nodes × IsRunFault family nodes Nodes) (sym is) (number, refl, (outside, tt, tt))

-- what a crew that was run gives
pub built_or_not : (family : Family) (nodes : ℕ) (result : Result Built BuildFault) → Builds always_yes family nodes 256 64 result →
    MatchResult result (HaveBuilt family nodes) (IsRunFault family nodes)
built_or_not family nodes (Ok built) builds = (builds.built, builds.crew)
built_or_not family nodes (Err fault) builds = (builds.fault, builds.unheld (λ node no. absurd (cc)), builds.stopped)
