-- What files are kept that were filled.
use Rattle.dob_files.proofs.Common.{◌||◌, ◌∙◌, ◌≡◌, Bool, List, Option, Some, [], ap, false, inl, inr, subst, sym, ℕ}
use Rattle.dob_files.proofs.Common.{or-false, Err, IsTrue, Ok, Result, String, Change, others_chain, others_kept, Files, HasJust, SameFiles}
use Rattle.dob_files.proofs.Common.{SameOthers, ShelfChange, ShelfState, is_failed, shelf_change, ShelfFault, GivesOver, fault_of_shelf, is_io, FillsSink}
use Rattle.dob_files.proofs.Common.{IsShelfFault, KeepsFilled, LeavesFiles, ProgramFault, Io, Memory, arith}
use Rattle.std.specs.Prelude.{string_bytes}
use Rattle.std.specs.Io.KnownBytes.{Appends}

-- an empty sink that takes the bytes has just these
pub received_all : (old new : Option (List ℕ)) (bytes : List ℕ) → old ≡ Some [] → Appends old new bytes → new ≡ Some bytes
received_all old new bytes e h = grind arith

pub same_chain : (Old Mid New : Files) → SameFiles Old Mid → SameFiles Mid New → SameFiles Old New
same_chain Old Mid New first second name bytes = grind (arith, first name bytes, second name bytes)

pub others_after : (name : List ℕ) (Old Mid New : Files) → SameFiles Old Mid → SameOthers name Mid New → SameOthers name Old New
others_after name Old Mid New same others = others_chain name Old Mid New (others_kept name Old Mid same) others

-- what fails after something that didn't
pub fails_later : (old mid new failed : Bool) → mid ≡ (old || false) → new ≡ (mid || failed) → new ≡ (old || failed)
fails_later old mid new failed first second = second ∙ ap (λ (b : Bool). b || failed) (first ∙ or-false old)

-- what fails where a source that is given back did
pub source_fails : (old mid new source failed : Bool) → mid ≡ (old || false) → new ≡ (mid || source) → source ≡ failed → new ≡ (old || failed)
source_fails old mid new source failed first second is = fails_later old mid new failed first (second ∙ ap (λ (b : Bool). mid || b) is)

-- what holds of lack of memory and of a device that failed holds of a fault of keeping a file
pub of_shelf_fault : (P : ProgramFault → Type 0) → P Memory → P Io → (fault : ProgramFault) → IsShelfFault fault → P fault
of_shelf_fault P memory io fault holds = grind arith

-- a fault of the shelf is one of keeping a file, and a device's just where that failed
pub shelf_keeps : (fault : ShelfFault) → IsShelfFault (fault_of_shelf fault)
shelf_keeps fault = grind arith

pub shelf_fails : {X : Type 0} (made : Result X ShelfFault) (before after : Bool) (fault : ShelfFault) → after ≡ (before || is_failed {X = X} (Err fault))
    → after ≡ (before || is_io (fault_of_shelf fault))
shelf_fails made before after fault failed = grind arith

-- a sink that works is kept, and nothing fails
pub keeps_working : (before sunk after : Bool) → sunk ≡ false → after ≡ ((before || sunk) || false) → after ≡ (before || false)
keeps_working before sunk after works kept = kept ∙ ap (λ (b : Bool). (before || b) || false) works ∙ ap (λ (b : Bool). b || false) (or-false before)

-- what was answered after a call that failed at nothing
pub answered_later : {X : Type 0} (old mid new : ShelfState) (Is Other : X → Type 0) (Holds Also : ProgramFault → Type 0) (result : Result X ProgramFault)
    → mid.has_failed ≡ (old.has_failed || false) → ((x : X) → Is x → Other x) → ((fault : ProgramFault) → Holds fault → Also fault)
    → GivesOver (shelf_change mid new) Is Holds result → GivesOver (shelf_change old new) Other Also result
answered_later old mid new Is Other Holds Also (Ok x) failed right fault is =
    (right x is.0, fails_later old.has_failed mid.has_failed new.has_failed false failed is.1)
answered_later old mid new Is Other Holds Also (Err given) failed right fault is =
    (fault given is.0, fails_later old.has_failed mid.has_failed new.has_failed (is_io given) failed is.1)

-- what the lines and the file of a sink are that was filled and kept
abbrev pub AreKept : {X : Type 0} → (List ℕ → List ℕ → Type 0) → List ℕ → ShelfChange → String X → Type 0
AreKept Fits name c text = (bytes : List ℕ) × Fits (string_bytes text) bytes × (IsTrue c.before.tells → HasJust name bytes c.after.has)

pub filled_answers : {X : Type 0} (c : ShelfChange) (name : List ℕ) (sunk : Change) (Fits : List ℕ → List ℕ → Type 0) (Holds : ProgramFault → Type 0)
    (filled result : Result (String X) ProgramFault) → (IsTrue c.before.tells → sunk.before.received ≡ Some []) → FillsSink Fits Holds filled sunk
    → KeepsFilled name sunk.after.received filled result c → GivesOver c (AreKept Fits name c) (LeavesFiles c Holds) result
filled_answers {X} c name sunk Fits Holds (Ok lines) (Ok told) empty fills kept =
    let put = fills.whole in (
      (
        put.0,
        subst (λ (text : String X). Fits (string_bytes text) put.0) (sym kept.0.0) put.1,
        λ tells. kept.0.1 put.0 tells (received_all _ _ put.0 (empty tells) put.2),
      ),
      kept.1,
    )
filled_answers c name sunk Fits Holds (Ok lines) (Err fault) empty fills kept = ((inr kept.0.0, kept.0.1), kept.1)
filled_answers {X} c name sunk Fits Holds (Err given) result empty fills kept =
    subst (λ (r : Result (String X) ProgramFault). GivesOver c (AreKept Fits name c) (LeavesFiles c Holds) r) (sym kept.0) ((inl fills.fault, kept.1), kept.2)

-- where the file is filled by bytes alone, each fault is one of the shelf
pub shelf_leaves : (c : ShelfChange) (mid : ShelfState) → SameFiles c.before.has mid.has → (fault : ProgramFault)
    → LeavesFiles (record c { before = mid }) IsShelfFault fault → IsShelfFault fault × SameFiles c.before.has c.after.has
shelf_leaves c mid same fault holds = grind (arith, same_chain c.before.has mid.has c.after.has same)
