-- How the program ends: from what it tells of lines or a fault to what it owes.
use Rattle.dob_files.proofs.Common.{List, ℕ, IfErr, IfOk, Result, FailsWhere, ShelfChange, Answers, Ending, GivesOver, Tells}
use Rattle.dob_files.proofs.Common.{fails, is_io, ProgramFault}
use Rattle.std.proofs.Common.{arith}

-- what a call is known to have given by its result is answered
pub answered_by : {X : Type 0} (c : ShelfChange) (Is : X → Type 0) (Holds : ProgramFault → Type 0) (result : Result X ProgramFault) → IfOk result Is
    → IfErr result Holds
    → FailsWhere c (fails is_io result) → GivesOver c Is Holds result
answered_by c Is Holds result is holds failed = grind arith

-- lines that are right
pub answered : (AreLines : List ℕ → Type 0) (Holds : ProgramFault → Type 0) (lines : List ℕ) (e : Ending) → AreLines lines → Tells lines e
    → Answers AreLines Holds e
answered AreLines Holds lines e right told = grind arith
