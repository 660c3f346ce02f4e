-- The moves of a position with their values, as other languages see them.
use Rattle.std.specs.Prelude.{◌≡◌, ◌≢◌, ◌⊎◌, ℕ, ◌<◌, ◌≤◌, List, length, get_or}
use Rattle.dob_pieces.specs.declared.profile.Family.{Family}
use Rattle.dob_pieces.specs.declared.setup.Setup.{Setup}
use Rattle.dob_moves.specs.declared.game_move.Move.{Move}
use Rattle.dob_value.specs.Follows.{ClassTable, IsValueTable}
use Rattle.dob_distance.specs.Values.{HasValue}
use Rattle.dob_dbfile.specs.declared.header.Format.{Format}
use Rattle.dob_dbfile.specs.Format.{IsFile}
use Rattle.dob_foreign.specs.declared.moves.DobutsuStep.{DobutsuStep}
use Rattle.dob_foreign.specs.Moves.{shown_step}
use Rattle.dob_probe.specs.declared.by_value.ValuedMove.{ValuedMove}
use Rattle.dob_probe.specs.declared.gap.LookupFault.{LookupFault}
use Rattle.dob_probe.specs.declared.gap.LookupFault.TheVariants.{NoValue, Inconsistent, Memory}
use Rattle.dob_probe.specs.ValuedMoves.{AreSaidMoves, AreValuedMoves}
use Rattle.dobutsu_c.specs.declared.moves.DobutsuMove.{DobutsuMove}
use Rattle.dobutsu_c.specs.declared.by_index.ByFault.{ByFault}
use Rattle.dobutsu_c.specs.declared.numbering.Numbering.{Numbering}
use Rattle.dobutsu_c.specs.declared.value.DobutsuValue.{DobutsuValue}
use Rattle.dobutsu_c.specs.declared.fault.QuestionFault.{QuestionFault}
use Rattle.dobutsu_c.specs.ByIndex.{IsAskedBy, IsGivenBy, IsIndexFor, IsMarkedBy, HasByFault, number_by}
use Rattle.dobutsu_c.specs.Faults.{fault_number}
use Rattle.dobutsu_c.specs.Probes.{AreRead, IsAsked, IsGiven, IsTextOf, HasProbeFault, shown}

-- a move and a value as one
abbrev pub with_value : DobutsuStep → DobutsuValue → DobutsuMove
with_value step value = record { kind = step.kind; from = step.from; to = step.to; catches = step.catches; grows = step.grows; value = value }

abbrev pub shown_move : Move → DobutsuValue → DobutsuMove
shown_move move value = with_value (shown_step move) value

abbrev pub shown_valued : ValuedMove → DobutsuMove
shown_valued valued = shown_move valued.played (shown valued.value)

-- the moves stand in the first places, as far as there are places, and the others hold what they held
pub record AreWritten (list : List ValuedMove) (old new : List DobutsuMove) : Type 0 where
  pub moves : (place : ℕ) (d : ValuedMove) (e : DobutsuMove) → place < length list → place < length new
      → get_or new place e ≡ shown_valued (get_or list place d)
  pub others : (place : ℕ) (e : DobutsuMove) → length list ≤ place → get_or new place e ≡ get_or old place e

-- the moves of the position that is asked for, best first, by what the file gives the positions that they lead to
abbrev pub AreToldMoves : List ℕ → List ℕ → List ValuedMove → Type 0
AreToldMoves file text list = (format : Format) × (family : Family) × (setup : Setup) × IsAsked file text format family setup
    × AreValuedMoves family.profile (IsGiven file format family) setup list

-- what any numbers give of a position's moves, each with a value that a record of the file gives what it leads to
abbrev pub AreMovesBy : List ℕ → Numbering → Format → Family → ℕ → Setup → List ValuedMove → Type 0
AreMovesBy file by format family classes setup list = AreSaidMoves family.profile (IsGivenBy file by format family classes) setup list

abbrev pub AreToldMovesBy : List ℕ → List ℕ → Numbering → List ValuedMove → Type 0
AreToldMovesBy file text by list = (format : Format) × (family : Family) × (classes : ℕ) × (setup : Setup)
    × IsAskedBy file text by format family classes setup × AreMovesBy file by format family classes setup list

-- why they aren't told, as a fault's number: memory ran out, once the position and the file were read; or the first fault
abbrev pub IsMovesFault : List ℕ → List ℕ → Numbering → ℕ → Type 0
IsMovesFault file text by number = ((number ≡ 23) × (format : Format) × (family : Family) × (classes : ℕ) × (setup : Setup)
    × IsAskedBy file text by format family classes setup) ⊎ ((fault : ByFault) × HasByFault file text by fault × (number ≡ number_by fault))

-- why moves aren't told, as a fault's number
abbrev pub gap_number : LookupFault ByFault → ℕ
gap_number (NoValue fault) = number_by fault
gap_number (Inconsistent class) = 21
gap_number Memory = 23

-- ---- what is answered: a fault's number, or 0, the moves and how many there are

-- They are those by the file, and by the file of a value table by definition. Or the number is that of the one fault, or memory ran out.
pub record AreExactMoves (file text : List ℕ) (old new : List DobutsuMove) (count number : ℕ) : Type 0 where
  pub given : number ≡ 0 → (list : List ValuedMove) × AreToldMoves file text list × AreWritten list old new × (count ≡ length list)
  pub right : (table : ClassTable) (setup : Setup) → IsFile file table → IsValueTable table.family table.values → IsTextOf text setup → number ≡ 0
      → (list : List ValuedMove) × AreValuedMoves table.family.profile (HasValue table.family.profile) setup list × AreWritten list old new × (count ≡ length list)
  pub refused : number ≢ 0 → (number ≡ 23) ⊎ ((fault : QuestionFault) × HasProbeFault file text fault × (number ≡ fault_number fault))
  pub first : (fault : QuestionFault) → HasProbeFault file text fault → number ≡ fault_number fault

-- With the index of the file's family it is so; and with any numbers the values are those of some records of the file, or the fault is one that they have too.
pub record AreAnsweredMoves (file : List ℕ) (by : Numbering) (text : List ℕ) (old new : List DobutsuMove) (count number : ℕ) : Type 0 where
  pub exact : IsIndexFor file by → AreExactMoves file text old new count number
  pub told_by : number ≡ 0 → (list : List ValuedMove) × AreToldMovesBy file text by list × AreWritten list old new × (count ≡ length list)
  pub refused_by : number ≢ 0 → (number ≡ 23) ⊎ ((fault : ByFault) × HasByFault file text by fault × (number ≡ number_by fault))
  pub unmarked : (format : Format) (family : Family) (setup : Setup) → AreRead file text format family setup → ¬ IsMarkedBy by family → number ≡ 29
