-- Why a board and hands are no position.
use Rattle.dobutsu_c.proofs.Common.{◌↔◌, ◌≡◌, Err, IsErrOf, List, Result, Some, PositionFault, Hands, Position}
use Rattle.dob_pieces.specs.declared.fault.PositionFault.TheVariants.{Lions, Count, FarLion}
use Rattle.dob_pieces.specs.Faults.{HasPositionFault}
use Rattle.dob_pieces.specs.Setups.{Cell, HasLions, HasFewPieces, HasLionOffFarRow, setup_of}
use Rattle.std.proofs.Common.{arith}

pub fault_holds : (r : Result Position PositionFault) (board : List Cell) (hands : Hands) (fault : PositionFault) → r ≡ Err fault
    → (IsErrOf r Lions ↔ (HasLions (setup_of board hands) → ⊥))
    → (IsErrOf r Count ↔ (HasLions (setup_of board hands) × (HasFewPieces (setup_of board hands) → ⊥)))
    → (IsErrOf r FarLion ↔ (HasLions (setup_of board hands) × HasFewPieces (setup_of board hands) × (HasLionOffFarRow (setup_of board hands) → ⊥)))
    → HasPositionFault (setup_of board hands) (Some fault)
fault_holds r board hands fault is lions count far = grind arith
