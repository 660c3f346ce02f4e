-- Why a board and hands are no position.
use Rattle.std.specs.Prelude.{ℕ, List, Option, Some, None, codes}
use Rattle.dob_pieces.specs.declared.fault.PositionFault.{PositionFault}
use Rattle.dob_pieces.specs.declared.fault.PositionFault.TheVariants.{Lions, Count, FarLion}
use Rattle.dob_pieces.specs.declared.setup.Setup.{Setup}
use Rattle.dob_pieces.specs.Setups.{HasLions, HasFewPieces, HasLionOffFarRow, IsLegal}

-- the test that the fault names fails, and those before it hold; without a fault all hold
abbrev pub HasPositionFault : Setup → Option PositionFault → Type 0
HasPositionFault setup None = IsLegal setup
HasPositionFault setup (Some Lions) = ¬ HasLions setup
HasPositionFault setup (Some Count) = HasLions setup × ¬ HasFewPieces setup
HasPositionFault setup (Some FarLion) = HasLions setup × HasFewPieces setup × ¬ HasLionOffFarRow setup

-- what is printed of it
abbrev pub fault_text : PositionFault → List ℕ
fault_text Lions = codes "E4 Lions"
fault_text Count = codes "E5 Count"
fault_text FarLion = codes "E6 FarLion"

-- of the fault for lack of memory
abbrev pub memory_text : List ℕ
memory_text = codes "E23 Memory"

-- of the fault of a text that is no set's
abbrev pub set_fault_text : List ℕ
set_fault_text = codes "E25 SetText"

-- of the fault of a chick on its own far row
abbrev pub far_chick_text : List ℕ
far_chick_text = codes "E26 FarChick"
