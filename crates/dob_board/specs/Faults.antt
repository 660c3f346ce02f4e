-- What each fault of opening a board is called.
use Rattle.std.specs.Prelude.{List, ℕ}
use Rattle.dob_pieces.specs.Faults.{memory_text}
use Rattle.dob_safra.specs.Faults.{nodes_text}
use Rattle.dob_board.specs.declared.fault.Fault.{Fault}
use Rattle.dob_board.specs.declared.fault.Fault.TheVariants.{Nodes, Memory}

-- the fault's number and name
abbrev pub fault_text : Fault → List ℕ
fault_text Nodes = nodes_text
fault_text Memory = memory_text
