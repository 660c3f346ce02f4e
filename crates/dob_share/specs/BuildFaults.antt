-- What each fault of a world or a build by threads is called.
use Rattle.std.specs.Prelude.{ℕ, List, codes}
use Rattle.dob_pieces.specs.Faults.{memory_text}
use Rattle.dob_safra.specs.Faults.{nodes_text}
use Rattle.dob_share.specs.Causes.{stopped_text}
use Rattle.dob_share.specs.declared.build_fault.BuildFault.{BuildFault}
use Rattle.dob_share.specs.declared.build_fault.BuildFault.TheVariants.{Nodes, Sizes, Stopped, Memory}

-- the fault's number and name, and of a stopped node which one and why
abbrev pub fault_text : BuildFault → List ℕ
fault_text Nodes = nodes_text
fault_text Sizes = codes "E10 Sizes"
fault_text (Stopped node why) = stopped_text node why
fault_text Memory = memory_text
