-- Why a crew leaves nothing.
use Rattle.std.specs.Prelude.{ℕ, ◌<◌}
use Rattle.dob_share.specs.declared.build_fault.BuildFault.{BuildFault}
use Rattle.dob_share.specs.declared.build_fault.BuildFault.TheVariants.{Nodes, Sizes, Stopped, Memory}
use Rattle.dob_crew.specs.Faults.{AreWithin, HasCrewFault}

-- why a crew leaves nothing: none is opened, or one of its nodes has stopped
abbrev pub HasBuildFault : ℕ → ℕ → ℕ → BuildFault → Type 0
HasBuildFault n batch capacity Nodes = HasCrewFault n batch capacity Nodes
HasBuildFault n batch capacity Sizes = HasCrewFault n batch capacity Sizes
HasBuildFault n batch capacity (Stopped node why) = AreWithin n batch capacity × (node < n)
HasBuildFault n batch capacity Memory = HasCrewFault n batch capacity Memory
