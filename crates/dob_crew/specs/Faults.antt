-- Why no crew is opened.
use Rattle.std.specs.Prelude.{ℕ}
use Rattle.dob_update.specs.Batches.{AreSizes}
use Rattle.dob_safra.specs.Laws.{IsSize}
use Rattle.dob_share.specs.declared.build_fault.BuildFault.{BuildFault}
use Rattle.dob_share.specs.declared.build_fault.BuildFault.TheVariants.{Nodes, Sizes, Stopped, Memory}

-- a crew may have so many nodes, such batches and such inboxes
abbrev pub AreWithin : ℕ → ℕ → ℕ → Type 0
AreWithin n batch capacity = IsSize n × AreSizes batch capacity

-- the first of these sizes that is outside its limits
abbrev pub HasSizeFault : ℕ → ℕ → ℕ → BuildFault → Type 0
HasSizeFault n batch capacity Nodes = ¬ IsSize n
HasSizeFault n batch capacity Sizes = IsSize n × (¬ AreSizes batch capacity)
HasSizeFault n batch capacity (Stopped node why) = ⊥
HasSizeFault n batch capacity Memory = ⊥

-- why no crew of these sizes is opened: one is outside its limits, or where all are within them memory is refused
abbrev pub HasCrewFault : ℕ → ℕ → ℕ → BuildFault → Type 0
HasCrewFault n batch capacity Nodes = HasSizeFault n batch capacity Nodes
HasCrewFault n batch capacity Sizes = HasSizeFault n batch capacity Sizes
HasCrewFault n batch capacity (Stopped node why) = ⊥
HasCrewFault n batch capacity Memory = AreWithin n batch capacity
