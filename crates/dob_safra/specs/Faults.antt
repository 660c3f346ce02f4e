-- What the fault of a ring's size is called.
use Rattle.std.specs.Prelude.{ℕ, List, codes}

-- of a number of nodes that no ring has
abbrev pub nodes_text : List ℕ
nodes_text = codes "E9 Nodes"
