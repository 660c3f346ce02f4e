-- What the line has, what was read and what the source still gives are all that there was; the line has no end yet.
use Rattle.std.proofs.Common.{◌≡◌, ◌-◌, ◌+◌, ◌++◌, ◌^◌, ℕ, List, drop, length, vec_len}
use Rattle.dob_device.specs.Devices.{whole}
use Rattle.dob_shelf.specs.Shelves.{LacksEnd}
use Rattle.dob_shelf.proofs.line_reader.LineReader.next_line.Given as goal

abbrev pub invariant-loop-self : goal.invariant-loop-self
invariant-loop-self g l =
    LacksEnd l.line.items
    × ((rest : List ℕ) → g.R.Source.gives l.fn.self.source (whole rest) → (left : List ℕ) × g.R.Source.gives l.self.source (whole left)
    × (drop l.fn.self.given l.fn.self.read.items ++ rest ≡ l.line.items ++ (drop l.self.given l.self.read.items ++ left)))
    × (g.R.Source.has_failed l.self.source ≡ g.R.Source.has_failed l.fn.self.source)

abbrev pub decreases-loop-self : goal.decreases-loop-self
decreases-loop-self g l = 2 ^ 64 - (vec_len l.line + length (drop l.self.given l.self.read.items))
