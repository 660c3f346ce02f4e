-- The records of the codes so far have gone in; fewer are left each time.
use Rattle.dob_dbfile.proofs.Common.{◌-◌, ◌≤◌, take, vec_capacity, code_bytes, Writes, change}
use Rattle.dob_dbfile.proofs.write.write_records.Given as goal

abbrev pub invariant-pieces : goal.invariant-pieces
invariant-pieces g l =
    (l.class ≤ l.count)
    × (4096 ≤ vec_capacity l.piece)
    × Writes (change (g.W.Sink.state l.initial.sink) (g.W.Sink.state l.sink)) (code_bytes (take l.class l.codes))

abbrev pub decreases-pieces : goal.decreases-pieces
decreases-pieces g l = l.count - l.class
