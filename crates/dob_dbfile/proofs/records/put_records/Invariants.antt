-- The records of the codes so far stand, and there is room for the rest.
use Rattle.dob_dbfile.proofs.Common.{◌*◌, ◌++◌, ◌-◌, ◌≡◌, ◌≤◌, take, vec_capacity, vec_len, code_bytes}
use Rattle.dob_dbfile.proofs.records.put_records.Given as goal

abbrev pub invariant-loop-class : goal.invariant-loop-class
invariant-loop-class l =
    (code_bytes (take l.first l.codes) ++ l.bytes.items ≡ code_bytes (take l.class l.codes))
    × (vec_len l.bytes ≡ 2 * (l.class - l.first))
    × (vec_capacity l.initial.bytes ≤ vec_capacity l.bytes)
    × (l.first ≤ l.class)
