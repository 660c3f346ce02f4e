-- The codes so far are taken; fewer are left each time.
use Rattle.dob_dbfile.proofs.Common.{◌++◌, ◌-◌, ◌≤◌, take, vec_capacity, ℕ, Family, Holds256, code_bytes, front_of}
use Rattle.dob_dbfile.proofs.digest.FileHasher.with.Given as goal
use Rattle.dob_dbfile.specs.Digests.{HasTaken}

abbrev pub invariant-pieces : goal.invariant-pieces
invariant-pieces l =
    (l.class ≤ l.count)
    × (4096 ≤ vec_capacity l.piece)
    × ((family : Family) (count : ℕ) → HasTaken l.fn.self family count (take l.first l.codes)
    → Holds256 l.hasher (front_of family count ++ code_bytes (take l.class l.codes)))

abbrev pub decreases-pieces : goal.decreases-pieces
decreases-pieces l = l.count - l.class
