-- The codes of the records so far stand.
use Rattle.dob_dbfile.proofs.Common.{◌*◌, ◌++◌, ◌<◌, ◌≡◌, List, length, take, ℕ, All, code_bytes}
use Rattle.dob_dbfile.proofs.records.push_codes.Given as goal

-- so many records were read
abbrev pub invariant-loop-index : goal.invariant-loop-index
invariant-loop-index l =
    ((more : List ℕ) × (l.codes ≡ l.initial.codes ++ more) × (code_bytes more ≡ take (2 * l.index) l.records) × (length more ≡ l.index))
    × (All (λ code. code < 65536) l.initial.codes → All (λ code. code < 65536) l.codes)
