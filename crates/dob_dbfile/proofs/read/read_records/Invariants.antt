-- The codes and the digest are of the bytes read so far.
use Rattle.dob_dbfile.proofs.Common.{◌*◌, ◌-◌, ◌<◌, ◌≡◌, ◌≤◌, [], length, All, Stream, after, HashesNext, ReadsCodes}
use Rattle.dob_dbfile.proofs.read.read_records.Given as goal

-- so many records were read, and the hasher has had their bytes
abbrev pub invariant-records : goal.invariant-records
invariant-records g l =
    (length l.codes ≤ l.count)
    × (length l.room ≡ 4096)
    × All (λ code. code < 65536) l.codes
    × (g.R.Source.has_failed l.source ≡ g.R.Source.has_failed l.initial.source)
    × ((stream : Stream) → g.R.Source.gives l.initial.source stream →
    ReadsCodes stream (2 * length l.codes) [] l.codes
    × g.R.Source.gives l.source (after (2 * length l.codes) stream)
    × HashesNext stream (2 * length l.codes) l.initial.hasher l.hasher)

abbrev pub decreases-records : goal.decreases-records
decreases-records g l = l.count - length l.codes
