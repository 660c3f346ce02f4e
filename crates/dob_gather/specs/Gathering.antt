-- What the digest of a table's file has taken while the table is gathered.
use Rattle.std.specs.Prelude.{◌≡◌, ℕ, List, ◌++◌, Result, IfOk}
use Rattle.dob_pieces.specs.declared.profile.Family.{Family}
use Rattle.dob_pieces.specs.declared.memory.Memory.{Memory}
use Rattle.dob_dbfile.specs.Digests.{HasTaken}
use Rattle.dob_gather.specs.declared.gathering.Hashed.{Hashed}

-- the digest of a file of so many classes of the family has taken the codes that are listed
abbrev pub AreHashed : Family → ℕ → Hashed → Type 0
AreHashed family count hashed = HasTaken hashed.hasher family count hashed.codes

-- the codes join the list, and the digest takes them
pub record Takes (old : Hashed) (codes : List ℕ) (new : Result Hashed Memory) : Type 0 where
  pub listed : IfOk new (λ hashed. hashed.codes ≡ old.codes ++ codes)
  pub hashed : (family : Family) (count : ℕ) → AreHashed family count old → IfOk new (AreHashed family count)
