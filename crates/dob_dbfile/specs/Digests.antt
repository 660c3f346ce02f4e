-- What the digest of a table's file is made of, part after part.
use Rattle.std.specs.Prelude.{ℕ, List, ◌++◌}
use Rattle.sha2.specs.Hashers.{Holds256}
use Rattle.dob_pieces.specs.declared.profile.Family.{Family}
use Rattle.dob_dbfile.specs.declared.digest.FileHasher.{FileHasher}
use Rattle.dob_dbfile.specs.Format.{code_bytes, front_of}

-- it has taken the header of a file of so many classes of the family, and the records that the codes are
pub record HasTaken (taken : FileHasher) (family : Family) (count : ℕ) (codes : List ℕ) : Type 0 where
  pub held : Holds256 taken.hasher (front_of family count ++ code_bytes codes)
