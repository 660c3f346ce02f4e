-- The header and the records of all codes are hashed.
use Rattle.dob_dbfile.proofs.Common.{◌++◌, ◌∙◌, length, code_bytes, front_of}
use Rattle.dob_dbfile.proofs.FileBytes.{digest_of_codes}
use Rattle.dob_dbfile.proofs.digest.FileHasher.end.Goals as goal

pub returns : goal.returns
returns c = λ family codes taken. c.finalize.ensures (front_of family (length codes) ++ code_bytes codes) taken.held ∙ digest_of_codes family codes
