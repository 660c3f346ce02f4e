-- The table read is that of the file, and a fault is given just where it holds.
use Rattle.dob_dbfile.proofs.Common.{◌≡◌, false, IfOk-weaker, ClassTable, whole, PassesAll, IsFile}
use Rattle.dob_dbfile.proofs.Places.{exact_as}
use Rattle.dob_dbfile.proofs.Written.{read_back}
use Rattle.dob_dbfile.proofs.read.read_table.Goals as goal

pub returns-clause-read : goal.returns-clause-read
returns-clause-read g c = λ stream gives.
    IfOk-weaker c.read_file.result (λ (t : ClassTable). (stream.fails ≡ false) × IsFile stream.bytes t × PassesAll stream)
    (λ (t : ClassTable). (stream.fails ≡ false) × IsFile stream.bytes t)
    (λ t all. (all.0, all.1)) (c.read_file.ensures.read stream gives)

pub returns-clause-exact : goal.returns-clause-exact
returns-clause-exact g c = λ stream fault gives holds.
    exact_as stream c.read_file.result
    (IfOk-weaker c.read_file.result (λ (t : ClassTable). (stream.fails ≡ false) × IsFile stream.bytes t × PassesAll stream)
    (λ (t : ClassTable). PassesAll stream)
    (λ t all. all.2) (c.read_file.ensures.read stream gives))
    (c.read_file.ensures.fault stream gives) fault holds

pub returns-clause-whole : goal.returns-clause-whole
returns-clause-whole g c = λ table bytes is file gives.
    read_back table bytes c.read_file.result is file (c.read_file.ensures.read (whole bytes) gives)
    c.read_file.ensures.table (c.read_file.ensures.fault (whole bytes) gives)
