-- Each part of the file that is read gives its faults, and the last one the values.
use Rattle.dob_dbfile.proofs.Common.{◌∙◌, ◌≡◌, List, false, length, subst, sym, take, ℕ, err_from_is_err_and, classes_of, ClassTable, Stream, after, PassesAll}
use Rattle.dob_dbfile.proofs.Common.{header_len, IsFile, EndsWith, HasRestFault}
use Rattle.dob_dbfile.proofs.Verdicts.{front, head_is, rest_fault, right_file, right_digest}
use Rattle.dob_dbfile.proofs.read.read_file.Goals as goal
use Rattle.dob_dbfile.proofs.read.read_file.Goals.{After-header_len}

-- the header that was read is the stream's
head : (g : _) (c : After-header_len g) (stream : Stream) → g.R.Source.gives c.args.source.now stream
    → take c.header_len.result c.read_header.new.room ≡ front c.in_ok-format.field-0.format stream
head g c stream gives = head_is stream c.in_ok-format.field-0.format c.header_len.result c.read_header.new.room c.read_header.auto.room c.header_len.ensures
    (c.in_ok-format.ensures.taken stream gives).0

pub returns-in_err-codes-clause-memory : goal.returns-in_err-codes-clause-memory
returns-in_err-codes-clause-memory g c = λ stream gives.
    let p = err_from_is_err_and c.from_residual-in_err-codes.result c.from_residual-in_err-codes.ensures.1 in
    rw (p.1) (λ _. (c.in_ok-format.field-0.format, c.in_ok-format.field-0.classes.family, c.in_ok-format.ensures.counted stream gives))

pub returns-in_err-codes-clause-fault : goal.returns-in_err-codes-clause-fault
returns-in_err-codes-clause-fault g c = λ stream gives.
    let was = err_from_is_err_and c.from_residual-in_err-codes.result c.from_residual-in_err-codes.ensures.1 in
    let format = c.in_ok-format.field-0.format in
    let later : Stream = after (header_len format) stream in
    let given = c.in_err-codes.field-0.0 in
    let wrong = subst (λ (n : ℕ). HasRestFault (front format stream) n later given) c.class_count.ensures.number
    (subst (λ (h : List ℕ). HasRestFault h c.class_count.result later given) (head g (goal.at.returns-in_err-codes-clause-fault g c).After-header_len stream gives)
    (c.in_err-codes.ensures.fault later (c.in_ok-format.ensures.taken stream gives).1)) in
    rw (was.1, was.2) (rest_fault stream format c.in_ok-format.field-0.classes.family given (c.in_ok-format.ensures.counted stream gives) wrong)

pub returns-clause-read : goal.returns-clause-read
returns-clause-read g c = λ stream gives.
    let header = c.in_ok-format.field-0 in
    let family = header.classes.family in
    let codes = c.in_ok-codes.codes in
    let counts = c.in_ok-format.ensures.counted stream gives in
    let behind : Stream = after (header_len header.format) stream in
    let counted : length codes ≡ classes_of family = c.in_ok-codes.ensures.counted ∙ c.class_count.ensures.number in
    let ends = subst (λ (h : List ℕ). EndsWith h codes behind) (head g (goal.at.returns-clause-read g c).After-header_len stream gives)
    (c.in_ok-codes.ensures.read behind (c.in_ok-format.ensures.taken stream gives).1) in
    subst (λ (t : ClassTable). (stream.fails ≡ false) × IsFile stream.bytes t × PassesAll stream) (sym c.new.ensures) (
      ends.ends,
      right_file stream header.format family codes counts counted ends,
      (header.format, family, right_digest stream header.format family codes counts counted ends),
    )
