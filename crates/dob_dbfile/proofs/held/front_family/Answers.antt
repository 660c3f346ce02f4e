-- What the first bytes and the length are refused for is a fault of the file.
use Rattle.dob_dbfile.proofs.Common.{List, arith, ℕ, err_from_is_err_and, CountsClasses}
use Rattle.dob_dbfile.specs.Fronts.{IsFrontOf}
use Rattle.dob_dbfile.proofs.HeldBytes.{cut_off, goes_on, counts_by_front, fault_by_front}
use Rattle.dob_dbfile.proofs.held.front_family.Goals.{In_ok-format}
use Rattle.dob_dbfile.proofs.held.front_family.Goals as goal

-- what the first bytes count the file counts
counts : (c : In_ok-format) (file : List ℕ) → IsFrontOf c.args.front.now c.args.size file → CountsClasses c.in_ok-format.format c.in_ok-format.family file
counts c file is = counts_by_front c.args.front.now c.args.size file is c.in_ok-format.format c.in_ok-format.family c.in_ok-format.ensures.counted

pub returns-in_err-format-clause-fault : goal.returns-in_err-format-clause-fault
returns-in_err-format-clause-fault c = λ file is.
    let p = err_from_is_err_and c.from_residual.result c.from_residual.ensures.1 in
    rw (p.1, p.2) (fault_by_front c.args.front.now c.args.size file is c.in_err-format.field-0.0 c.in_err-format.ensures.front)

pub returns-then-size-wanted-clause-fault : goal.returns-then-size-wanted-clause-fault
returns-then-size-wanted-clause-fault c = λ file is.
    cut_off file c.in_ok-format.format c.in_ok-format.family (counts (goal.at.returns-then-size-wanted-clause-fault c).In_ok-format file is)
    (omega (arith, is.long, c.file_len-wanted.ensures, c.if-size-wanted.true))

pub returns-then-wanted-size-clause-fault : goal.returns-then-wanted-size-clause-fault
returns-then-wanted-size-clause-fault c = λ file is.
    goes_on file c.in_ok-format.format c.in_ok-format.family (counts (goal.at.returns-then-wanted-size-clause-fault c).In_ok-format file is)
    (omega (arith, is.long, c.file_len-wanted.ensures, c.if-wanted-size.true))

pub returns-else-wanted-size-clause-named : goal.returns-else-wanted-size-clause-named
returns-else-wanted-size-clause-named c = λ file is. (
  (
    counts (goal.at.returns-else-wanted-size-clause-named c).In_ok-format file is,
    omega (arith, is.long, c.file_len-wanted.ensures, c.if-size-wanted.false),
  ),
  omega (arith, is.long, c.file_len-wanted.ensures, c.if-wanted-size.false),
)
