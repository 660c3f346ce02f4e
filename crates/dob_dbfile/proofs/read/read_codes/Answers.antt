-- The codes are those of the records that the stream has.
use Rattle.dob_dbfile.proofs.Common.{[], err_from_is_err_and}
use Rattle.dob_dbfile.proofs.Pieces.{ends_with, failed_later, rest_wrong}
use Rattle.dob_dbfile.proofs.read.read_codes.Goals as goal

pub returns-clause-read : goal.returns-clause-read
returns-clause-read g c = λ stream gives.
    let read = c.in_ok-codes.ensures.codes stream gives in
    let holds = c.in_ok-codes.ensures.hashed stream gives _ (c.update.ensures [] c.new-hasher.ensures) in
    let digest = c.in_ok-expect_digest.ensures.is _ _ read.1 holds in
    ends_with stream c.args.header.now c.in_ok-codes.codes c.args.count (c.in_ok-codes.ensures.counted) read.0 digest

pub returns-in_err-expect_digest-clause-fault : goal.returns-in_err-expect_digest-clause-fault
returns-in_err-expect_digest-clause-fault g c = λ stream gives.
    let p = err_from_is_err_and c.from_residual-in_err-expect_digest.result c.from_residual-in_err-expect_digest.ensures.1 in
    let read = c.in_ok-codes.ensures.codes stream gives in
    let holds = c.in_ok-codes.ensures.hashed stream gives _ (c.update.ensures [] c.new-hasher.ensures) in
    rw (p.1, p.2) (rest_wrong stream c.args.header.now c.args.count _ read.0.within (c.in_err-expect_digest.ensures.fault _ _ read.1 holds))

pub returns-in_err-expect_digest-clause-failed : goal.returns-in_err-expect_digest-clause-failed
returns-in_err-expect_digest-clause-failed g c =
    let p = err_from_is_err_and c.from_residual-in_err-expect_digest.result c.from_residual-in_err-expect_digest.ensures.1 in
    rw (p.1, p.2) (failed_later _ _ _ _ c.in_ok-codes.ensures.failed c.in_err-expect_digest.ensures.failed)
