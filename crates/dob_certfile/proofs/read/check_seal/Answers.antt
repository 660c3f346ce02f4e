-- The rest is the digest, or not.
use Rattle.dob_certfile.proofs.Common.{arith, iff_false}
use Rattle.dob_certfile.proofs.Files.{seal_right, seal_wrong}
use Rattle.dob_certfile.proofs.read.check_seal.Goals as goal

pub returns-then-are_same : goal.returns-then-are_same
returns-then-are_same c =
    seal_right c.args.bytes.now c.args.rest.now c.digest-digest.result c.saturating_sub.result (omega (arith, c.saturating_sub.ensures)) c.digest-digest.ensures
    (omega (arith, c.if-rest-lt-DIGEST_LEN.false)) (omega (arith, c.if-rest-gt-DIGEST_LEN.false)) (c.are_same.ensures.same.0 c.if-are_same.true)

pub returns-else-are_same : goal.returns-else-are_same
returns-else-are_same c =
    seal_wrong c.args.bytes.now c.args.rest.now c.digest-digest.result c.saturating_sub.result (omega (arith, c.saturating_sub.ensures)) c.digest-digest.ensures
    (omega (arith, c.if-rest-lt-DIGEST_LEN.false)) (omega (arith, c.if-rest-gt-DIGEST_LEN.false)) (iff_false c.are_same.ensures.same c.if-are_same.false)
