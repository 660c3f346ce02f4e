-- By one byte, and the number that the bytes after it stand for.
use Rattle.dob_certfile.proofs.Common.{◌-◌, arith, err_from_is_err_and}
use Rattle.dob_certfile.proofs.Fields.{number_err, number_low, number_last, number_more_err, number_zero, number_more, low_room, high_room, limit_small}
use Rattle.dob_certfile.proofs.numbers.+number_of.Goals as goal

pub returns-in_err-low-clause-read : goal.returns-in_err-low-clause-read
returns-in_err-low-clause-read t c =
    let p = err_from_is_err_and c.from_residual.result c.from_residual.ensures.1 in
    rw (p.1, p.2) (number_err c.args.more c.args.bytes.now c.in_err-low.field-0.0 c.in_err-low.ensures.read)

pub returns-then-low-lt128-clause-read : goal.returns-then-low-lt128-clause-read
returns-then-low-lt128-clause-read t c = number_low c.args.more c.args.bytes.now c.in_ok-low.low c.in_ok-low.rest.now c.in_ok-low.ensures.read c.if-low-lt128.true

pub returns-then-low-lt128-clause-small : goal.returns-then-low-lt128-clause-small
returns-then-low-lt128-clause-small t c = low_room c.args.more c.in_ok-low.low c.if-low-lt128.true

pub returns-then-more-eq0-clause-read : goal.returns-then-more-eq0-clause-read
returns-then-more-eq0-clause-read t c = number_last c.args.more c.args.bytes.now c.in_ok-low.low c.in_ok-low.rest.now c.in_ok-low.ensures.read c.if-low-lt128.false c.if-more-eq0.true

pub returns-in_err-high-clause-read : goal.returns-in_err-high-clause-read
returns-in_err-high-clause-read t c =
    let p = err_from_is_err_and c.from_residual-in_err-high.result c.from_residual-in_err-high.ensures.1 in
    rw (p.1, p.2) (number_more_err c.args.more c.args.bytes.now c.in_ok-low.low c.in_ok-low.rest.now c.in_ok-low.ensures.read c.if-low-lt128.false (omega (arith, c.if-more-eq0.false)) c.in_err-high.field-0.0 c.in_err-high.ensures.read)

pub returns-then-high-eq0-clause-read : goal.returns-then-high-eq0-clause-read
returns-then-high-eq0-clause-read t c =
    number_zero c.args.more c.args.bytes.now c.in_ok-low.low c.in_ok-low.rest.now c.in_ok-low.ensures.read c.if-low-lt128.false (omega (arith, c.if-more-eq0.false)) c.in_ok-high.high c.in_ok-high.rest.now c.in_ok-high.ensures.read c.if-high-eq0.true

pub overflow_mul-result : goal.overflow_mul-result
overflow_mul-result t c = omega (arith, limit_small (c.args.more - 1) (omega (arith, c.requires)), c.in_ok-high.ensures.small)

pub overflow_add-result : goal.overflow_add-result
overflow_add-result t c = omega (arith, limit_small (c.args.more - 1) (omega (arith, c.requires)), c.in_ok-high.ensures.small, c.in_ok-low.ensures.small)

pub returns-clause-read : goal.returns-clause-read
returns-clause-read t c =
    number_more c.args.more c.args.bytes.now c.in_ok-low.low c.in_ok-low.rest.now c.in_ok-low.ensures.read c.if-low-lt128.false (omega (arith, c.if-more-eq0.false)) c.in_ok-high.high c.in_ok-high.rest.now c.in_ok-high.ensures.read c.if-high-eq0.false

pub returns-clause-small : goal.returns-clause-small
returns-clause-small t c = high_room c.args.more c.in_ok-low.low c.in_ok-high.high (omega (arith, c.if-more-eq0.false)) c.in_ok-low.ensures.small c.in_ok-high.ensures.small
