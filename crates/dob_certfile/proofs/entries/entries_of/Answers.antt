-- One entry more.
use Rattle.dob_certfile.proofs.Common.{arith, err_from_is_err_and, entries_at}
use Rattle.dob_certfile.proofs.Lists.{goes_on, ends, is_done}
use Rattle.dob_certfile.proofs.Files.{read_ascends}
use Rattle.dob_certfile.proofs.entries.entries_of.Goals as goal

pub returns-in_err-entry-clause-read : goal.returns-in_err-entry-clause-read
returns-in_err-entry-clause-read c =
    let p = err_from_is_err_and c.from_residual.result c.from_residual.ensures.1 in
    rw (p.1, p.2) (ends c.args.kind c.args.classes c.loop.least c.in_err-entry.field-0.0 c.loop.entries.items c.args.count c.loop.counter c.loop.rest.now (entries_at c.args.kind c.args.classes 0 c.args.count c.args.bytes.now) c.loop-test.true c.in_err-entry.ensures.read c.loop.invariant.0)

pub loop-preserved : goal.loop-preserved
loop-preserved c = (
  rw c.in_ok-push.ensures.items (goes_on c.args.kind c.args.classes c.loop.least c.loop.entries.items c.args.count c.loop.counter c.loop.rest.now c.in_ok-entry.entry c.in_ok-entry.after.now (entries_at c.args.kind c.args.classes 0 c.args.count c.args.bytes.now) c.loop-test.true c.in_ok-entry.ensures.read c.loop.invariant.0),
  omega (arith, c.in_ok-entry.ensures.within),
)

pub returns-clause-read : goal.returns-clause-read
returns-clause-read c = is_done c.args.kind c.args.classes c.loop.least c.loop.entries.items c.args.count c.loop.counter c.loop.rest.now (entries_at c.args.kind c.args.classes 0 c.args.count c.args.bytes.now) c.loop-test.false c.loop.invariant.0

pub returns-clause-ascending : goal.returns-clause-ascending
returns-clause-ascending c =
    read_ascends c.args.kind c.args.classes c.args.count c.args.bytes.now c.loop.rest.now c.loop.entries.items (λ i. omega (arith, c.type_inv.bytes i))
    (is_done c.args.kind c.args.classes c.loop.least c.loop.entries.items c.args.count c.loop.counter c.loop.rest.now (entries_at c.args.kind c.args.classes 0 c.args.count c.args.bytes.now) c.loop-test.false c.loop.invariant.0)
