-- Where the line breaks off its class is the fault, and a consistent table gives the best line, or lack of memory.
use Rattle.dob_probe.proofs.Common.{Global, Vec, Move}
use Rattle.dob_probe.proofs.Ways.{break_answered}
use Rattle.dob_probe.proofs.Best.{best_answered}
use Rattle.dob_probe.proofs.lines.line.Goals as goal

pub returns-clause-broken : goal.returns-clause-broken
returns-clause-broken c = λ class is breaks.
    break_answered (λ (v : Vec Move Global). v.items) c.args.table.now c.args.position.now.setup class c.line_from.result
    c.line_from.ensures.line c.line_from.ensures.fault is breaks

pub returns-clause-right : goal.returns-clause-right
returns-clause-right c = λ consistent is.
    best_answered (λ (v : Vec Move Global). v.items) c.args.table.now c.args.position.now.setup c.line_from.result
    c.line_from.ensures.line c.line_from.ensures.fault consistent is
