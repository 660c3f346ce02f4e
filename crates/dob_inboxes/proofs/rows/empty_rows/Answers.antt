-- Each push is one empty row more, and at the end there are as many as were asked for.
use Rattle.dob_inboxes.proofs.Common.{rules, subst, ℕ, AreRows}
use Rattle.dob_inboxes.proofs.Rowed.{no_rows, row_added}
use Rattle.dob_inboxes.proofs.rows.empty_rows.Goals as goal

pub loop-init : goal.loop-init
loop-init g c = no_rows 0 c.in_ok-rows.rows.items (search rules)

pub loop-preserved : goal.loop-preserved
loop-preserved g c = row_added c.loop.counter c.loop.rows.items c.push.new.self.items c.new.result c.loop.invariant c.in_ok-push.ensures.items (search rules)

pub returns : goal.returns
returns g c = subst (λ (k : ℕ). AreRows k 0 c.loop.rows.items) (search rules) c.loop.invariant
