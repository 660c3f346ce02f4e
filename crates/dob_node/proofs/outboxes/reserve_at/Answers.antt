-- What is to be sent stays.
use Rattle.dob_node.proofs.Common.{OutboxState, ap, ◌∙◌}
use Rattle.std.proofs.Math.Seq.{map-set_same}
use Rattle.dob_node.proofs.outboxes.reserve_at.Goals as goal

pub returns-clause-sends : goal.returns-clause-sends
returns-clause-sends c = map-set_same (λ (o : OutboxState). o.sends) c.args.outboxes.now.items c.args.to c.reserve.new.self c.index_mut-outbox.result.now
    (c.reserve.ensures.sends ∙ ap (λ (o : OutboxState). o.sends) c.index_mut-outbox.ensures.value)
