-- Nothing is left where each list is empty.
use Rattle.dob_node.proofs.Common.{arith, common_steps, rules, sends_of}
use Rattle.dob_node.proofs.Sends.{all_empty, all_sent, empty_all, sent_all}
use Rattle.dob_node.proofs.node.Node.is_idle.Goals as goal

pub returns-then-not-is_empty : goal.returns-then-not-is_empty
returns-then-not-is_empty c = (λ no. absurd cc, λ idle. let none = idle.applied in grind (arith, common_steps, c.if-not-is_empty.ensures, none))

pub returns : goal.returns
returns c =
    let core = c.self.inside.core in
    rw (← c.self.view_is) (
      λ yes. record {
        expanded = search rules;
        applied = grind (arith, common_steps, c.if-not-is_empty.ensures);
        sent = λ to. all_empty (sends_of core.outboxes.items) (sent_all core.outboxes.items (rw c.deref.ensures.value at (c.are_empty.ensures.0 yes))) core.family core.nodes core.id to;
      },
      λ idle. c.are_empty.ensures.1 (rw c.deref.ensures.value (all_sent core.outboxes.items (empty_all (sends_of core.outboxes.items) core.family core.nodes core.id idle.sent))),
    )
