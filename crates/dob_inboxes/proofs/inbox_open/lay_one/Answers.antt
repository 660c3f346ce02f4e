-- Each of the new inbox's ends has an outlet, and its taking end the inlet, with nothing sent or taken and empty slots.
use Rattle.dob_inboxes.proofs.Inboxes.{one_laid}
use Rattle.dob_inboxes.proofs.inbox_open.lay_one.Goals as goal

pub returns : goal.returns
returns c =
    let new = c.in_ok-sends.ensures in
    one_laid c.args.capacity c.args.nodes c.in_ok-sends.sends.items c.in_ok-sends.take c.in_ok-outlets.outlets.items c.new.result new.senders.0 new.senders.1 new.opened new.nothing
    c.in_ok-outlets.ensures c.new.ensures.end c.new.ensures.slot
