-- one end more is opened
use Rattle.dob_chan.proofs.Common.{length, rules, subst, sym, ruled_capacity, AreOpened, IsEndOpened}
use Rattle.dob_chan.proofs.EndsOpened.{one_opened}
use Rattle.dob_chan.proofs.inboxes.open_all.Goals as goal

pub loop-from-preserved : goal.loop-from-preserved
loop-from-preserved c =
    let capacity = ruled_capacity c.args.inbox.now.value in
    let one : IsEndOpened c.loop-from.pass capacity c.args.nodes (length c.loop-from.sends.items) c.in_ok-send.send = subst (λ k. IsEndOpened c.loop-from.pass capacity c.args.nodes k c.in_ok-send.send) (sym c.loop-from.invariant.3) (search rules) in
    let all = one_opened c.loop-from.pass c.open_next.new.pass capacity c.args.nodes c.loop-from.sends.items c.in_ok-send.send (search rules) c.loop-from.invariant.4 one in
    (search rules, search rules, search rules, search rules, subst (AreOpened c.open_next.new.pass capacity c.args.nodes) (search rules) all)
