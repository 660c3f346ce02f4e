-- as many ends as turns were opened
use Rattle.dob_chan.proofs.Common.{◌≡◌, ◌≤◌, [], length, IsSamePass, ruled_capacity, view, AreOpened, taking, untold}
use Rattle.dob_chan.proofs.inboxes.open_all.Given as goal

abbrev pub invariant-loop-from : goal.invariant-loop-from
invariant-loop-from l = IsSamePass l.initial.pass l.pass × (view l.pass ≡ taking l.nodes l.from [] [] untold) × (l.from ≤ l.nodes)
    × (length l.sends.items ≡ l.from) × AreOpened l.pass (ruled_capacity l.inbox.value) l.nodes l.sends.items
