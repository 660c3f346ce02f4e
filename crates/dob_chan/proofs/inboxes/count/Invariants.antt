-- the inbox is for as many senders as there were turns
use Rattle.dob_chan.proofs.Common.{◌≡◌, ◌≤◌, [], IsPassOf, view, taking, untold}
use Rattle.dob_chan.proofs.inboxes.count.Given as goal

abbrev pub invariant-loop : goal.invariant-loop
invariant-loop l = IsPassOf l.inbox l.pass × (view l.pass ≡ taking l.counter 0 [] [] untold) × (l.counter ≤ l.nodes)
