-- The ends are still those of their inbox after all offers.
use Rattle.std.proofs.Common.{rules}
use Rattle.dob_chan.specs.Ends.{AreEndsOf}
use Rattle.dob_chan.proofs.Staying.{ends_stay, still_on}
use Rattle.dob_tests_threads.proofs.chan.two_senders_share_an_inbox_for_two.Goals as goal

pub rejoin_inbox-joined-requires : goal.rejoin_inbox-joined-requires
rejoin_inbox-joined-requires g c =
    let opened = c.expect-sends.result.0.items in
    let once = c.offer_by_sender.new.sends.items in
    let twice = c.offer_by_sender-2.new.sends.items in
    let last = c.makes_room.new.sends.items in
    let ends : AreEndsOf c.expect-sends.result.1 opened = search rules in
    ends_stay c.expect-sends.result.1 c.makes_room.new.take opened last c.makes_room.ensures.take
    (still_on opened twice last (still_on opened once twice c.offer_by_sender.ensures c.offer_by_sender-2.ensures) c.makes_room.ensures.sends) ends
