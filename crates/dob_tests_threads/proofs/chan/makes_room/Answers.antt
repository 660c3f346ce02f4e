-- The sending ends are still those of their inbox after both offers.
use Rattle.dob_chan.proofs.Staying.{still_on}
use Rattle.dob_tests_threads.proofs.chan.makes_room.Goals as goal

pub returns-clause-sends : goal.returns-clause-sends
returns-clause-sends g c = still_on c.args.sends.now.items c.offer_by_sender-back.new.sends.items c.offer_by_sender.new.sends.items
    c.offer_by_sender-back.ensures c.offer_by_sender.ensures
