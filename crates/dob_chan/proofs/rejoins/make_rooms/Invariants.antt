-- there is a room for each sender gone over
use Rattle.dob_chan.proofs.Common.{◌≡◌, ◌≤◌, length, AreRooms}
use Rattle.dob_chan.proofs.rejoins.make_rooms.Given as goal

abbrev pub invariant-loop-from : goal.invariant-loop-from
invariant-loop-from l = (length l.rooms.items ≡ l.from) × (l.from ≤ length l.sends) × AreRooms l.sends l.taken l.rooms.items
