-- the next sender's room goes last
use Rattle.dob_chan.proofs.Common.{◌++◌, ◌∷◌, ◌≡◌, [], length, rules, slice_index, subst, sym, Some, slice_get, read_there, AreRooms, HasRoom}
use Rattle.dob_chan.proofs.Rejoinings.{one_room}
use Rattle.dob_chan.proofs.rejoins.make_rooms.Goals as goal

pub loop-from-preserved : goal.loop-from-preserved
loop-from-preserved c =
    let inv = c.loop-from.invariant in
    let sends = c.args.sends.now in
    let rooms = c.loop-from.rooms.items in
    let send = c.index-sends-from.result in
    let at : slice_get sends (length rooms) ≡ Some send = subst (λ k. slice_get sends k ≡ Some send) (sym inv.0) (read_there sends c.loop-from.from send (search rules) (search rules)) in
    let has : HasRoom send.sent (slice_index c.args.taken.now (length rooms)) c.in_ok-room.room =
    subst (λ k. HasRoom send.sent (slice_index c.args.taken.now k) c.in_ok-room.room) (sym inv.0) (search rules) in
    let more : AreRooms sends c.args.taken.now (rooms ++ c.in_ok-room.room ∷ []) = one_room sends c.args.taken.now rooms c.in_ok-room.room send at has inv.2 in
    (search rules, search rules, subst (AreRooms sends c.args.taken.now) (sym c.in_ok-push.ensures.items) more)
