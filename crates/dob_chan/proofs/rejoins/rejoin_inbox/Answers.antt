-- there is a room for what is left of each sender, and it is filled with that
use Rattle.dob_chan.proofs.Common.{◌∙◌, ap, rules, subst, sym, AreFilled, AreRoomy, Note}
use Rattle.dob_chan.proofs.Rejoinings.{HasRooms, rooms_are_wide, all_rejoined}
use Rattle.dob_chan.proofs.rejoins.rejoin_inbox.Goals as goal
use Rattle.dob_chan.proofs.rejoins.rejoin_inbox.Goals.{In-Ok}

rooms : (g : _) (c : In-Ok g) → HasRooms c.args.sends.items c.args.take c.in-Ok.joined.items
rooms g c = record { count = c.requires.0 ∙ ap (λ v. v.senders) c.args.take.role; many = search rules; all = search rules }

pub take_left-requires-clause-room : goal.take_left-requires-clause-room
take_left-requires-clause-room g c = subst (λ (v : Note). AreRoomy v.ended v.taken c.in-Ok.joined.items) (sym c.end_all.ensures.role)
    (rooms_are_wide c.args.sends.items c.args.take c.in-Ok.joined.items (rooms g (goal.at.take_left-requires-clause-room g c).In-Ok))

pub returns-clause-joined : goal.returns-clause-joined
returns-clause-joined g c = all_rejoined c.args.sends.items c.args.take c.in-Ok.joined.items c.take_left.new.joined.items c.requires
    (rooms g (goal.at.returns-clause-joined g c).In-Ok)
    (subst (λ (v : Note). AreFilled v.ended v.taken c.in-Ok.joined.items c.take_left.new.joined.items) c.end_all.ensures.role c.take_left.ensures)
