-- What follows from the statuses or is stored at the place is read as the settlement of that number, and the history is as it was.
use Rattle.std.proofs.Common.{sym}
use Rattle.dob_history.proofs.Starts.{start_entry}
use Rattle.dob_history.proofs.Stored.{got_start, stored_there, got_stored}
use Rattle.dob_history.proofs.history.History.reach.Goals as goal

pub start_news-requires-clause-now : goal.start_news-requires-clause-now
start_news-requires-clause-now c = start_entry _ _ c.reach-start.ensures.value

pub returns-then-number-first-clause-get : goal.returns-then-number-first-clause-get
returns-then-number-first-clause-get c =
    let h = c.self.inside in
    got_start h.nodes h.id h.room h.count h.starts h.stored c.self.invariant.1 c.self.view_is c.args.number c.reach-start.result.place
    c.reach-start.result.now c.start_news.result c.reach-start.ensures.place c.reach-start.ensures.number c.reach-start.ensures.value
    c.start_news.ensures

pub get-stored-requires : goal.get-stored-requires
get-stored-requires c =
    let h = c.self.inside in
    stored_there h.nodes h.id h.room h.count h.starts h.stored c.self.invariant.1 c.self.view_is c.args.number c.settled-first.result c.requires
    c.settled-first.ensures.count c.if-number-first.false

pub returns-clause-get : goal.returns-clause-get
returns-clause-get c =
    let h = c.self.inside in
    got_stored h.nodes h.id h.room h.count h.starts h.stored c.self.invariant.1 c.self.view_is c.args.number c.settled-first.result c.requires
    c.settled-first.ensures.count c.if-number-first.false c.get-stored.result c.stored_news.result c.get-stored.ensures.get
    (sym c.stored_news.ensures)
