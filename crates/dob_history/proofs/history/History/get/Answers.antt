-- What follows from the statuses or is stored at the place is read as the settlement of that number.
use Rattle.std.proofs.Common.{◌∙◌, sym}
use Rattle.dob_history.proofs.Starts.{start_entry}
use Rattle.dob_history.proofs.Stored.{got_start, stored_there, got_stored}
use Rattle.dob_history.proofs.history.History.get.Goals as goal

pub start_news-requires-clause-now : goal.start_news-requires-clause-now
start_news-requires-clause-now c = start_entry _ _ c.find-start.ensures.value

pub returns-then-number-first : goal.returns-then-number-first
returns-then-number-first c =
    let h = c.self.inside in
    got_start h.nodes h.id h.room h.count h.starts h.stored c.self.invariant.1 c.self.view_is c.args.number c.find-start.result.place
    c.find-start.result.now c.settlement.result c.find-start.ensures.place c.find-start.ensures.number c.find-start.ensures.value
    (c.settlement.ensures ∙ c.start_news.ensures)

pub get-stored-requires : goal.get-stored-requires
get-stored-requires c =
    let h = c.self.inside in
    stored_there h.nodes h.id h.room h.count h.starts h.stored c.self.invariant.1 c.self.view_is c.args.number c.settled-first.result c.requires
    c.settled-first.ensures.count c.if-number-first.false

pub returns : goal.returns
returns c =
    let h = c.self.inside in
    got_stored h.nodes h.id h.room h.count h.starts h.stored c.self.invariant.1 c.self.view_is c.args.number c.settled-first.result c.requires
    c.settled-first.ensures.count c.if-number-first.false c.get-stored.result c.settlement-2.result c.get-stored.ensures.get
    (sym (c.settlement-2.ensures ∙ c.stored_news.ensures))
