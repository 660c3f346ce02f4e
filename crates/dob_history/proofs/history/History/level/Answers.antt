-- What is stored at the place is the settlement of that number, and those before are on the first level.
use Rattle.dob_history.proofs.Common.{◌<◌, ◌∙◌, ◌≡◌, HistoryView, ap, arith, length, max, refl, same_Some, settlement_stored, settlements_from, slice_get}
use Rattle.dob_history.proofs.Common.{starts_count, starts_of, sym, take, ℕ}
use Rattle.dob_distance.specs.Distances.{plies_of}
use Rattle.dob_history.specs.Levels.{level_of}
use Rattle.dob_history.proofs.Starts.{start_level}
use Rattle.dob_history.proofs.Stored.{stored_there, got_stored}
use Rattle.dob_history.proofs.history.History.level.Goals as goal

pub returns-then-number-first : goal.returns-then-number-first
returns-then-number-first c = λ s there.
    let h = c.self.inside in
    let low : c.args.number < starts_count h.starts = omega (arith, c.settled-first.ensures.count, c.if-number-first.true) in
    sym (start_level h.nodes h.id c.args.number h.starts (settlements_from h.nodes h.id (length (starts_of h.nodes h.id h.starts)) (take h.count h.stored)) s low
    (ap (λ (v : HistoryView). slice_get v.settlements c.args.number) c.self.view_is ∙ there))

pub get-stored-requires : goal.get-stored-requires
get-stored-requires c =
    let h = c.self.inside in
    stored_there h.nodes h.id h.room h.count h.starts h.stored c.self.invariant.1 c.self.view_is c.args.number c.settled-first.result c.requires
    c.settled-first.ensures.count c.if-number-first.false

pub returns : goal.returns
returns c = λ s there.
    let h = c.self.inside in
    let stored = c.get-stored.result in
    let at = got_stored h.nodes h.id h.room h.count h.starts h.stored c.self.invariant.1 c.self.view_is c.args.number c.settled-first.result c.requires
    c.settled-first.ensures.count c.if-number-first.false stored _ c.get-stored.ensures.get refl in
    let same : settlement_stored h.nodes h.id c.args.number stored ≡ s = same_Some _ _ (sym at ∙ there) in
    c.max.ensures ∙ ap (λ (p : ℕ). max p 1) c.plies.ensures ∙ ap (λ v. max (plies_of v) 1) c.value_of_code.ensures.value ∙ ap level_of same
