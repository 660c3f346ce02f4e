-- What fits is taken, and what it makes is kept.
use Rattle.dob_history.proofs.Common.{◌++◌, ◌+◌, ◌∙◌, ◌≡◌, HasSettled, HistoryView, IsTaken, ap, listed, refl, rules, starts_count, subst, sym, take, ℕ}
use Rattle.dob_history.proofs.Stored.{seen, room_made, next_seen}
use Rattle.dob_history.proofs.Kepts.{IsNews, taken_by, news_is, news_seen, same_history, kept_still}
use Rattle.dob_history.proofs.history.History.take_seen.Goals.{In_ok-given, In-Some, In_default, After-store}
use Rattle.dob_history.proofs.history.History.take_seen.Goals as goal

-- the item is taken, whatever room is left
taken : (c : In_ok-given) (grown : HistoryView) →
    grown ≡ record c.args.self.now { settlements = c.args.self.now.settlements ++ listed c.in_ok-given.given; room = grown.room } →
    IsTaken c.args.item c.args.share.now c.apply_seen.new.self c.args.self.now grown
taken c grown is = taken_by c.args.share.now c.apply_seen.new.self c.args.item c.in_ok-given.given c.args.self.now grown c.requires.entries c.in_ok-given.ensures.applied is

-- the settlement that it makes can be stored
news : (c : In-Some) → IsNews c.self.inside.nodes c.self.inside.id (starts_count c.self.inside.starts + c.self.inside.count) c.in-Some.settlement
news c =
    let share = c.args.share.now in
    let after = c.apply_seen.new.self in
    let grown : HistoryView = record c.args.self.now { settlements = c.args.self.now.settlements ++ listed c.in_ok-given.given } in
    news_seen c.self.inside.nodes c.self.inside.id c.self.inside.room c.self.inside.count c.self.inside.starts c.self.inside.stored c.self.invariant.1
    c.self.view_is c.in-Some.settlement
    (news_is c.requires.kept.0 share.nodes share.id share after c.args.self.now grown c.args.item c.requires.kept.1
    (taken_by share after c.args.item c.in_ok-given.given c.args.self.now grown c.requires.entries c.in_ok-given.ensures.applied refl) c.in-Some.settlement
    (subst (λ given. HasSettled share after c.args.item.to given) c.in-Some.is c.in_ok-given.ensures.applied.settled))

-- where it is stored, the history has it behind its others
grown : (c : After-store) → IsNews c.self.inside.nodes c.self.inside.id (starts_count c.self.inside.starts + c.self.inside.count) c.in-Some.settlement →
    (left : ℕ) → seen c.self.inside.nodes c.self.inside.id left c.self.inside.starts (take (c.self.inside.count + 1) c.store.new.stored)
    ≡ record c.args.self.now { settlements = c.args.self.now.settlements ++ listed c.in_ok-given.given; room = left }
grown c is left =
    next_seen c.self.inside.nodes c.self.inside.id c.self.inside.room c.self.inside.count c.self.inside.starts c.self.inside.stored c.self.invariant.1
    c.self.view_is left c.room_for_one.new.stored c.store.new.stored c.in-Some.settlement c.room_for_one.ensures.same is.own is.number_is
    c.store.ensures.one_more
    ∙ ap (λ given. let view : HistoryView = record c.args.self.now { settlements = c.args.self.now.settlements ++ listed given; room = left } in view)
    (sym c.in-Some.is)

-- where there is none, it is as it was
same : (c : In_default) → seen c.self.inside.nodes c.self.inside.id c.self.inside.room c.self.inside.starts (take c.self.inside.count c.room_for_one.new.stored)
    ≡ record c.args.self.now { settlements = c.args.self.now.settlements ++ listed c.in_ok-given.given; room = c.self.inside.room }
same c =
    room_made c.self.inside.nodes c.self.inside.id c.self.inside.room c.self.inside.count c.self.inside.starts c.self.inside.stored c.self.invariant.1
    c.self.view_is c.self.inside.room c.room_for_one.new.stored c.room_for_one.ensures.same
    ∙ same_history (record c.args.self.now { room = c.self.inside.room })
    ∙ ap (λ given. let view : HistoryView = record c.args.self.now {
      settlements = c.args.self.now.settlements ++ listed given;
      room = c.self.inside.room;
    } in view) (sym c.in_default.is)

pub store-requires : goal.store-requires
store-requires c =
    let is = news (goal.at.store-requires c).In-Some in
    record { room = search rules; place = is.place; was = is.was; now = is.now }

pub returns-in-Some-clause-taken : goal.returns-in-Some-clause-taken
returns-in-Some-clause-taken c =
    let at = goal.at.returns-in-Some-clause-taken c in
    taken at.In_ok-given _ (grown at.After-store (news at.In-Some) _)

pub returns-in-Some-clause-kept : goal.returns-in-Some-clause-kept
returns-in-Some-clause-kept c = λ family kept.
    kept_still family c.args.share.now.nodes c.args.share.now.id c.args.share.now c.apply_seen.new.self c.args.self.now _ c.args.item kept
    (let at = goal.at.returns-in-Some-clause-kept c in taken at.In_ok-given _ (grown at.After-store (news at.In-Some) _))

pub returns-in_default-clause-taken : goal.returns-in_default-clause-taken
returns-in_default-clause-taken c = taken (goal.at.returns-in_default-clause-taken c).In_ok-given _ (same (goal.at.returns-in_default-clause-taken c).In_default)

pub returns-in_default-clause-kept : goal.returns-in_default-clause-kept
returns-in_default-clause-kept c = λ family kept.
    kept_still family c.args.share.now.nodes c.args.share.now.id c.args.share.now c.apply_seen.new.self c.args.self.now _ c.args.item kept
    (taken (goal.at.returns-in_default-clause-kept c).In_ok-given _ (same (goal.at.returns-in_default-clause-kept c).In_default))
