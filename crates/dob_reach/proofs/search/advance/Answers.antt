-- The front's classes are counted, and the next ones are marked.
use Rattle.dob_reach.proofs.Common.{◌+◌, Reached, arith, length, refl}
use Rattle.dob_reach.proofs.Searched.{counted_few, front_low, opens_few, searched_next}
use Rattle.dob_reach.proofs.search.advance.Goals as goal

pub round-requires-clause-members : goal.round-requires-clause-members
round-requires-clause-members g c = λ κs lives. front_low _ _ c.requires.searched.1

pub overflow_add-reached : goal.overflow_add-reached
overflow_add-reached g c = omega (arith, counted_few _ _ c.requires.searched.1, c.requires.searched.1.few)

pub overflow_add-reached-2 : goal.overflow_add-reached-2
overflow_add-reached-2 g c = omega (arith, opens_few _ _ c.requires.searched.1 c.in_ok-next.opens c.in_ok-next.ensures.opens, c.requires.searched.1.few)

pub returns-clause-searched : goal.returns-clause-searched
returns-clause-searched g c = λ from known.
    let old = c.args.reached.now in
    let front = c.args.front.now in
    let new : Reached = record {
      classes = old.classes + length front;
      opens = old.opens + c.in_ok-next.opens;
      levels = c.push.new.self;
      marks = c.round.new.marks;
    } in
    searched_next _ _ known new c.in_ok-next.next.items c.in_ok-next.opens c.requires.some c.in_ok-push.ensures.items refl refl
    c.in_ok-next.ensures.met c.in_ok-next.ensures.opens
