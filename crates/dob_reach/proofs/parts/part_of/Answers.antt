-- One class more each time, and then all of them.
use Rattle.dob_reach.proofs.Common.{IsOpen, arith, length-take, take, take_all, take_more}
use Rattle.std.proofs.lemmas.List.Elements.{Contains-get_or}
use Rattle.dob_reach.proofs.Counts.{among_few}
use Rattle.dob_reach.proofs.Stepping.{expanded_more, expanded_none, one_few}
use Rattle.dob_reach.proofs.parts.part_of.Goals as goal

pub loop-class-init : goal.loop-class-init
loop-class-init c = rw c.new-outcomes.ensures.items (expanded_none c.args.classes.now.family c.args.marks.now.words.items)

pub push_outcomes-requires-clause-class : goal.push_outcomes-requires-clause-class
push_outcomes-requires-clause-class c =
    c.requires.members _ (Contains-get_or c.args.part.now c.loop-class.class-index _ c.loop-class-test.true)

pub overflow_add-opens : goal.overflow_add-opens
overflow_add-opens c =
    let cut = length-take c.loop-class.class-index c.args.part.now in
    let one = one_few c.in_ok-is_open.is_open in
    let few = among_few (IsOpen c.args.classes.now.family) (take c.loop-class.class-index c.args.part.now) c.loop-class.opens c.loop-class.invariant.open_are in
    omega (arith, cut, few, one, c.from-opens.ensures)

pub loop-class-preserved : goal.loop-class-preserved
loop-class-preserved c =
    rw (take_more c.args.part.now c.loop-class.class-index 0 c.loop-class-test.true, c.from-opens.ensures, c.in_ok-is_open.ensures.1)
    (expanded_more c.loop-class.invariant c.in_ok-is_open.ensures.2)

pub returns : goal.returns
returns c = rw (take_all c.loop-class.class-index c.args.part.now c.loop-class-test.false) at c.loop-class.invariant
