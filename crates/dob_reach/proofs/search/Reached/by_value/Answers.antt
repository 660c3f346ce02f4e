-- One class more each time, and then all of them.
use Rattle.dob_reach.proofs.Common.{◌∙◌, Family, IsReached, Leads, ap, arith, classes_of}
use Rattle.dob_reach.proofs.Valued.{counted_all, counted_none}
use Rattle.dob_reach.proofs.search.Reached.by_value.Goals as goal

pub loop-class-init : goal.loop-class-init
loop-class-init c = counted_none c.args.self.now.marks.words.items c.args.table.now.values

pub returns : goal.returns
returns c = λ from are.
    let all = c.loop-class-test.false in
    let number = c.class_count-count.ensures.number ∙ ap (λ (family : Family). classes_of family) c.classes.ensures.family in
    counted_all c.args.self.now.marks.words.items c.args.table.now.values (IsReached (Leads c.args.table.now.family) from) c.loop-class.class c.loop-class.counts
    (omega (arith, all, number, c.classes.ensures.count)) are.marked c.loop-class.invariant
