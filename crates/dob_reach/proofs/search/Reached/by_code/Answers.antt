-- One class more each time, and then all of them.
use Rattle.dob_reach.proofs.Common.{◌∙◌, Family, IsReached, Leads, List, ap, arith, classes_of, length, refl, subst}
use Rattle.dob_distance.specs.Codes.{values_of_codes}
use Rattle.dob_distance.specs.declared.value.Value.{Value}
use Rattle.dob_reach.specs.Codes.{AreCodesCounted}
use Rattle.dob_reach.proofs.Coded.{coded_all, coded_none}
use Rattle.dob_reach.proofs.search.Reached.by_code.Goals as goal

pub loop-class-init : goal.loop-class-init
loop-class-init c =
    coded_none c.args.self.now.marks.words.items (values_of_codes c.codes-codes.result.now) _ c.in_ok-counts.counts.items refl
    (c.in_ok-counts.ensures.items_if_clones_equal (λ a e. e))

pub returns : goal.returns
returns c = λ from are.
    let all = c.loop-class-test.false in
    let number = c.class_count-count.ensures.number ∙ ap (λ (family : Family). classes_of family) c.classes.ensures.family in
    let long = ap (λ (values : List Value). length values) c.codes-codes.ensures in
    subst (λ (values : List Value). AreCodesCounted (IsReached (Leads c.args.table.now.family) from) values c.loop-class.counts.items) c.codes-codes.ensures
    (coded_all c.args.self.now.marks.words.items (values_of_codes c.codes-codes.result.now) (IsReached (Leads c.args.table.now.family) from)
    c.loop-class.class c.loop-class.counts.items (omega (arith, all, number, c.classes.ensures.count, long)) are.marked c.loop-class.invariant)
