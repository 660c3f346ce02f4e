-- The record that is read is that of the position's class.
use Rattle.dob_query.proofs.Common.{arith, IfErr-weaker, IfOk-weaker}
use Rattle.dob_rank.proofs.OfFamilies.ClassBounds.{classes_of-below}
use Rattle.dob_query.proofs.records.value_at.Goals as goal

pub read_value-requires : goal.read_value-requires
read_value-requires g c = let few = classes_of-below c.args.classes.now.family in omega (arith, few, c.class_of.ensures.bound)

pub returns-clause-said : goal.returns-clause-said
returns-clause-said g c = λ stream shows.
    IfOk-weaker c.read_value.result _ _
    (λ value says. record { class = c.class_of.result; number = c.class_of.ensures.class; below = c.class_of.ensures.bound; says = says })
    (c.read_value.ensures.read stream shows)

pub returns-clause-fault : goal.returns-clause-fault
returns-clause-fault g c = λ stream shows.
    IfErr-weaker c.read_value.result _ _
    (λ fault fails. record { class = c.class_of.result; number = c.class_of.ensures.class; below = c.class_of.ensures.bound; fails = fails })
    (c.read_value.ensures.fault stream shows)
