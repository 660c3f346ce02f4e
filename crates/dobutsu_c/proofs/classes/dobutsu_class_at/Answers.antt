-- The classes that were opened are the family's.
use Rattle.dobutsu_c.proofs.Common.{◌∙◌, ◌≡◌, ap, arith, classes_of}
use Rattle.dobutsu_c.proofs.classes.dobutsu_class_at.Goals as goal

pub returns-then-class_count-saturating_add-clause-none : goal.returns-then-class_count-saturating_add-clause-none
returns-then-class_count-saturating_add-clause-none c = λ none.
    let family = c.in-Ok.family in
    let count : c.class_count.result ≡ classes_of family = c.class_count.ensures.number ∙ ap classes_of c.in-Ok-open.ensures.family in
    (family, c.in-Ok.ensures.0, omega (arith, count, c.saturating_add.ensures, c.if-class_count-saturating_add.true))

pub write_classes-requires : goal.write_classes-requires
write_classes-requires c =
    omega (arith, c.class_count.ensures.number, c.class_count.ensures.bound, c.saturating_add.ensures, c.if-class_count-saturating_add.false)

pub returns-clause-told : goal.returns-clause-told
returns-clause-told c = λ none. (c.in-Ok.family, c.in-Ok.ensures.0, rw c.in-Ok-open.ensures.family at c.write_classes.ensures)
