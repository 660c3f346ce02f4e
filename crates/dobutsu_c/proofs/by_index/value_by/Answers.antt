-- The index leads to the position's class, which is one of the file's.
use Rattle.dobutsu_c.proofs.Common.{arith, IsInClass-class_number, class_number-below}
use Rattle.dobutsu_c.proofs.by_index.value_by.Goals as goal

pub returns-then-class-held : goal.returns-then-class-held
returns-then-class-held c = (
  c.held_value.ensures.entry,
  record {
    class = c.class_of-class.result;
    below = c.if-class-held.true;
    read = c.held_value.ensures.read;
    right = λ is. rw (c.class_of-class.ensures is) (IsInClass-class_number c.args.held.family c.args.position.now.setup c.requires.member);
  },
)

pub returns-else-class-held : goal.returns-else-class-held
returns-else-class-held c = λ is.
    let number = c.class_of-class.ensures is in
    let below = class_number-below c.args.held.family c.args.position.now.setup c.requires.member in
    let classes = (c.requires.held.right is).0 in
    omega (arith, number, below, classes, c.if-class-held.false)
