-- A step gives the item at the place reached.
use Rattle.std.proofs.Common.{◌<◌, ◌+◌, ◌∷◌, ap, sym, ◌∙◌, length, length-drop, drop, arith}
use Rattle.std.proofs.lemmas.List.{drop_more}
use Rattle.dob_lists.proofs.segmented.SegmentsIterIterator.next.Goals as goal

pub get-item-requires : goal.get-item-requires
get-item-requires g c = omega arith

pub overflow_add-self : goal.overflow_add-self
overflow_add-self g c = omega arith

pub returns-clause-steps : goal.returns-clause-steps
returns-clause-steps g c =
    drop_more c.args.self.now.list.now c.args.self.now.next c.get-item.result (omega arith)
    ∙ ap (λ x. x ∷ drop (c.args.self.now.next + 1) c.args.self.now.list.now) (sym c.get-item.ensures.index)

pub returns-clause-goes : goal.returns-clause-goes
returns-clause-goes g c =
    let fewer : length (drop (c.args.self.now.next + 1) c.args.self.now.list.now) < length (drop c.args.self.now.next c.args.self.now.list.now)
    = omega (arith, length-drop (c.args.self.now.next + 1) c.args.self.now.list.now, length-drop c.args.self.now.next c.args.self.now.list.now) in
    record { on = λ _. (tt, tt, fewer); keeps = tt; rests = λ _. tt }
