-- There is room for an item for each class.
use Rattle.dob_update.proofs.Common.{◌++◌, ◌≡◌, ap, arith, length, subst, BatchView}
use Rattle.dob_update.proofs.batch.Batch.list_items.Goals as goal

pub push_parts-requires-clause-within : goal.push_parts-requires-clause-within
push_parts-requires-clause-within c = let counted = c.self.invariant.counted in rw (c.deref.ensures.value, c.deref-2.ensures.value) (omega (arith, counted))

pub push_parts-requires-clause-room : goal.push_parts-requires-clause-room
push_parts-requires-clause-room c =
    let counted = c.self.invariant.run.counted in
    let same = ap (λ (b : BatchView). length b.items) c.self.view_is in
    let room = c.requires in
    rw c.deref.ensures.value (omega (arith, counted, same, room))

pub returns : goal.returns
returns c =
    subst (λ (b : BatchView). c.push_parts.new.list.items ≡ c.args.list.now.items ++ b.items) c.self.view_is
    (rw (c.deref.ensures.value, c.deref-2.ensures.value) at c.push_parts.ensures)
