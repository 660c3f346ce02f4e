-- The items for the classes so far are appended.
use Rattle.dob_update.proofs.Common.{◌++◌, ◌==◌, ◌≡◌, take, filter, map, owner_of, item_for}
use Rattle.dob_update.proofs.items.push_items.Given as goal

abbrev pub invariant-loop-class : goal.invariant-loop-class
invariant-loop-class l =
    l.items.items ≡ l.initial.items.items ++ map (item_for l.settlement) (filter (λ class. owner_of l.nodes class == l.to) (take l.class-index l.predecessors))
