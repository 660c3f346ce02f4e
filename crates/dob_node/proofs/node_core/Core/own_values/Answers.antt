-- The class at a place is an own one, and its value the next.
use Rattle.dob_node.proofs.Common.{◌*◌, ◌+◌, ◌<◌, ◌^◌, IsOwn, arith, places_of}
use Rattle.dob_node.proofs.Nodes.{own_at, class_at_low, values_none, values_more}
use Rattle.dob_node.proofs.node_core.Core.own_values.Goals.{After-get}
use Rattle.dob_node.proofs.node_core.Core.own_values.Goals as goal

pub loop-place-init : goal.loop-place-init
loop-place-init c = rw c.in_ok-values.ensures.items (values_none c.args.self.now.share)

-- the class at the place is the node's own, and its number is small
own : (c : After-get) → IsOwn c.args.self.now.share (c.loop-place.place * c.get.result + c.args.self.now.id)
    × (c.loop-place.place * c.get.result + c.args.self.now.id < 2 ^ 32)
own c =
    let low : c.loop-place.place < places_of c.args.self.now.share = rw c.places-places.ensures at c.loop-place-test.true in
    rw c.get.ensures.value (own_at c.requires.kept c.loop-place.place low, class_at_low c.requires.kept c.loop-place.place low)

pub overflow_mul-class : goal.overflow_mul-class
overflow_mul-class c = let few = (own (goal.at.overflow_mul-class c).After-get).1 in omega arith

pub overflow_add-class : goal.overflow_add-class
overflow_add-class c = let few = (own (goal.at.overflow_add-class c).After-get).1 in omega arith

pub value-requires : goal.value-requires
value-requires c = (own (goal.at.value-requires c).After-get).0

pub loop-place-preserved : goal.loop-place-preserved
loop-place-preserved c = values_more c.value.result c.requires.kept c.loop-place.invariant c.in_ok-push.ensures.items
    (rw c.get.ensures.value at c.value.ensures)
