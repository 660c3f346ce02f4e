-- The puzzles of one place more, until there are as many as were asked for.
use Rattle.dob_probe.proofs.Common.{◌<◌, ◌∙◌, ◌≡◌, arith, inl, inr, length, refl, slice_get_within, ℕ, IsOrder, begin_at, class_on, places_in, Puzzle, Win}
use Rattle.dob_probe.proofs.OnlyMoves.{ended, next_few, puzzles_next, puzzles_none, puzzles_same, puzzles_too_long}
use Rattle.dob_probe.proofs.Walked.{few_classes, order_covers}
use Rattle.dob_probe.proofs.puzzles.first_puzzles.Goals as goal
use Rattle.dob_probe.proofs.puzzles.first_puzzles.Goals.{After-order_of-order, After-begin_at-begin, After-places_in-end, in-Some+in_ok-list_puzzle, in_default}

pub order_of-order-requires : goal.order_of-order-requires
order_of-order-requires c = few_classes c.args.table.now.family c.class_count-classes.result c.class_count-classes.ensures.count

-- the order is one of the table's classes
is_order : (c : After-order_of-order) → IsOrder c.args.walk.seed (length c.args.table.now.values) c.order_of-order.result
is_order c = rw (c.class_count-classes.ensures.length) at c.order_of-order.ensures

begin_is : (c : After-begin_at-begin) → c.begin_at-begin.result ≡ begin_at c.args.walk.after c.order_of-order.result (length c.args.table.now.values)
begin_is c = rw (c.begin_at-begin.ensures, c.class_count-classes.ensures.length) refl

end_is : (c : After-places_in-end) → c.places_in-end.result ≡ places_in c.order_of-order.result (length c.args.table.now.values)
end_is c = rw (c.places_in-end.ensures, c.class_count-classes.ensures.length) refl

pub returns-then-plies : goal.returns-then-plies
returns-then-plies c =
    let is = is_order (goal.at.returns-then-plies c).After-order_of-order in
    rw c.new.ensures.items
    (puzzles_too_long c.args.table.now c.args.plies c.args.walk c.order_of-order.result is c.args.count c.family-family.ensures.table c.if-plies.true)

pub begin_at-begin-requires : goal.begin_at-begin-requires
begin_at-begin-requires c = order_covers c.class_count-classes.result c.args.walk.seed c.order_of-order.result c.order_of-order.ensures

pub class_on-requires : goal.class_on-requires
class_on-requires c = rw c.places_in-end.ensures at c.loop-place-test.true

pub loop-place-init : goal.loop-place-init
loop-place-init c =
    let at = begin_is (goal.at.loop-place-init c).After-begin_at-begin in
    rw (c.new-2.ensures.items, c.new-3.ensures.items, at)
    (omega arith, omega arith, puzzles_none c.args.table.now c.args.plies c.args.walk c.order_of-order.result, tt, c.is_some.ensures)

pub returns-then-len-count : goal.returns-then-len-count
returns-then-len-count c =
    let list = c.loop-place.search.list.items in
    let is = is_order (goal.at.returns-then-len-count c).After-order_of-order in
    let full : length list ≡ c.args.count =
    omega (arith, c.loop-place.search.list.ok.0, c.loop-place.invariant.1, c.if-len-count.true, c.len.ensures) in
    ended c.args.table.now c.args.plies c.args.walk c.order_of-order.result is c.loop-place.place c.args.count list (omega (arith, full)) (inl full)
    c.loop-place.invariant.2

pub loop-place-preserved : goal.loop-place-preserved
loop-place-preserved c =
    let table = c.args.table.now in
    let plies = c.args.plies in
    let walk = c.args.walk in
    let place : ℕ = c.loop-place.place in
    let list = c.loop-place.search.list.items in
    let invariant = c.loop-place.invariant in
    let order = c.order_of-order.result in
    let known = goal.at.loop-place-preserved c in
    let here : place < places_in order (length table.values) = rw (end_is known.After-places_in-end) at c.loop-place-test.true in
    let on : c.class_on.result ≡ class_on order place = c.class_on.ensures in
    let covered = order_covers (length table.values) walk.seed order (is_order known.After-order_of-order) in
    elim c.match-puzzle_of.branch [
      | in-Some+in_ok-list_puzzle w ↦
          let puzzle : Puzzle = w.in-Some.puzzle in
          let found = rw w.in-Some.is at c.puzzle_of.ensures in
          let next = w.in_ok-list_puzzle.ensures.listed in
          let more = next_few table plies walk order c.loop-place.search.is_spread list w.list_puzzle.new.search.list.items puzzle next in
          rw w.search-is (
            omega (arith, invariant.0),
            omega (arith, more, c.loop-place.search.list.ok.0, c.if-len-count.false, c.len.ensures),
            puzzles_next table plies walk order place c.class_on.result here on covered c.loop-place.search.is_spread list w.list_puzzle.new.search.list.items puzzle
                invariant.4 invariant.0 found next invariant.2,
            w.in_ok-list_puzzle.ensures.outlines,
            w.in_ok-list_puzzle.ensures.spread ∙ invariant.4,
          )
      | in_default w ↦
          let missing = rw w.in_default.is at c.puzzle_of.ensures in
          rw w.search-is (
            omega (arith, invariant.0),
            invariant.1,
            puzzles_same table plies walk order place c.class_on.result here on covered list missing invariant.2,
            invariant.3,
            invariant.4,
          )
    ]

pub returns : goal.returns
returns c =
    let known = goal.at.returns c in
    let all = rw (end_is known.After-places_in-end) at c.loop-place-test.false in
    ended c.args.table.now c.args.plies c.args.walk c.order_of-order.result (is_order known.After-order_of-order) c.loop-place.place c.args.count
    c.loop-place.search.list.items c.loop-place.invariant.1 (inr all) c.loop-place.invariant.2

-- the puzzle that was found is of a class of the table
pub list_puzzle-requires-clause-within : goal.list_puzzle-requires-clause-within
list_puzzle-requires-clause-within c =
    let found = rw c.in-Some.is at c.puzzle_of.ensures in
    slice_get_within c.args.table.now.values c.in-Some.puzzle.class (Win c.args.plies) found.1.won.entry

pub list_puzzle-requires-clause-outlines : goal.list_puzzle-requires-clause-outlines
list_puzzle-requires-clause-outlines c = c.loop-place.invariant.3
