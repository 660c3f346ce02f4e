-- A count of the node's row is added, and one of its column; the sums are small enough to be read as signed numbers.
use Rattle.dob_world.proofs.Common.{◌*◌, ◌+◌, ◌-ℤ◌, ◌<◌, ◌^◌, ◌∙◌, ◌≡◌, ◌≤◌, ap, arith, ints, pos, ring_of, slice_index, sum_below, ℕ}
use Rattle.dob_world.proofs.Counters.{difference, read_at, sum_more}
use Rattle.dob_world.proofs.detector.Detector.counter.Goals as goal

pub loop-other-preserved : goal.loop-other-preserved
loop-other-preserved c =
    let d = c.args.self.now in
    let node = c.args.node in
    let other = c.loop-other.other in
    let on = c.loop-other.invariant in
    let law = c.requires.lawful in
    let nodes = c.get-nodes.ensures.value in
    let low : other < d.nodes = omega (arith, c.loop-other-test.true, c.loop-other.auto.other-end, nodes) in
    let posted = read_at d.nodes _ d.posted.items node other c.index.result.now nodes c.requires.node low c.requires.counted.posted c.index.ensures in
    let taken = read_at d.nodes _ d.taken.items other node c.index-in-loop-other.result.now nodes low c.requires.node c.requires.counted.taken c.index-in-loop-other.ensures in
    let row_few : slice_index d.posted.items (node * d.nodes + other) ≤ 2 ^ 40 = law.few node other c.requires.node low in
    let order : slice_index d.taken.items (other * d.nodes + node) ≤ slice_index d.posted.items (other * d.nodes + node) =
    law.in_order other node low c.requires.node in
    let column_few : slice_index d.posted.items (other * d.nodes + node) ≤ 2 ^ 40 = law.few other node low c.requires.node in
    record {
      posted_is = sum_more other (λ j. (ring_of d).posted node j) c.loop-other.posted c.index.result.now on.posted_is posted;
      taken_is = sum_more other (λ j. (ring_of d).taken j node) c.loop-other.taken c.index-in-loop-other.result.now on.taken_is taken;
      few_posted = omega (arith, on.few_posted, posted, row_few);
      few_taken = omega (arith, on.few_taken, taken, order, column_few);
    }

pub overflow_add-posted : goal.overflow_add-posted
overflow_add-posted c =
    let d = c.args.self.now in
    let node = c.args.node in
    let other = c.loop-other.other in
    let nodes = c.get-nodes.ensures.value in
    let low : other < d.nodes = omega (arith, c.loop-other-test.true, nodes) in
    let posted = read_at d.nodes _ d.posted.items node other c.index.result.now nodes c.requires.node low c.requires.counted.posted c.index.ensures in
    let few : slice_index d.posted.items (node * d.nodes + other) ≤ 2 ^ 40 = c.requires.lawful.few node other c.requires.node low in
    omega (arith, c.loop-other.invariant.few_posted, posted, few, low, c.requires.counted.nodes.1)

pub overflow_add-taken : goal.overflow_add-taken
overflow_add-taken c =
    let d = c.args.self.now in
    let node = c.args.node in
    let other = c.loop-other.other in
    let nodes = c.get-nodes.ensures.value in
    let low : other < d.nodes = omega (arith, c.loop-other-test.true, nodes) in
    let taken = read_at d.nodes _ d.taken.items other node c.index-in-loop-other.result.now nodes low c.requires.node c.requires.counted.taken c.index-in-loop-other.ensures in
    let order : slice_index d.taken.items (other * d.nodes + node) ≤ slice_index d.posted.items (other * d.nodes + node) =
    c.requires.lawful.in_order other node low c.requires.node in
    let few : slice_index d.posted.items (other * d.nodes + node) ≤ 2 ^ 40 = c.requires.lawful.few other node low c.requires.node in
    omega (arith, c.loop-other.invariant.few_taken, taken, order, few, low, c.requires.counted.nodes.1)

pub returns : goal.returns
returns c =
    let d = c.args.self.now in
    let on = c.loop-other.invariant in
    let few : d.nodes ≤ 16 = c.requires.counted.nodes.1 in
    let all : c.loop-other.other ≡ d.nodes = omega (arith, c.loop-other-test.false, c.loop-other.auto.other-end, c.get-nodes.ensures.value) in
    let small_posted : c.loop-other.posted ≤ 2 ^ 44 = omega (arith, on.few_posted, all, few) in
    let small_taken : c.loop-other.taken ≤ 2 ^ 44 = omega (arith, on.few_taken, all, few) in
    let is = difference c.loop-other.posted c.loop-other.taken small_posted small_taken in
    let posted = on.posted_is ∙ ap (λ (k : ℕ). sum_below k (λ j. (ring_of d).posted c.args.node j)) all in
    let taken = on.taken_is ∙ ap (λ (k : ℕ). sum_below k (λ j. (ring_of d).taken j c.args.node)) all in
    record {
      value = is ∙ (λ q. pos (posted q) -ℤ pos (taken q));
      low = rw is (omega (arith, ints, small_posted, small_taken));
      high = rw is (omega (arith, ints, small_posted, small_taken));
    }
