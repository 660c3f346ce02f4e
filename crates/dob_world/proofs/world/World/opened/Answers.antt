-- The world before its first event.
use Rattle.dob_world.proofs.Common.{◌*◌, AreEmptyLanes, AreOpenedNodes, Family, IsSetting, Setting, classes_of, refl, ring_of, subst, sym, world_shown}
use Rattle.dob_world.proofs.Promise.{places_start, falls_shown, lawful_shown, linked_start, waits_start, matches_start, few_start}
use Rattle.dob_world.proofs.Stood.{cuts_start}
use Rattle.dob_history.specs.Openings.{AreOpeningsBelow}
use Rattle.dob_world.proofs.world.World.opened.Goals as goal

pub open_nodes-requires : goal.open_nodes-requires
open_nodes-requires c =
    subst (λ (f : Family). AreOpeningsBelow f (classes_of f) c.in_ok-openings.openings) c.in_ok-classes.ensures.family c.in_ok-openings.ensures

pub returns-clause-standing : goal.returns-clause-standing
returns-clause-standing c =
    let n = c.args.node_count in
    let k : Setting = record { family = c.in_ok-classes.classes.family; n = n; batch = c.args.batch_size; capacity = c.args.capacity } in
    let openings = c.in_ok-openings.openings in
    let nodes = c.in_ok-nodes.nodes.items in
    let lanes = c.in_ok-lanes.lanes.items in
    let opened : AreOpenedNodes openings k.family n n nodes =
    subst (λ st. AreOpenedNodes openings st n n nodes) (sym c.in_ok-classes.ensures.family) c.in_ok-nodes.ensures in
    let empty : AreEmptyLanes k.capacity (n * n) lanes = c.in_ok-lanes.ensures in
    let setting : IsSetting k = record { nodes = c.requires.nodes; sizes = c.requires.sizes } in
    let some = setting.nodes.0 in
    let detector = c.in_ok-detector.detector in (
      record {
        setting = setting;
        openings = (openings, c.in_ok-openings.ensures);
        places = places_start k openings nodes lanes some c.in_ok-openings.ensures opened empty;
        counted = c.in_ok-detector.ensures.counted.0;
        same_n = c.in_ok-detector.ensures.counted.1;
        lawful = lawful_shown k openings nodes lanes some c.in_ok-openings.ensures opened empty;
        falls = falls_shown k openings nodes lanes some c.in_ok-openings.ensures opened empty;
        linked = linked_start k openings nodes lanes some c.in_ok-openings.ensures opened empty;
        matches = matches_start k (record { world = world_shown k.family n nodes lanes; ring = ring_of detector }) setting c.in_ok-detector.ensures.start
            (waits_start k openings nodes lanes some c.in_ok-openings.ensures opened empty);
        few = few_start n (ring_of detector) 0 c.in_ok-detector.ensures.start;
        cuts = cuts_start openings k.family n nodes (ring_of detector) opened c.in_ok-detector.ensures.start;
      },
      refl,
      refl,
    )
