-- One count is one more, and the taker is black.
use Rattle.dob_world.proofs.Common.{◌*◌, ◌+◌, ◌∙◌, arith, false, get_or-set_other, get_or-set_same, refl, true, length-set}
use Rattle.dob_world.proofs.Counters.{raised}
use Rattle.dob_world.proofs.detector.Detector.count_take.Goals as goal

pub returns-clause-moved : goal.returns-clause-moved
returns-clause-moved c =
    let d = c.args.self.now in
    let ready = c.requires.ready in
    let there = rw c.get.ensures.value at c.index_mut.ensures.value in
    rw c.get.ensures.value (record {
      from = ready.from;
      to = ready.to;
      waiting = c.requires.waiting;
      posted = λ k l low_k low_l. refl;
      taken = raised d.nodes d.taken.items c.args.from c.args.to c.index_mut.result.now _ ready.from ready.to ready.counted.taken there refl;
      colours = record {
        colour_is = get_or-set_same d.black.items c.args.to true false (omega (arith, ready.to, ready.counted.black));
        others = λ k low apart. get_or-set_other d.black.items c.args.to k true false apart;
      };
      token = refl;
      announced = refl;
    })

pub returns-clause-counted : goal.returns-clause-counted
returns-clause-counted c =
    let d = c.args.self.now in
    let ready = c.requires.ready.counted in (
      record {
        nodes = ready.nodes;
        posted = ready.posted;
        taken = length-set d.taken.items (c.args.from * c.get.result + c.args.to) (c.index_mut.result.now + 1) ∙ ready.taken;
        black = length-set d.black.items c.args.to true ∙ ready.black;
      },
      refl,
    )
