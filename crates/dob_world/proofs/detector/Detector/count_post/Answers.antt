-- One count is one more.
use Rattle.dob_world.proofs.Common.{◌*◌, ◌+◌, ◌∙◌, refl, length-set}
use Rattle.dob_world.proofs.Counters.{raised}
use Rattle.dob_world.proofs.detector.Detector.count_post.Goals as goal

pub returns-clause-moved : goal.returns-clause-moved
returns-clause-moved c =
    let d = c.args.self.now in
    let ready = c.requires.ready in
    let there = rw c.get.ensures.value at c.index_mut.ensures.value in
    rw c.get.ensures.value (record {
      from = ready.from;
      to = ready.to;
      is_black = c.requires.black;
      posted = raised d.nodes d.posted.items c.args.from c.args.to c.index_mut.result.now _ ready.from ready.to ready.counted.posted there refl;
      taken = λ k l low_k low_l. refl;
      colours = λ k low. refl;
      token = refl;
      announced = refl;
    })

pub returns-clause-counted : goal.returns-clause-counted
returns-clause-counted c =
    let d = c.args.self.now in
    let ready = c.requires.ready.counted in (
      record {
        nodes = ready.nodes;
        posted = length-set d.posted.items (c.args.from * c.get.result + c.args.to) (c.index_mut.result.now + 1) ∙ ready.posted;
        taken = ready.taken;
        black = ready.black;
      },
      refl,
    )
