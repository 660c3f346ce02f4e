-- In a lawful ring the sum that a node hands down has a word.
use Rattle.dob_world.proofs.Common.{◌<◌, ◌∙◌, ◌≡◌, arith, false, get_or-set_other, get_or-set_same, get_or_default, refl, lawful_fits, ring_of}
use Rattle.dob_world.proofs.Counters.{read_back}
use Rattle.dob_world.proofs.detector.Detector.pass_token.Goals as goal

pub passed-self-requires-clause-low : goal.passed-self-requires-clause-low
passed-self-requires-clause-low c = λ apart.
    let d = c.args.self.now in
    let at = c.counter.ensures in
    rw (read_back c.counter.result at.low at.high, at.value) (lawful_fits d.nodes (ring_of d) c.requires.counted.nodes c.requires.lawful).low

pub passed-self-requires-clause-high : goal.passed-self-requires-clause-high
passed-self-requires-clause-high c = λ apart.
    let d = c.args.self.now in
    let at = c.counter.ensures in
    rw (read_back c.counter.result at.low at.high, at.value) (lawful_fits d.nodes (ring_of d) c.requires.counted.nodes c.requires.lawful).high

pub returns-clause-moved : goal.returns-clause-moved
returns-clause-moved c =
    let d = c.args.self.now in
    let node = d.token.at in
    let counter = c.counter.ensures in
    let low : node < d.nodes = c.requires.lawful.at in
    let black : c.index.result.now ≡ (ring_of d).black node =
    c.index.ensures ∙ get_or_default d.black.items node c.index.result.now false (omega (arith, low, c.requires.counted.black)) in
    record {
      at = refl;
      posted = λ k l low_k low_l. refl;
      taken = λ k l low_k low_l. refl;
      colours = record {
        colour_is = get_or-set_same d.black.items node false false (omega (arith, low, c.requires.counted.black));
        others = λ k low_k apart. get_or-set_other d.black.items node k false false apart;
      };
      token = rw (c.get.ensures.value, read_back c.counter.result counter.low counter.high, counter.value, black) at c.passed-self.ensures;
      announced = refl;
    }
