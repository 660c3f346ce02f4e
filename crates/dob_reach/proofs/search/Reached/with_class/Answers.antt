-- The class is counted where it is marked.
use Rattle.dob_reach.proofs.Common.{◌∙◌, ◌≤◌, arith, false≢true, sym}
use Rattle.dob_reach.proofs.Counts.{just_few}
use Rattle.dob_reach.proofs.Valued.{counted_more, counted_same}
use Rattle.dob_reach.proofs.search.Reached.with_class.Goals as goal

pub with_value-requires : goal.with_value-requires
with_value-requires c =
    let counts = c.args.counts in
    let won : counts.win ≤ c.args.class = just_few c.requires.counts.won (λ k low. low.0.0) in
    let lost : counts.loss ≤ c.args.class = just_few c.requires.counts.lost (λ k low. low.0.0) in
    let drawn : counts.draw ≤ c.args.class = just_few c.requires.counts.drawn (λ k low. low.0.0) in
    record {
      win = omega (arith, won, c.requires.within, c.requires.few);
      loss = omega (arith, lost, c.requires.within, c.requires.few);
      draw = omega (arith, drawn, c.requires.within, c.requires.few);
    }

pub returns-then-has : goal.returns-then-has
returns-then-has c = rw c.with_value.ensures (counted_more c.args.self.now.marks.words.items c.args.table.now.values c.args.class c.args.counts
    c.value.result (c.has.ensures.0 c.if-has.true) c.value.ensures c.requires.counts)

pub returns-else-has : goal.returns-else-has
returns-else-has c =
    counted_same c.args.self.now.marks.words.items c.args.table.now.values c.args.class c.args.counts
    (λ is. false≢true (sym c.if-has.false ∙ c.has.ensures.1 is)) c.requires.counts
