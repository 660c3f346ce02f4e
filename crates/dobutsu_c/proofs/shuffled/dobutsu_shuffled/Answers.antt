-- One place more, until the room is full or the places are at their end.
use Rattle.dobutsu_c.proofs.Common.{◌*◌, ◌+◌, ◌<◌, ◌∙◌, List, arith, length, refl, subst, sym, take, ℕ, get_or-set_other, length-set}
use Rattle.std.proofs.lemmas.List.{take_more_set}
use Rattle.dob_shuffle.specs.Shuffles.{place_of}
use Rattle.dobutsu_c.specs.Shuffled.{AreOfPlaces}
use Rattle.dobutsu_c.proofs.Drawn.{all_drawn, none_drawn, one_drawn, one_passed, only_there, placed, there_is}
use Rattle.dobutsu_c.proofs.shuffled.dobutsu_shuffled.Goals as goal
use Rattle.dobutsu_c.proofs.shuffled.dobutsu_shuffled.Goals.{then-number-count, else-number-count}

pub returns-then-count-ge-TOO_MANY-clause-drawn : goal.returns-then-count-ge-TOO_MANY-clause-drawn
returns-then-count-ge-TOO_MANY-clause-drawn c = λ few. absurd (omega (arith, few, c.if-count-ge-TOO_MANY.true))

pub loop-at-init : goal.loop-at-init
loop-at-init c = record {
  size = refl;
  few = omega arith;
  from = omega arith;
  drawn = none_drawn (place_of c.new-shuffle.result) c.args.count c.args.place.now;
  others = λ i e above. refl;
}

pub loop-at-preserved : goal.loop-at-preserved
loop-at-preserved c =
    let loop = c.loop-at in
    let shuffle = c.new-shuffle.result in
    let place : ℕ → ℕ = place_of shuffle in
    let number : ℕ = c.number_at-number.result in
    let list : List ℕ = take loop.written loop.numbers in
    let within : loop.at < shuffle.side * shuffle.side = subst (λ end. loop.at < end) c.places-end.ensures c.loop-at-test.true in
    let only = only_there shuffle c.args.count c.new-shuffle.ensures.greater loop.at number c.number_at-number.ensures.value in
    let here = there_is shuffle loop.at number within c.number_at-number.ensures.value in
    elim c.if-number-count.branch [
      | then-number-count w ↦
          let free : loop.written < length loop.numbers = omega (arith, loop.invariant.few, c.if-written-numbers.false) in
          let size = length-set loop.numbers loop.written number in
          rw (w.numbers-is, w.written-is) (record {
            size = size ∙ loop.invariant.size;
            few = omega (arith, free, size);
            from = omega (arith, loop.invariant.from);
            drawn = subst (λ xs. AreOfPlaces place c.args.count c.args.place.now (loop.at + 1) xs) (sym (take_more_set loop.numbers loop.written number free))
                (one_drawn place c.args.count c.args.place.now loop.at number list only loop.invariant.drawn w.if-number-count.true loop.invariant.from here);
            others = λ i e above. get_or-set_other loop.numbers loop.written i number e (λ same. omega (arith, same, above))
                ∙ loop.invariant.others i e (omega (arith, above));
          })
      | else-number-count w ↦
          rw (w.numbers-is, w.written-is) (record {
            size = loop.invariant.size;
            few = loop.invariant.few;
            from = omega (arith, loop.invariant.from);
            drawn = one_passed place c.args.count c.args.place.now loop.at number list only loop.invariant.drawn (omega (arith, w.if-number-count.false));
            others = loop.invariant.others;
          })
    ]

pub returns-then-written-numbers-clause-drawn : goal.returns-then-written-numbers-clause-drawn
returns-then-written-numbers-clause-drawn c = λ small. record {
  shuffle = c.new-shuffle.result;
  is = c.new-shuffle.ensures;
  few = c.loop-at.invariant.few;
  numbers = c.loop-at.invariant.drawn;
  all = λ short n below. absurd (omega (arith, short, c.if-written-numbers.true));
  others = c.loop-at.invariant.others;
}

pub returns-clause-drawn : goal.returns-clause-drawn
returns-clause-drawn c = λ small.
    let loop = c.loop-at in
    let shuffle = c.new-shuffle.result in
    let low = λ (n : ℕ) (below : n < c.args.count).
    subst (λ end. place_of shuffle n < end) (sym c.places-end.ensures) (placed shuffle c.args.count c.new-shuffle.ensures.greater n below) in
    record {
      shuffle = shuffle;
      is = c.new-shuffle.ensures;
      few = loop.invariant.few;
      numbers = all_drawn (place_of shuffle) c.args.count c.args.place.now loop.at c.places-end.result (take loop.written loop.numbers)
          (omega (arith, c.loop-at-test.false)) low loop.invariant.drawn;
      all = λ short. low;
      others = loop.invariant.others;
    }
