-- What an announceable state is.
use Rattle.std.proofs.Common.{◌≡◌, ℕ, suc, ◌-◌, ◌<◌, Bool, false, ap, ◌∙◌, arith, ⊎_elim}
use Rattle.std.proofs.Math.IntN.{pos}
use Rattle.std.proofs.lemmas.Int.{ints}
use Rattle.std.proofs.lemmas.Bool.{cases_lt}
use Rattle.dob_safra.specs.Rings.{Ring, sum_below, counter, counters_below, in_flight, Reason, counted, positive, black_node, black_token, IsLawfulRing, AllWhite}
use Rattle.dob_safra.specs.Rings.{AllTaken, IsAnnounceable}
use Rattle.dob_safra.specs.Laws.{IsSize, IsRingQuiet}
use Rattle.dob_safra.proofs.Sums.{sum_same, sum_zeros, sum_zero}
use Rattle.dob_safra.proofs.Counts.{counters_are, flight_is}

-- nothing is in flight where all is taken
pub none_in_flight : (n : ℕ) (ring : Ring) → AllTaken n ring → in_flight n ring ≡ 0
none_in_flight n ring all =
    sum_same n (λ i. 0) (λ i. sum_below n (λ j. ring.posted i j - ring.taken i j))
    (λ i i_in. sum_same n (λ j. 0) (λ j. ring.posted i j - ring.taken i j) (λ j j_in. omega (arith, all i j i_in j_in)) ∙ sum_zeros n)
    ∙ sum_zeros n

-- of the reasons the first alone is left, since the others contradict a token at 0 and node 0 that are white and add up
only_counted : (n : ℕ) (ring : Ring) (idle : Bool) → 0 < n → IsAnnounceable n ring idle → Reason n ring ring.token →
    AllWhite n ring × (counters_below n ring n ≡ pos 0)
only_counted n ring idle some may (counted white sum) =
    let at_first : ring.token.at ≡ 0 = may.at_first in
    let own : counters_below n ring (suc ring.token.at) ≡ counter n ring 0 = ap (λ t. counters_below n ring (suc t)) at_first ∙ omega (arith, ints) in (
      λ i within. ⊎_elim (λ above. white i above within)
          (λ below. let first : i ≡ 0 = omega arith in ap ring.black first ∙ may.white_node) (cases_lt ring.token.at i),
      omega (arith, ints, sum, own, may.adds_up),
    )
only_counted n ring idle some may (positive more) =
    let at_first : ring.token.at ≡ 0 = may.at_first in
    let own : counters_below n ring (suc ring.token.at) ≡ counter n ring 0 = ap (λ t. counters_below n ring (suc t)) at_first ∙ omega (arith, ints) in
    absurd (omega (arith, ints, more, own, may.adds_up))
only_counted n ring idle some may (black_node i within is_black) =
    let first : i ≡ 0 = omega (arith, may.at_first) in
    let is_white : ring.black i ≡ false = ap ring.black first ∙ may.white_node in
    absurd (cc)
only_counted n ring idle some may (black_token is_black) =
    let is_white : ring.token.black ≡ false = may.white_token in
    absurd (cc)

-- Where a lawful state is announceable, no batch is in flight.
pub quiet : (n : ℕ) (ring : Ring) (idle : Bool) → IsSize n → IsLawfulRing n ring → IsAnnounceable n ring idle → IsRingQuiet n ring
quiet n ring idle size lawful may =
    let found : AllWhite n ring × (counters_below n ring n ≡ pos 0) = only_counted n ring idle size.0 may lawful.reason in
    let none : in_flight n ring ≡ 0 = omega (arith, ints, found.1, counters_are n ring n, flight_is n ring lawful.in_order) in
    record {
      all_white = found.0;
      all_taken = λ i j i_in j_in.
          let row : sum_below n (λ l. ring.posted i l - ring.taken i l) ≡ 0 =
          sum_zero n (λ k. sum_below n (λ l. ring.posted k l - ring.taken k l)) none i i_in in
          let link : ring.posted i j - ring.taken i j ≡ 0 = sum_zero n (λ l. ring.posted i l - ring.taken i l) row j j_in in
          omega (arith, link, lawful.in_order i j i_in j_in);
      none_in_flight = none;
    }
