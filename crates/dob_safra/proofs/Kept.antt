-- The events keep lawful states lawful.
use Rattle.std.proofs.Common.{◌≡◌, ℕ, zero, suc, ◌+◌, ◌-◌, ◌*◌, ◌^◌, ◌<◌, ◌≤◌, Bool, true, false, cond, eqb, refl, ap, sym, ◌∙◌, arith, inl, inr, ⊎_elim, subst}
use Rattle.std.proofs.Math.IntN.{ℤ, pos, ◌+ℤ◌, neg_ℤ}
use Rattle.std.specs.Prelude.{◌≤ℤ◌}
use Rattle.std.proofs.lemmas.Int.{ints}
use Rattle.std.proofs.lemmas.Bool.{cases_lt, cases_eq}
use Rattle.std.proofs.lemmas.Bool.Decides.{nat_tests}
use Rattle.dob_safra.specs.declared.token.Token.{Token}
use Rattle.dob_safra.specs.declared.event.RingEvent.{RingEvent}
use Rattle.dob_safra.specs.declared.event.RingEvent.TheVariants.{Post, Take, Pass, Announce}
use Rattle.dob_safra.specs.Tokens.{passed_on, new_probe}
use Rattle.dob_safra.specs.Rings.{Ring, sum_below, counter, counters_below, in_flight, Reason, counted, positive, black_node, black_token, IsLawfulRing}
use Rattle.dob_safra.specs.Rings.{AllWhite, Raises, CountsStay, ColoursStay, Colours, Posts, Takes, Passes, Announces, Moved}
use Rattle.dob_safra.specs.Laws.{IsSize, HasFew, IsRingQuiet, Fits}
use Rattle.dob_safra.proofs.Counts.{flipped, posted_below, taken_below, counters_are, rows_stay, flipped_stay, rows_before, rows_raised, flipped_raises}
use Rattle.dob_safra.proofs.Counts.{flight_is, flight_at_least, posted_bound, taken_bound}
use Rattle.dob_safra.proofs.Quiet.{quiet, none_in_flight}

-- a raised count is one more, and no count falls
pub raised_at_least : (n i j k l : ℕ) (f g : ℕ → ℕ → ℕ) → k < n → l < n → Raises n f g i j → f k l ≤ g k l
raised_at_least n i j k l f g k_in l_in raises =
    elim (cases_eq k i) [
      | inr apart ↦ omega (arith, raises.others k l k_in l_in (inl apart))
      | inl k_is ↦ elim (cases_eq l j) [
        | inr apart ↦ omega (arith, raises.others k l k_in l_in (inr apart))
        | inl l_is ↦
            let one : g k l ≡ suc (f k l) =
            ap (λ a. g a l) k_is ∙ ap (g i) l_is ∙ raises.one_more ∙ ap (λ b. suc (f i b)) (sym l_is) ∙ ap (λ a. suc (f a l)) (sym k_is) in
            omega (arith, one)
      ]
    ]

-- where one count was below another, raising it leaves it at most that
pub raised_at_most : (n i j k l : ℕ) (f g : ℕ → ℕ → ℕ) (bound : ℕ → ℕ → ℕ) → k < n → l < n → Raises n f g i j → f i j < bound i j → f k l ≤ bound k l
    → g k l ≤ bound k l
raised_at_most n i j k l f g bound k_in l_in raises below least =
    elim (cases_eq k i) [
      | inr apart ↦ omega (arith, raises.others k l k_in l_in (inl apart))
      | inl k_is ↦ elim (cases_eq l j) [
        | inr apart ↦ omega (arith, raises.others k l k_in l_in (inr apart))
        | inl l_is ↦ let one : g k l ≡ suc (f i j) = ap (λ a. g a l) k_is ∙ ap (g i) l_is ∙ raises.one_more in
            let same : bound k l ≡ bound i j = ap (λ a. bound a l) k_is ∙ ap (bound i) l_is in
            omega (arith, one, same)
      ]
    ]

-- the sums of counters stay where the counts do
counters_stay : (n k : ℕ) (old new : Ring) → k ≤ n → CountsStay n old.posted new.posted → CountsStay n old.taken new.taken →
    counters_below n new k ≡ counters_below n old k
counters_stay n k old new le posted taken =
    omega (
      arith,
      ints,
      counters_are n old k,
      counters_are n new k,
      rows_stay n k old.posted new.posted le posted,
      rows_stay n k (flipped old.taken) (flipped new.taken) le (flipped_stay n old.taken new.taken taken),
    )

-- ---- post
posts_reason : (n i j : ℕ) (old new : Ring) (token : Token) → token.at < n → Posts n old i j new → Reason n old token → Reason n new token
posts_reason n i j old new token at posts (counted white sum) =
    ⊎_elim
    (λ above. absurd (let is_white : old.black i ≡ false = white i above posts.from in let is_black : old.black i ≡ true = posts.is_black in cc))
    (λ within. black_node i (omega arith) (posts.colours i posts.from ∙ posts.is_black))
    (cases_lt token.at i)
posts_reason n i j old new token at posts (positive more) =
    let taken : taken_below n new (suc token.at) ≡ taken_below n old (suc token.at) =
    rows_stay n (suc token.at) (flipped old.taken) (flipped new.taken) (omega arith) (flipped_stay n old.taken new.taken posts.taken) in
    let posted : posted_below n old (suc token.at) ≤ posted_below n new (suc token.at) =
    ⊎_elim
    (λ before. omega (arith, rows_raised n (suc token.at) i j old.posted new.posted (omega arith) before posts.to posts.posted))
    (λ after. omega (arith, rows_before n (suc token.at) i j old.posted new.posted (omega arith) after posts.posted))
    (cases_lt i (suc token.at)) in
    positive (omega (arith, ints, counters_are n old (suc token.at), counters_are n new (suc token.at), taken, posted, more))
posts_reason n i j old new token at posts (black_node k within is_black) = black_node k within (posts.colours k (omega arith) ∙ is_black)
posts_reason n i j old new token at posts (black_token is_black) = black_token is_black

posts_kept : (n i j : ℕ) (old new : Ring) → IsLawfulRing n old → Posts n old i j new → HasFew n new → IsLawfulRing n new
posts_kept n i j old new lawful posts few =
    let running : new.announced ≡ true → ⊥ =
    λ ended. let ends : old.announced ≡ true = sym posts.announced ∙ ended in
    let is_white : old.black i ≡ false = lawful.all_white ends i posts.from in
    let is_black : old.black i ≡ true = posts.is_black in cc in
    record {
      in_order = λ k l k_in l_in.
          let taken : new.taken k l ≡ old.taken k l = posts.taken k l k_in l_in in
          let before : old.taken k l ≤ old.posted k l = lawful.in_order k l k_in l_in in
          omega (arith, raised_at_least n i j k l old.posted new.posted k_in l_in posts.posted);
      few = few;
      at = subst (λ (t : Token). t.at < n) (sym posts.token) lawful.at;
      low = subst (λ (t : Token). neg_ℤ (pos ((n - 1 - t.at) * 2 ^ 44)) ≤ℤ t.sum) (sym posts.token) lawful.low;
      high = subst (λ (t : Token). t.sum ≤ℤ pos ((n - 1 - t.at) * 2 ^ 44)) (sym posts.token) lawful.high;
      all_white = λ ended. absurd (running ended);
      all_taken = λ ended. absurd (running ended);
      reason = subst (λ (t : Token). Reason n new t) (sym posts.token) (posts_reason n i j old new old.token lawful.at posts lawful.reason);
    }

-- ---- take

-- the counters below the node that takes
takes_below : (n i j k : ℕ) (old new : Ring) → Takes n old i j new → k ≤ n → k ≤ j → counters_below n new k ≡ counters_below n old k
takes_below n i j k old new takes le before =
    omega (
      arith,
      ints,
      counters_are n old k,
      counters_are n new k,
      rows_stay n k old.posted new.posted le takes.posted,
      rows_before n k j i (flipped old.taken) (flipped new.taken) le before (flipped_raises n i j old.taken new.taken takes.taken),
    )

-- where the token is below the node that takes
takes_above : (n i j : ℕ) (old new : Ring) (token : Token) → token.at < n → Takes n old i j new →
    ((k l : ℕ) → k < n → l < n → old.taken k l ≤ old.posted k l) → token.at < j → Reason n old token → Reason n new token
takes_above n i j old new token at takes in_order above (counted white sum) =
    let flight : in_flight n old + taken_below n old n ≡ posted_below n old n = flight_is n old in_order in
    let some : old.posted i j - old.taken i j ≤ in_flight n old = flight_at_least n old i j takes.from takes.to in
    let waiting : old.taken i j < old.posted i j = takes.waiting in
    let stays : counters_below n new (suc token.at) ≡ counters_below n old (suc token.at) =
    takes_below n i j (suc token.at) old new takes (omega arith) (omega arith) in
    positive (omega (arith, ints, flight, some, waiting, sum, stays, counters_are n old n))
takes_above n i j old new token at takes in_order above (positive more) =
    let stays : counters_below n new (suc token.at) ≡ counters_below n old (suc token.at) =
    takes_below n i j (suc token.at) old new takes (omega arith) (omega arith) in
    positive (omega (arith, ints, stays, more))
takes_above n i j old new token at takes in_order above (black_node k within is_black) =
    black_node k within (takes.colours.others k (omega arith) (λ e. omega (arith, e)) ∙ is_black)
takes_above n i j old new token at takes in_order above (black_token is_black) = black_token is_black

takes_reason : (n i j : ℕ) (old new : Ring) (token : Token) → token.at < n → Takes n old i j new →
    ((k l : ℕ) → k < n → l < n → old.taken k l ≤ old.posted k l) → Reason n old token → Reason n new token
takes_reason n i j old new token at takes in_order reason =
    ⊎_elim
    (λ above. takes_above n i j old new token at takes in_order above reason)
    (λ within. black_node j within takes.colours.colour_is)
    (cases_lt token.at j)

takes_kept : (n i j : ℕ) (old new : Ring) → IsLawfulRing n old → Takes n old i j new → HasFew n new → IsLawfulRing n new
takes_kept n i j old new lawful takes few =
    let running : new.announced ≡ true → ⊥ =
    λ ended. let all : old.posted i j ≡ old.taken i j = lawful.all_taken (sym takes.announced ∙ ended) i j takes.from takes.to in
    omega (arith, all, takes.waiting) in
    record {
      in_order = λ k l k_in l_in.
          let posted : new.posted k l ≡ old.posted k l = takes.posted k l k_in l_in in
          let most : new.taken k l ≤ old.posted k l =
          raised_at_most n i j k l old.taken new.taken old.posted k_in l_in takes.taken takes.waiting (lawful.in_order k l k_in l_in) in
          omega (arith, posted, most);
      few = few;
      at = subst (λ (t : Token). t.at < n) (sym takes.token) lawful.at;
      low = subst (λ (t : Token). neg_ℤ (pos ((n - 1 - t.at) * 2 ^ 44)) ≤ℤ t.sum) (sym takes.token) lawful.low;
      high = subst (λ (t : Token). t.sum ≤ℤ pos ((n - 1 - t.at) * 2 ^ 44)) (sym takes.token) lawful.high;
      all_white = λ ended. absurd (running ended);
      all_taken = λ ended. absurd (running ended);
      reason = subst (λ (t : Token). Reason n new t) (sym takes.token) (takes_reason n i j old new old.token lawful.at takes lawful.in_order lawful.reason);
    }

-- ---- pass
abbrev token_of : ℕ → Bool → ℤ → Token
token_of at black sum = record { at = at; black = black; sum = sum }

black_if : (black own : Bool) → own ≡ true → cond black true own ≡ true
black_if true own is_black = refl
black_if false own is_black = is_black

stays_black : (black own : Bool) → black ≡ true → cond black true own ≡ true
stays_black true own is_black = refl
stays_black false own is_black = absurd (cc)

passed_down : (n t : ℕ) (black own : Bool) (sum own_counter : ℤ) →
    passed_on n (token_of (suc t) black sum) own_counter own ≡ token_of t (cond black true own) (sum +ℤ own_counter)
passed_down n t black own sum own_counter =
    let above : eqb (suc t) 0 ≡ false = grind (arith, nat_tests) in
    let below : suc t - 1 ≡ t = omega arith in
    rw (above, below) refl

-- the token of node t + 1 at node t
handed_reason : (n t : ℕ) (old new : Ring) (black : Bool) (sum : ℤ) → suc t < n → CountsStay n old.posted new.posted →
    CountsStay n old.taken new.taken → Colours n old new (suc t) false → Reason n old (token_of (suc t) black sum) →
    Reason n new (token_of t (cond black true (old.black (suc t))) (sum +ℤ counter n old (suc t)))
handed_reason n t old new black sum at posted taken colours (counted white adds_up) =
    counted
    (λ i above within. elim (cases_eq i (suc t)) [
      | inl is ↦ ap new.black is ∙ colours.colour_is
      | inr apart ↦ colours.others i within apart ∙ white i (omega arith) within
    ])
    (omega (arith, ints, adds_up, counters_stay n n old new (omega arith) posted taken, counters_stay n (suc t) old new (omega arith) posted taken))
handed_reason n t old new black sum at posted taken colours (positive more) =
    positive (omega (arith, ints, more, counters_stay n (suc t) old new (omega arith) posted taken))
handed_reason n t old new black sum at posted taken colours (black_node k within is_black) =
    elim (cases_eq k (suc t)) [
      | inl is ↦ black_token (black_if black (old.black (suc t)) (sym (ap old.black is) ∙ is_black))
      | inr apart ↦ black_node k (omega arith) (colours.others k (omega arith) apart ∙ is_black)
    ]
handed_reason n t old new black sum at posted taken colours (black_token is_black) = black_token (stays_black black (old.black (suc t)) is_black)

-- the token of a new probe at the last node
probe_reason : (n : ℕ) (ring : Ring) → 0 < n → Reason n ring (new_probe n)
probe_reason n ring some =
    counted
    (λ i above within. absurd (omega arith))
    (let last : suc (n - 1) ≡ n = omega arith in
    let same : counters_below n ring (suc (n - 1)) ≡ counters_below n ring n = ap (counters_below n ring) last in
    omega (arith, ints, same))

-- what a lawful state says of its token
record IsAtToken (n : ℕ) (ring : Ring) (token : Token) : Type 0 where
  at : token.at < n
  low : neg_ℤ (pos ((n - 1 - token.at) * 2 ^ 44)) ≤ℤ token.sum
  high : token.sum ≤ℤ pos ((n - 1 - token.at) * 2 ^ 44)
  reason : Reason n ring token

-- no link has more than 2^40 taken batches
abbrev CountsTakenFew : ℕ → Ring → Type 0
CountsTakenFew n ring = (i j : ℕ) → i < n → j < n → ring.taken i j ≤ 2 ^ 40

taken_few : (n : ℕ) (ring : Ring) → IsLawfulRing n ring → CountsTakenFew n ring
taken_few n ring lawful k l k_in l_in = omega (arith, lawful.in_order k l k_in l_in, lawful.few k l k_in l_in)

passes_from : (n at : ℕ) (old new : Ring) (black : Bool) (sum : ℤ) → IsSize n → HasFew n old → CountsTakenFew n old →
    CountsStay n old.posted new.posted → CountsStay n old.taken new.taken → Colours n old new at false →
    IsAtToken n old (token_of at black sum) → IsAtToken n new (passed_on n (token_of at black sum) (counter n old at) (old.black at))
passes_from n zero old new black sum size few taken_few posted taken colours token = record {
  at = omega (arith, size.0);
  low = omega (arith, ints);
  high = omega (arith, ints);
  reason = probe_reason n new size.0;
}
passes_from n (suc t) old new black sum size few taken_few posted taken colours token =
    let most : sum_below n (λ j. old.posted (suc t) j) ≤ 2 ^ 44 = posted_bound n old (suc t) size.1 token.at few in
    let least : sum_below n (λ j. old.taken j (suc t)) ≤ 2 ^ 44 = taken_bound n old (suc t) size.1 token.at taken_few in
    let room : suc t < n = token.at in
    let above : neg_ℤ (pos ((n - 1 - suc t) * 2 ^ 44)) ≤ℤ sum = token.low in
    let below : sum ≤ℤ pos ((n - 1 - suc t) * 2 ^ 44) = token.high in
    let handed : IsAtToken n new (token_of t (cond black true (old.black (suc t))) (sum +ℤ counter n old (suc t))) = record {
      at = omega arith;
      low = omega (arith, ints, most, least, room, above);
      high = omega (arith, ints, most, least, room, below);
      reason = handed_reason n t old new black sum room posted taken colours token.reason;
    } in
    subst (λ (token : Token). IsAtToken n new token) (sym (passed_down n t black (old.black (suc t)) sum (counter n old (suc t)))) handed

-- a colour that becomes white leaves an all white ring so
white_stays : (n i : ℕ) (old new : Ring) → Colours n old new i false → AllWhite n old → AllWhite n new
white_stays n i old new colours white k within =
    elim (cases_eq k i) [
      | inl is ↦ ap new.black is ∙ colours.colour_is
      | inr apart ↦ colours.others k within apart ∙ white k within
    ]

passes_kept : (n i : ℕ) (old new : Ring) → IsSize n → IsLawfulRing n old → Passes n old i new → IsLawfulRing n new
passes_kept n i old new size lawful passes =
    let here : Colours n old new old.token.at false = subst (λ (k : ℕ). Colours n old new k false) (sym passes.at) passes.colours in
    let token : new.token ≡ passed_on n old.token (counter n old old.token.at) (old.black old.token.at) =
    subst (λ (k : ℕ). new.token ≡ passed_on n old.token (counter n old k) (old.black k)) (sym passes.at) passes.token in
    let fewer : CountsTakenFew n old = taken_few n old lawful in
    let passed : IsAtToken n new (passed_on n old.token (counter n old old.token.at) (old.black old.token.at)) =
    passes_from n old.token.at old new old.token.black old.token.sum size lawful.few fewer passes.posted passes.taken here
    (record { at = lawful.at; low = lawful.low; high = lawful.high; reason = lawful.reason }) in
    let is : IsAtToken n new new.token = subst (λ (t : Token). IsAtToken n new t) (sym token) passed in
    record {
      in_order = λ k l k_in l_in. omega (arith, passes.posted k l k_in l_in, passes.taken k l k_in l_in, lawful.in_order k l k_in l_in);
      few = λ k l k_in l_in. omega (arith, passes.posted k l k_in l_in, lawful.few k l k_in l_in);
      at = is.at;
      low = is.low;
      high = is.high;
      all_white = λ ended. white_stays n i old new passes.colours (lawful.all_white (sym passes.announced ∙ ended));
      all_taken =
          λ ended k l k_in l_in. passes.posted k l k_in l_in ∙ lawful.all_taken (sym passes.announced ∙ ended) k l k_in l_in ∙ sym (passes.taken k l k_in l_in);
      reason = is.reason;
    }

-- ---- announce
announced_reason : (n : ℕ) (old new : Ring) (token : Token) → token.at < n → CountsStay n old.posted new.posted → CountsStay n old.taken new.taken →
    ColoursStay n old new → Reason n old token → Reason n new token
announced_reason n old new token at posted taken colours (counted white sum) =
    counted (λ i above within. colours i within ∙ white i above within)
    (omega (arith, ints, sum, counters_stay n n old new (omega arith) posted taken, counters_stay n (suc token.at) old new (omega arith) posted taken))
announced_reason n old new token at posted taken colours (positive more) =
    positive (omega (arith, ints, more, counters_stay n (suc token.at) old new (omega arith) posted taken))
announced_reason n old new token at posted taken colours (black_node k within is_black) = black_node k within (colours k (omega arith) ∙ is_black)
announced_reason n old new token at posted taken colours (black_token is_black) = black_token is_black

announces_kept : (n : ℕ) (old new : Ring) → IsSize n → IsLawfulRing n old → Announces n old new → IsLawfulRing n new
announces_kept n old new size lawful announces =
    let end : IsRingQuiet n old = quiet n old true size lawful announces.announceable in
    record {
      in_order = λ k l k_in l_in. omega (arith, announces.posted k l k_in l_in, announces.taken k l k_in l_in, lawful.in_order k l k_in l_in);
      few = λ k l k_in l_in. omega (arith, announces.posted k l k_in l_in, lawful.few k l k_in l_in);
      at = subst (λ (t : Token). t.at < n) (sym announces.token) lawful.at;
      low = subst (λ (t : Token). neg_ℤ (pos ((n - 1 - t.at) * 2 ^ 44)) ≤ℤ t.sum) (sym announces.token) lawful.low;
      high = subst (λ (t : Token). t.sum ≤ℤ pos ((n - 1 - t.at) * 2 ^ 44)) (sym announces.token) lawful.high;
      all_white = λ ended k within. announces.colours k within ∙ end.all_white k within;
      all_taken = λ ended k l k_in l_in. announces.posted k l k_in l_in ∙ end.all_taken k l k_in l_in ∙ sym (announces.taken k l k_in l_in);
      reason = subst (λ (t : Token). Reason n new t) (sym announces.token)
          (announced_reason n old new old.token lawful.at announces.posted announces.taken announces.colours lawful.reason);
    }

-- ---- any event
pub moved_kept : (n : ℕ) (old new : Ring) (event : RingEvent) → IsSize n → IsLawfulRing n old → Moved n old event new → HasFew n new → IsLawfulRing n new
moved_kept n old new (Post from to) size lawful moved few = posts_kept n from to old new lawful moved few
moved_kept n old new (Take from to) size lawful moved few = takes_kept n from to old new lawful moved few
moved_kept n old new (Pass node) size lawful moved few = passes_kept n node old new size lawful moved
moved_kept n old new Announce size lawful moved few = announces_kept n old new size lawful moved

-- ---- after the end
announced_stays : (n : ℕ) (old new : Ring) (event : RingEvent) → old.announced ≡ true → Moved n old event new → new.announced ≡ true
announced_stays n old new Announce ended moved = moved.announced
announced_stays n old new _ ended moved = moved.announced ∙ ended

-- no event after the end raises a posted count
few_stay : (n : ℕ) (old new : Ring) (event : RingEvent) → IsLawfulRing n old → old.announced ≡ true → Moved n old event new → HasFew n new
few_stay n old new (Post from to) lawful ended moved i j i_in j_in =
    absurd (let is_white : old.black from ≡ false = lawful.all_white ended from moved.from in let is_black : old.black from ≡ true = moved.is_black in cc)
few_stay n old new _ lawful ended moved i j i_in j_in = omega (arith, moved.posted i j i_in j_in, lawful.few i j i_in j_in)

pub end_stays : (n : ℕ) (old new : Ring) (event : RingEvent) → IsSize n → IsLawfulRing n old → old.announced ≡ true → Moved n old event new →
    (new.announced ≡ true) × IsRingQuiet n new
end_stays n old new event size lawful ended moved =
    let still : new.announced ≡ true = announced_stays n old new event ended moved in
    let kept : IsLawfulRing n new = moved_kept n old new event size lawful moved (few_stay n old new event lawful ended moved) in (
      still,
      record {
        all_white = kept.all_white still;
        all_taken = kept.all_taken still;
        none_in_flight = none_in_flight n new (kept.all_taken still);
      },
    )

-- ---- what fits
pub lawful_fits : (n : ℕ) (ring : Ring) → IsSize n → IsLawfulRing n ring → Fits n ring
lawful_fits n ring size lawful =
    let at : ℕ = ring.token.at in
    let most : sum_below n (λ j. ring.posted at j) ≤ 2 ^ 44 = posted_bound n ring at size.1 lawful.at lawful.few in
    let least : sum_below n (λ j. ring.taken j at) ≤ 2 ^ 44 = taken_bound n ring at size.1 lawful.at (taken_few n ring lawful) in
    let room : at < n = lawful.at in
    let few : n ≤ 16 = size.1 in
    let low : neg_ℤ (pos ((n - 1 - at) * 2 ^ 44)) ≤ℤ ring.token.sum = lawful.low in
    let high : ring.token.sum ≤ℤ pos ((n - 1 - at) * 2 ^ 44) = lawful.high in
    record {
      token = record { few_nodes = omega (arith, room, few); low = omega (arith, ints, low, few, room); high = omega (arith, ints, high, few, room) };
      low = omega (arith, ints, low, most, least, few, room);
      high = omega (arith, ints, high, most, least, few, room);
    }
