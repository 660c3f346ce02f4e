-- The token of a board: its word, a look at it, and a pass.
use Rattle.std.proofs.Common.{◌≡◌, ℕ, zero, suc, ◌+◌, ◌-◌, ◌*◌, ◌^◌, ◌<◌, ◌≤◌, List, [], ◌∷◌, length, set, Bool, true, false, eqb, eq-eqb, ne_eqb, Some}
use Rattle.std.proofs.Common.{refl, sym, ap, ◌∙◌, subst, inl, inr, arith, length-set, get_or-set_same, get_or-set_other}
use Rattle.dob_board.proofs.Names.{ℤ, pos, neg_ℤ, ◌-ℤ◌, ints, sum_by-cons, slice_index, slice_set, sum, ◌≤ℤ◌, cases_eq, none, step, Halt, IsLawfulRing, Shows}
use Rattle.dob_board.proofs.Names.{Token, BoardEvent, OfRing, Pass, IsToken, IsPacked, passed_on, Ring, counter, sum_below, Passes, sum_same, SeatState}
use Rattle.dob_board.proofs.Names.{View, posted_word, taken_word, ring_of, one, token_at, meets, counter_of, passed_by, passes, IsStand, IsInBounds}
use Rattle.dob_board.proofs.Names.{IsTokenInBounds, MakesEvent, HasToken, IsHeld, Met, Passed, NodeSeat}
use Rattle.dob_board.proofs.Places.{with_at, posted_in, taken_in}
use Rattle.dob_board.proofs.Kept.{HasSeat, AreBy, halt_stays, counts_left, counts_stay, ring_before, own_node, happened, known}
use Rattle.dob_board.proofs.Steps.{painted_colours}
use Rattle.dob_board.proofs.Allowed.{Asks, asks, asks_load}

-- ---- the word of a token

-- a token that is seen at node i is at node i
pub seen_there : (i : ℕ) (token known : Token) → token_at i token ≡ Some known → (known ≡ token) × (known.at ≡ i)
seen_there i token known e =
    elim (cases_eq token.at i) [
      | inl here ↦ let yes : eqb token.at i ≡ true = eq-eqb token.at i here in
          let same : token ≡ known = cc in (sym same, ap (λ (t : Token). t.at) (sym same) ∙ here)
      | inr apart ↦ let no' : eqb token.at i ≡ false = ne_eqb token.at i apart in absurd (cc)
    ]

-- a token that a node knows, where a lawful ring shows how it stands, has a sum in bounds
shown_bounds : (n i : ℕ) (ring : Ring) (stand : SeatState) → IsLawfulRing n ring → Shows n ring i stand → IsTokenInBounds n i stand
shown_bounds n i ring stand lawful shows token e =
    let had = shows.token token e in
    let here : ring.token.at ≡ i = ap (λ (t : Token). t.at) (sym had.0) ∙ had.1 in (
      had.1,
      subst (λ (p : Token × ℕ). neg_ℤ (pos ((n - 1 - p.1) * 2 ^ 44)) ≤ℤ p.0.sum) (λ q. (sym had.0 q, here q)) lawful.low,
      subst (λ (p : Token × ℕ). p.0.sum ≤ℤ pos ((n - 1 - p.1) * 2 ^ 44)) (λ q. (sym had.0 q, here q)) lawful.high,
    )

-- ---- a node's counter
sum_first : (n : ℕ) (f : ℕ → ℕ) → sum_below (suc n) f ≡ f 0 + sum_below n (λ k. f (suc k))
sum_first zero f = omega arith
sum_first (suc n) f = omega (arith, sum_first n f)

sum_is : (xs : List ℕ) → sum_below (length xs) (λ j. slice_index xs j) ≡ sum xs
sum_is [] = refl
sum_is (x ∷ xs) = sum_first (length xs) (λ j. slice_index (x ∷ xs) j) ∙ ap (λ (m : ℕ). x + m) (sum_is xs) ∙ sym (sum_by-cons (λ (y : ℕ). y) x xs)

sum_shown : (n : ℕ) (xs : List ℕ) (f : ℕ → ℕ) → length xs ≡ n → ((j : ℕ) → j < n → slice_index xs j ≡ f j) → sum_below n f ≡ sum xs
sum_shown n xs f long are =
    sum_same n (λ j. slice_index xs j) f (λ j j_in. sym (are j j_in)) ∙ ap (λ (m : ℕ). sum_below m (λ j. slice_index xs j)) (sym long) ∙ sum_is xs

pub counter_is : (n i : ℕ) (halt : Halt) (ring : Ring) (stand : SeatState) → IsStand n ring halt i stand → counter n ring i ≡ counter_of stand
counter_is n i halt ring stand is = λ q. pos (sum_shown n stand.posted (ring.posted i) is.long.posted is.shows.posted q)
    -ℤ pos (sum_shown n stand.taken (λ j. ring.taken j i) is.long.taken is.shows.taken q)

-- ---- token
meets_stand : (n i : ℕ) (halt : Halt) (ring : Ring) (stand : SeatState) → i < n → IsStand n ring halt i stand → IsStand n ring halt i (meets i stand ring.token)
meets_stand n i halt ring stand within is =
    counts_stay n i ring ring halt halt stand stand.black (token_at i ring.token) stand.halt within (λ k l k_in l_in. refl) (λ k l k_in l_in. refl) is.shows.colour
    (λ token e. seen_there i ring.token token e) is.shows.ended is.knows is

pub meets_asks : (seat : NodeSeat) → Asks seat 1 (λ x. x) (Met (step 0 1 0 0 none))
meets_asks seat = asks_load seat 1 (Met (step 0 1 0 0 none)) (omega arith) (λ words views here.
    let token : Token = here.held.token in
    let mine = own_node here in
    let is = meets_stand seat.nodes seat.node here.held.halt (ring_before here) seat.stand mine.within mine.is_stand in
    let made = known here (meets seat.node seat.stand token) (HasToken token) is refl in (
      meets seat.node seat.stand token,
      here.held.log,
      made.0,
      (
        token,
        here.held.packed,
        (refl, made.1),
        (λ seen e. sym (mine.is_stand.shows.token seen e).0),
        shown_bounds seat.nodes seat.node (ring_before here) (meets seat.node seat.stand token) here.held.lawful is.shows,
      ),
    ))

-- ---- pass
pub posted_apart : (n w v : ℕ) (words : List ℕ) → w < 3 → (k l : ℕ) → posted_in n (set words w v) k l ≡ posted_in n words k l
posted_apart n w v words head k l = get_or-set_other words w (posted_word n k l) v 0 (λ e. omega (arith, e))

pub taken_apart : (n w v : ℕ) (words : List ℕ) → w < 3 → (k l : ℕ) → taken_in n (set words w v) k l ≡ taken_in n words k l
taken_apart n w v words head k l = get_or-set_other words w (taken_word n k l) v 0 (λ e. omega (arith, e))

passes_moved : (n i word : ℕ) (words : List ℕ) (black : ℕ → Bool) (old next : Token) → old.at ≡ i →
    next ≡ passed_on n old (counter n (ring_of n words black old) i) (black i) →
    Passes n (ring_of n words black old) i (ring_of n (set words 1 word) (with_at i false black) next)
passes_moved n i word words black old next at is = record {
  at = at;
  posted = λ k l k_in l_in. posted_apart n 1 word words (omega arith) k l;
  taken = λ k l k_in l_in. taken_apart n 1 word words (omega arith) k l;
  colours = painted_colours n i false (ring_of n words black old) (ring_of n (set words 1 word) (with_at i false black) next) (λ k. refl);
  token = is;
  announced = ap (λ (halt : ℕ). eqb halt 1) (get_or-set_other words 1 2 word 0 (λ e. omega (arith, e)));
}

passes_stand : (n i : ℕ) (old new : Ring) (halt : Halt) (stand : SeatState) (token : Token) → i < n → Passes n old i new →
    new.token ≡ passed_by n stand token → IsStand n old halt i stand → IsStand n new halt i (passes n i stand token)
passes_stand n i old new halt stand token within moved next is =
    counts_stay n i old new halt halt stand false (token_at i (passed_by n stand token)) stand.halt within moved.posted moved.taken (sym moved.colours.colour_is)
    (λ seen e. let there = seen_there i (passed_by n stand token) seen e in (there.0 ∙ sym next, there.1)) (λ e. moved.announced ∙ is.shows.ended e) is.knows is

-- a pass by node i is none by another node
passes_by : (i : ℕ) (log : List BoardEvent) → AreBy i (OfRing (Pass i) ∷ []) log
passes_by i log k apart = let other : eqb i k ≡ false = ne_eqb i k (λ e. apart (sym e)) in rw other refl

module _ {n i id : ℕ} {words : List ℕ} {views : List View} {stand : SeatState} {witnessed : List BoardEvent} (seat : HasSeat n i id words views stand witnessed)
    (token : Token) (word : ℕ) (has : stand.token ≡ Some token) (packed : IsPacked (passed_by n stand token) word) where
  passes_held : IsHeld n (set words 1 word) (slice_set views id (one n i (passes n i stand token) (OfRing (Pass i) ∷ seat.held.log)))
      × MakesEvent n i (Pass i) stand (passes n i stand token) witnessed (OfRing (Pass i) ∷ seat.held.log)
  passes_held =
      let black : ℕ → Bool = with_at i false seat.held.black in
      let next : Token = passed_by n stand token in
      let after : List ℕ = set words 1 word in
      let old : Ring = ring_before seat in
      let new : Ring = ring_of n after black next in
      let mine = own_node seat in
      let is = mine.is_stand in
      let there = is.shows.token token has in
      let here : seat.held.token.at ≡ i = ap (λ (t : Token). t.at) (sym there.0) ∙ there.1 in
      let sums : counter n old i ≡ counter_of stand = counter_is n i seat.held.halt old stand is in
      let moved : Passes n old i new = passes_moved n i word words seat.held.black seat.held.token next here
      (λ q. passed_on n (there.0 q) (sym sums q) (is.shows.colour q)) in
      happened seat (Pass i) after (passes n i stand token) black next seat.held.halt
      (record {
        long = length-set words 1 word;
        nodes = get_or-set_other words 1 0 word 0 (λ e. omega (arith, e));
        packed = subst (IsPacked next) (sym (get_or-set_same words 1 word 0 (omega (arith, seat.held.wide)))) packed;
        halt_is = get_or-set_other words 1 2 word 0 (λ e. omega (arith, e)) ∙ seat.held.halt_is;
      })
      seat.held.halt_within tt moved (λ k l k_in l_in. omega (arith, moved.posted k l k_in l_in, seat.held.lawful.few k l k_in l_in)) seat.held.told
      (passes_by i seat.held.log)
      (counts_left n i old new seat.held.halt seat.held.halt moved.posted moved.taken moved.colours.others (λ k apart e. absurd (apart (sym e ∙ moved.at)))
      (λ e. moved.announced ∙ e) (halt_stays i seat.held.halt))
      (passes_stand n i old new seat.held.halt stand token mine.within moved refl is)

same_token : (first other : Token) → Some first ≡ Some other → first ≡ other
same_token first other e = cc

pub passes_asks : (seat : NodeSeat) (token : Token) (word : ℕ) → seat.stand.token ≡ Some token → IsPacked (passed_by seat.nodes seat.stand token) word →
    Asks seat 1 (λ _. word) (λ me _. Passed (step 0 1 word 0 none) me word)
passes_asks seat token word has packed = asks seat 1 (λ _. word) (λ me _. Passed (step 0 1 word 0 none) me word) (omega arith) (λ words views here.
    let made = passes_held here token word has packed in (
      passes seat.nodes seat.node seat.stand token,
      OfRing (Pass seat.node) ∷ here.held.log,
      made.0,
      λ other has'. rw (← same_token token other (sym has ∙ has')) (
        (refl, made.1),
        shown_bounds seat.nodes seat.node made.1.new (passes seat.nodes seat.node seat.stand token) made.1.is_lawful made.1.shows_after,
      ),
    ))

-- the token that is passed has a word
pub passed_fits : (n i : ℕ) (token : Token) (count : ℤ) (black : Bool) → n ≤ 16 → i < n → IsInBounds n i token →
    neg_ℤ (pos (2 ^ 44)) ≤ℤ count → count ≤ℤ pos (2 ^ 44) → IsToken (passed_on n token count black)
passed_fits n i token count black few within bounds low high =
    elim (cases_eq token.at 0) [
      | inl first ↦ let yes : eqb token.at 0 ≡ true = eq-eqb token.at 0 first in
          rw yes (record { few_nodes = omega arith; low = omega (arith, ints); high = omega (arith, ints) })
      | inr apart ↦ let no' : eqb token.at 0 ≡ false = ne_eqb token.at 0 apart in
          rw no' (record { few_nodes = omega (arith, bounds.0); low = omega (arith, ints, bounds.1, low); high = omega (arith, ints, bounds.2, high) })
    ]
