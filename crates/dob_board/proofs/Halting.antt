-- The halt of a board: a look at it, a failure, and the announcement of the end.
use Rattle.std.proofs.Common.{◌≡◌, ℕ, zero, suc, ◌+◌, ◌<◌, ◌⊎◌, List, [], ◌∷◌, length, set, get_or, Bool, true, false, eqb, eq-eqb, ne_eqb, refl, sym, ap}
use Rattle.std.proofs.Common.{◌∙◌, subst, inl, inr, arith, length-set, get_or-set_same, get_or-set_other}
use Rattle.dob_board.proofs.Names.{slice_index, slice_set, either, none, step, Token, BoardEvent, OfRing, Failure, Announce, IsPacked, MayAnnounce, Ring}
use Rattle.dob_board.proofs.Names.{CountsStay, ColoursStay, counter, IsLawfulRing, Announces, Halt, Running, Ended, Failed, SeatState, View, halt_word, halt_after}
use Rattle.dob_board.proofs.Names.{ring_of, one, counter_of, finds, IsStand, Runs, MakesEvent, HasHalt, IsHeld, NodeSeat, MayEnd, witnessed_by}
use Rattle.dob_board.proofs.Names.{LooksAt, Announcing, Halted, FailedRun, Announced, Exchanged, own_stand}
use Rattle.dob_board.proofs.Kept.{HasSeat, Writes, Leaves, AreBy, ring_before, ring_stays, counts_left, counts_stay, knows_now, goes_further, own_node, own_alone}
use Rattle.dob_board.proofs.Kept.{kept, happened, known}
use Rattle.dob_board.proofs.Allowed.{Seated, Asks, asks, asks_load, own, set_same}
use Rattle.dob_board.proofs.Passing.{posted_apart, taken_apart, counter_is}

-- ---- the word of a halt

-- the halt of each word
abbrev halt_at : ℕ → Halt
halt_at zero = Running
halt_at (suc zero) = Ended
halt_at (suc (suc node)) = Failed node

halt_at_word : (halt : Halt) → halt_at (halt_word halt) ≡ halt
halt_at_word Running = refl
halt_at_word Ended = refl
halt_at_word (Failed node) = let word : 2 + node ≡ suc (suc node) = omega arith in ap halt_at word

-- it is no other's
pub same_halt : (one other : Halt) → halt_word one ≡ halt_word other → one ≡ other
same_halt one other e = sym (halt_at_word one) ∙ ap halt_at e ∙ halt_at_word other

-- the halt word after an exchange, as the table and as the board say it
exchanged : (found mark : Halt) → either (eqb (halt_word found) 0) (halt_word mark) (halt_word found) ≡ halt_word (halt_after found mark)
exchanged Running mark = refl
exchanged Ended mark = refl
exchanged (Failed node) mark = let no' : eqb (2 + node) 0 ≡ false = ne_eqb (2 + node) 0 (λ e. omega (arith, e)) in rw no' refl

-- the run goes on, or an exchange changes nothing
goes_or : (found : Halt) → (found ≡ Running) ⊎ ((mark : Halt) → halt_after found mark ≡ found)
goes_or Running = inl refl
goes_or Ended = inr (λ mark. refl)
goes_or (Failed node) = inr (λ mark. refl)

-- ---- what a node knows of the halt

-- a node that found the halt, or made it, knows what is right
finds_stand : (n i : ℕ) (halt now : Halt) (old new : Ring) (stand : SeatState) → i < n → CountsStay n old.posted new.posted → CountsStay n old.taken new.taken →
    ColoursStay n old new → new.token ≡ old.token → (now ≡ Ended → new.announced ≡ true) → IsStand n old halt i stand → IsStand n new now i (finds stand now)
finds_stand n i halt now old new stand within posted taken colours token ended is =
    counts_stay n i old new halt now stand stand.black stand.token now within posted taken (is.shows.colour ∙ sym (colours i within))
    (λ seen e. let had = is.shows.token seen e in (had.0 ∙ sym token, had.1)) ended (knows_now i now) is

-- in a ring that stays
finds_there : (n i : ℕ) (halt now : Halt) (ring : Ring) (stand : SeatState) → i < n → (now ≡ Ended → ring.announced ≡ true) → IsStand n ring halt i stand →
    IsStand n ring now i (finds stand now)
finds_there n i halt now ring stand within =
    finds_stand n i halt now ring ring stand within (λ k l k_in l_in. refl) (λ k l k_in l_in. refl) (λ k k_in. refl) refl

-- a write of a halt's word
writes_halt : {n : ℕ} {words : List ℕ} {views : List View} (held : IsHeld n words views) (halt : Halt) → Writes n words (set words 2 (halt_word halt)) held.token halt
writes_halt {words = words} held halt = record {
  long = length-set words 2 (halt_word halt);
  nodes = get_or-set_other words 2 0 (halt_word halt) 0 (λ e. omega (arith, e));
  packed = subst (IsPacked held.token) (sym (get_or-set_other words 2 1 (halt_word halt) 0 (λ e. omega (arith, e)))) held.packed;
  halt_is = get_or-set_same words 2 (halt_word halt) 0 (omega (arith, held.wide));
}

-- a halt other than the end in place of another such one leaves the ring
same_ring : {n : ℕ} {words : List ℕ} {views : List View} (held : IsHeld n words views) (node : ℕ) → held.halt ≡ Running →
    ring_of n words held.black held.token ≡ ring_of n (set words 2 (2 + node)) held.black held.token
same_ring {n = n} {words = words} held node running =
    let before : eqb (slice_index words 2) 1 ≡ false = ap (λ (h : ℕ). eqb h 1) (held.halt_is ∙ ap halt_word running) in
    let after : eqb (get_or (set words 2 (2 + node)) 2 0) 1 ≡ false =
    ap (λ (h : ℕ). eqb h 1) (writes_halt held (Failed node)).halt_is ∙ ne_eqb (2 + node) 1 (λ e. omega (arith, e)) in
    λ q. record {
      posted = λ i j. (sym (posted_apart n 2 (2 + node) words (omega arith) i j)) q;
      taken = λ i j. (sym (taken_apart n 2 (2 + node) words (omega arith) i j)) q;
      black = held.black;
      token = held.token;
      announced = (before ∙ sym after) q;
    }

-- what an announcement changes of the ring
announces_moved : (n : ℕ) (words : List ℕ) (black : ℕ → Bool) (token : Token) → 2 < length words →
    MayAnnounce token (counter n (ring_of n words black token) 0) (black 0) true →
    Announces n (ring_of n words black token) (ring_of n (set words 2 1) black token)
announces_moved n words black token wide may = record {
  announceable = may;
  posted = λ k l k_in l_in. posted_apart n 2 1 words (omega arith) k l;
  taken = λ k l k_in l_in. taken_apart n 2 1 words (omega arith) k l;
  colours = λ k k_in. refl;
  token = refl;
  announced = eq-eqb (get_or (set words 2 1) 2 0) 1 (get_or-set_same words 2 1 0 wide);
}

-- an announcement by node 0 is none by another node
announces_by : (i : ℕ) (log : List BoardEvent) → i ≡ 0 → AreBy i (OfRing Announce ∷ []) log
announces_by i log first k apart = let other : eqb k 0 ≡ false = ne_eqb k 0 (λ e. apart (e ∙ sym first)) in rw other refl

module _ {n i id : ℕ} {words : List ℕ} {views : List View} {stand : SeatState} {witnessed : List BoardEvent} (seat : HasSeat n i id words views stand witnessed) where
  ended_white : seat.held.halt ≡ Ended → stand.black ≡ false
  ended_white e = (own_node seat).is_stand.shows.colour
      ∙ seat.held.lawful.all_white (ap (λ (h : ℕ). eqb h 1) (seat.held.halt_is ∙ ap halt_word e)) i (own_node seat).within

  -- ---- a look

  looks_at_halt : IsHeld n words (slice_set views id (one n i (finds stand seat.held.halt) seat.held.log))
      × LooksAt n i stand witnessed seat.held.halt seat.held.halt seat.held.log
  looks_at_halt =
      let mine = own_node seat in
      let word : (ring_before seat).announced ≡ eqb (halt_word seat.held.halt) 1 = ap (λ (h : ℕ). eqb h 1) seat.held.halt_is in
      let made = known seat (finds stand seat.held.halt) (HasHalt (halt_word seat.held.halt))
      (finds_there n i seat.held.halt seat.held.halt (ring_before seat) stand mine.within (λ e. word ∙ ap (λ (h : Halt). eqb (halt_word h) 1) e) mine.is_stand) word in (
        made.0,
        record {
          is_told = record { within = seat.held.halt_within; stays = mine.is_stand.knows.seen; told = seat.held.told; white = ended_white };
          announced = mine.is_stand.knows.announced;
          observed = made.1;
        },
      )

  -- ---- a failure

  fails : seat.held.halt ≡ Running → IsHeld n (set words 2 (2 + i)) (slice_set views id (one n i (finds stand (Failed i)) (Failure i ∷ seat.held.log)))
      × LooksAt n i stand witnessed seat.held.halt (Failed i) (Failure i ∷ seat.held.log)
  fails running =
      let old : Ring = ring_before seat in
      let new : Ring = ring_of n (set words 2 (2 + i)) seat.held.black seat.held.token in
      let mine = own_node seat in
      let same : old ≡ new = same_ring seat.held i running in
      let lawful : IsLawfulRing n new = subst (IsLawfulRing n) same seat.held.lawful in
      let runs : Runs n (Failure i ∷ seat.held.log) new = (sym seat.held.told ∙ ap halt_word running, subst (Runs n seat.held.log) same seat.held.runs) in
      let now : IsStand n new (Failed i) i (finds stand (Failed i)) = subst (λ (ring : Ring). IsStand n ring (Failed i) i (finds stand (Failed i))) same
      (finds_there n i seat.held.halt (Failed i) old stand mine.within (λ e. absurd (cc)) mine.is_stand) in
      let leaves : Leaves n i old new seat.held.halt (Failed i) =
      subst (λ (ring : Ring). Leaves n i old ring seat.held.halt (Failed i)) same (ring_stays n i old seat.held.halt (Failed i) (record {
        seen = λ known ne e. absurd (ne (sym e ∙ running));
        failed = λ k apart e. absurd (let is : i ≡ k = cc in apart (sym is));
        ended = λ k apart first e. absurd (cc);
      })) in (
        kept seat (set words 2 (2 + i)) (finds stand (Failed i)) (Failure i ∷ []) seat.held.black seat.held.token (Failed i) (writes_halt seat.held (Failed i))
            (omega (arith, mine.within)) lawful runs refl (λ k apart. refl) leaves now,
        record {
          is_told = record {
            within = omega (arith, mine.within);
            stays = λ ne. absurd (ne (sym (mine.is_stand.knows.seen ne) ∙ running));
            told = refl;
            white = λ e. absurd (cc);
          };
          announced = λ first e. absurd (cc);
          observed = record {
            went_on = goes_further witnessed seat.held.log (Failure i ∷ []) (seat.held.views_are id (one n i stand witnessed) seat.at).was_witnessed;
            alone = own_alone seat;
            ring = new;
            runs = runs;
            is_lawful = lawful;
            shows = now.shows;
            is_so = ap (λ (h : ℕ). eqb h 1) (writes_halt seat.held (Failed i)).halt_is ∙ ne_eqb (2 + i) 1 (λ e. omega (arith, e))
                ∙ sym (ap (λ (h : Halt). eqb (halt_word h) 1) running);
          };
        },
      )

  -- ---- an announcement

  module _ (may : MayEnd stand) where
    at_first : i ≡ 0
    at_first = sym ((own_node seat).is_stand.shows.token may.token may.known).1 ∙ may.may.at_first

    announces : seat.held.halt ≡ Running → IsHeld n (set words 2 1) (slice_set views id (one n i (finds stand Ended) (OfRing Announce ∷ seat.held.log)))
        × MakesEvent n i Announce stand (finds stand Ended) witnessed (OfRing Announce ∷ seat.held.log)
    announces running =
        let old : Ring = ring_before seat in
        let new : Ring = ring_of n (set words 2 1) seat.held.black seat.held.token in
        let mine = own_node seat in
        let is = mine.is_stand in
        let known_token = is.shows.token may.token may.known in
        let sums : counter n old i ≡ counter_of stand = counter_is n i seat.held.halt old stand is in
        let may_i : MayAnnounce seat.held.token (counter n old i) (seat.held.black i) true =
        subst (λ (p : Token × _ × Bool). MayAnnounce p.0 p.1 p.2 true) (λ q. (known_token.0 q, sym sums q, is.shows.colour q)) may.may in
        let moved : Announces n old new = announces_moved n words seat.held.black seat.held.token (omega (arith, seat.held.wide))
        (subst (λ (k : ℕ). MayAnnounce seat.held.token (counter n old k) (seat.held.black k) true) at_first may_i) in
        happened seat Announce (set words 2 1) (finds stand Ended) seat.held.black seat.held.token Ended (writes_halt seat.held Ended) (omega arith)
        (ap (λ (h : ℕ). eqb h 1) (seat.held.halt_is ∙ ap halt_word running)) moved
        (λ k l k_in l_in. omega (arith, moved.posted k l k_in l_in, seat.held.lawful.few k l k_in l_in)) refl (announces_by i seat.held.log at_first)
        (counts_left n i old new seat.held.halt Ended moved.posted moved.taken (λ k k_in apart. moved.colours k k_in) (λ k apart e. moved.token)
        (λ e. moved.announced) (record {
          seen = λ known ne e. absurd (ne (sym e ∙ running));
          failed = λ k apart e. absurd (cc);
          ended = λ k apart first e. absurd (apart (first ∙ sym at_first));
        }))
        (finds_stand n i seat.held.halt Ended old new stand mine.within moved.posted moved.taken moved.colours moved.token (λ e. moved.announced) is)

    told_end : seat.held.halt ≡ Running → (log : List BoardEvent) × IsHeld n (set words 2 1) (slice_set views id (one n i (finds stand Ended) log))
        × Announcing n i stand witnessed Ended log
    told_end running =
        let made = announces running in (
          OfRing Announce ∷ seat.held.log,
          made.0,
          record {
            is_told = record {
              within = omega arith;
              stays = λ ne. absurd (ne (sym ((own_node seat).is_stand.knows.seen ne) ∙ running));
              told = refl;
              white = λ e. may.may.white_node;
            };
            own = λ e. absurd (cc);
            event = inl (refl, made.1);
          },
        )

    found_end : Announcing n i stand witnessed seat.held.halt seat.held.log
    found_end = let looks = looks_at_halt.1 in record {
      is_told = looks.is_told;
      own = λ e. (own_node seat).is_stand.knows.failed e ∙ sym e;
      event = inr (looks.announced at_first, looks.observed);
    }

-- ---- what the steps ask
pub halts_asks : (seat : NodeSeat) → Asks seat 2 (λ x. x) (Halted (step 0 2 0 0 none))
halts_asks seat = asks_load seat 2 (Halted (step 0 2 0 0 none)) (omega arith) (λ words views here.
    let made = looks_at_halt here in (
      finds seat.stand here.held.halt,
      here.held.log,
      made.0,
      λ halt e. rw (same_halt halt here.held.halt (e ∙ here.held.halt_is)) (refl, made.1, λ own'. (own_node here).is_stand.knows.failed own' ∙ sym own'),
    ))

-- An exchange leaves the mark where the run goes on, and what is found else.
exchanges : (seat : NodeSeat) (mark_of : Seated → Halt) (Shown : Seated → Halt → Halt → List BoardEvent → Type 0) →
    ((words : List ℕ) (views : List View) (here : HasSeat seat.nodes seat.node seat.seat.id words views seat.stand (witnessed_by seat)) →
    (here.held.halt ≡ Running → (log : List BoardEvent) × IsHeld seat.nodes (set words 2 (halt_word (mark_of (own seat))))
    (slice_set views seat.seat.id (one seat.nodes seat.node (finds seat.stand (mark_of (own seat))) log))
    × Shown (own seat) here.held.halt (mark_of (own seat)) log)
    × Shown (own seat) here.held.halt here.held.halt here.held.log) →
    Asks seat 2 (λ x. either (eqb x 0) (halt_word (mark_of (own seat))) x) (λ me found. Exchanged me found (mark_of me) (Shown me))
exchanges seat mark_of Shown gives =
    let mark : Halt = mark_of (own seat) in
    asks seat 2 (λ x. either (eqb x 0) (halt_word mark) x) (λ me found. Exchanged me found (mark_of me) (Shown me)) (omega arith)
    (λ words views here.
    let halt : Halt = here.held.halt in
    let Left : Halt → Type 0 = λ now. (log : List BoardEvent)
    × IsHeld seat.nodes (set words 2 (halt_word now)) (slice_set views seat.seat.id (one seat.nodes seat.node (finds seat.stand now) log))
    × Shown (own seat) halt now log in
    let left : Left (halt_after halt mark) = elim (goes_or halt) [
      | inl running ↦ subst Left (sym (ap (λ (h : Halt). halt_after h mark) running)) ((gives words views here).0 running)
      | inr stopped ↦ subst Left (sym (stopped mark)) (
        here.held.log,
        subst (λ (w : ℕ). IsHeld seat.nodes (set words 2 w) (slice_set views seat.seat.id (one seat.nodes seat.node (finds seat.stand halt) here.held.log)))
            here.held.halt_is (rw (set_same words 2) (looks_at_halt here).0),
        (gives words views here).1,
      )
    ] in (
      finds seat.stand (halt_after halt mark),
      left.0,
      rw (here.held.halt_is, exchanged halt mark) left.1,
      λ was e. rw (same_halt was halt (e ∙ here.held.halt_is)) (refl, left.2),
    ))

pub fails_asks : (seat : NodeSeat) → Asks seat 2 (λ x. either (eqb x 0) (2 + seat.node) x) (FailedRun (step 0 2 0 (2 + seat.node) none))
fails_asks seat = exchanges seat (λ me. Failed me.0.from) (λ me. LooksAt me.0.size me.0.from (own_stand me) me.0.witnessed)
    (λ words views here. ((λ running. (let made = fails here running in (Failure seat.node ∷ here.held.log, made.0, made.1))), (looks_at_halt here).1))

pub announces_asks : (seat : NodeSeat) → MayEnd seat.stand → Asks seat 2 (λ x. either (eqb x 0) 1 x) (Announced (step 0 2 0 1 none))
announces_asks seat may = exchanges seat (λ me. Ended) (λ me was. Announcing me.0.size me.0.from (own_stand me) me.0.witnessed)
    (λ words views here. (told_end here may, found_end here may))
