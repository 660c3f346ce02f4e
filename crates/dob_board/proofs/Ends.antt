-- How seats come back, and what is read at the end.
use Rattle.std.proofs.Common.{◌≡◌, ◌≢◌, ℕ, zero, suc, ◌+◌, ◌-◌, ◌<◌, List, [], ◌∷◌, ◌++◌, length, set, get_or, Some, Bool, true, false, eqb, eq-eqb, refl, sym}
use Rattle.std.proofs.Common.{ap, ◌∙◌, subst, ⊎_elim, inl, inr, arith, map, append-nil, append_assoc, length-append, get_or-set_same, get_or-set_other}
use Rattle.dob_board.proofs.Names.{slice_get_within, some_at, slice_index, slice_set, slice_get, replicate, cases_eq, ints, same_Some, map-append, none, some}
use Rattle.dob_board.proofs.Names.{some-ne-none, some-injective, get_elem?, State, step, keeps, Allows, Joins, at_set, set_else, BoardEvent, Token, IsPacked}
use Rattle.dob_board.proofs.Names.{Ring, SeatState, View, Halt, Ended, Failed, halt_word, posted_word, taken_word, ring_of, one, IsStand, IsNode, IsView, IsHeld, TableId, NodeSeat}
use Rattle.dob_board.proofs.Names.{Closed, IsLaterLog, fresh, stand_of, witnessed_by, log_of, IsSeatOf, AreSeats, AreWords, IsBoardHistory, joined, nobody}
use Rattle.dob_board.proofs.Names.{unseated, closed_view, LeadsTo, IsWord, AreRead, AreAsWitnessed, Read, get_front, middle}
use Rattle.dob_board.proofs.Places.{with_at, with_here, with_else, posted_within, taken_within}
use Rattle.dob_board.proofs.Kept.{HasSeat, nodes_set, own_node, with_views}
use Rattle.dob_board.proofs.Allowed.{Seated, seated, Held, set_same}
use Rattle.dob_board.proofs.Halting.{same_halt}
use Rattle.dob_board.proofs.Once.{run_once}
use Rattle.dob_board.proofs.Starts.{elsewhere}

-- ---- join
nobody_is_view : (n port : ℕ) (halt : Halt) (owner : ℕ → ℕ) (ring : Ring) (log : List BoardEvent) → IsView n owner ring halt log port nobody
nobody_is_view n port halt owner ring log = record {
  was_witnessed = (log, sym (append-nil log));
  nodes = λ k stand e. absurd (some-ne-none stand (sym e));
  alone = λ own k stand e. absurd (some-ne-none stand (sym e));
  is_closed = λ e. absurd (cc);
}

-- the rest's view, closed or not
abbrev rest_view : ℕ → ℕ → List SeatState → List BoardEvent → Bool → Bool → View
rest_view n from stands witnessed own closed = record { size = n; from = from; stands = stands; witnessed = witnessed; own = own; closed = closed }

joins : (n i id other size : ℕ) (words : List ℕ) (views : List View) (stand : SeatState) (behind : List SeatState) (witnessed observed : List BoardEvent) (own closed : Bool)
    (held : IsHeld n words views) →
    get_elem? views id ≡ some (rest_view size (suc i) behind witnessed own closed) → other ≢ id →
    get_elem? (slice_set views id (rest_view n i (stand ∷ behind) observed false false)) other ≡ some (one n i stand observed) →
    IsHeld n words (slice_set (slice_set views id (rest_view n i (stand ∷ behind) observed false false)) other nobody)
joins n i id other size words views stand behind witnessed observed own closed held at apart there =
    let ring : Ring = ring_of n words held.black held.token in
    let halt : Halt = held.halt in
    let both : View = rest_view n i (stand ∷ behind) observed false false in
    let at_other : get_elem? views other ≡ some (one n i stand observed) = sym (set_else views id other both apart) ∙ there in
    let seat : HasSeat n i other words views stand observed = record { held = held; at = at_other } in
    let mine = own_node seat in
    let rest = held.views_are id (rest_view size (suc i) behind witnessed own closed) at in
    let owner : ℕ → ℕ = with_at i id held.owner in
    with_views n words views (slice_set (slice_set views id both) other nobody) owner held
    (λ port view e.
    ⊎_elim
    (λ (x : (port ≡ other) × (nobody ≡ view)). subst (λ (v : View). IsView n owner ring halt held.log port v) x.1
    (nobody_is_view n port halt owner ring held.log))
    (λ (x : (port ≢ other) × (get_elem? (set views id both) port ≡ some view)).
    ⊎_elim
    (λ (y : (port ≡ id) × (both ≡ view)).
    subst (λ (p : ℕ × View). IsView n owner ring halt held.log p.0 p.1) (λ q. (sym y.0 q, y.1 q))
    (record {
      was_witnessed = (held.views_are other (one n i stand observed) at_other).was_witnessed;
      nodes = both_nodes n i id halt size held.owner ring stand behind mine.within mine.is_stand rest.nodes;
      alone = λ e'. absurd (cc);
      is_closed = λ e'. absurd (cc);
    }))
    (λ (y : (port ≢ id) × (get_elem? views port ≡ some view)).
    elsewhere n i other id port halt held.owner ring held.log view mine.within mine.owned x.0 (held.views_are port view y.1))
    (at_set views id port both view x.1))
    (at_set (set views id both) other port nobody view e))
    (omega (
      arith,
      nodes_set views id (rest_view size (suc i) behind witnessed own closed) both at,
      nodes_set (set views id both) other (one n i stand observed) nobody there,
    ))
  where
    both_nodes : (n i id : ℕ) (halt : Halt) (size : ℕ) (owner : ℕ → ℕ) (ring : Ring) (stand : SeatState) (behind : List SeatState) → i < n → IsStand n ring halt i stand →
        ((k : ℕ) (at : SeatState) → get_elem? behind k ≡ some at → IsNode n owner ring halt id size (suc i + k) at) →
        (k : ℕ) (at : SeatState) → get_elem? (stand ∷ behind) k ≡ some at → IsNode n (with_at i id owner) ring halt id n (i + k) at
    both_nodes n i id halt size owner ring stand behind within is rest zero at e =
        let first : i ≡ i + 0 = omega arith in
        let here : IsNode n (with_at i id owner) ring halt id n i stand =
        record { size_is = refl; within = within; owned = with_here i id owner; is_stand = is } in
        subst (λ (x : ℕ × SeatState). IsNode n (with_at i id owner) ring halt id n x.0 x.1) (λ q. (first q, some-injective stand at e q)) here
    both_nodes n i id halt size owner ring stand behind within is rest (suc k) at e =
        let node = rest k at e in
        let place : suc i + k ≡ i + suc k = omega arith in
        let apart : suc i + k ≢ i = λ same. omega (arith, same) in
        subst (λ (x : ℕ). IsNode n (with_at i id owner) ring halt id n x at) place
        (record { size_is = refl; within = node.within; owned = with_else i (suc i + k) id owner apart ∙ node.owned; is_stand = node.is_stand })

pub joins_call : (key n i id other : ℕ) (view : View) (me : Seated) (stand : SeatState) (observed : List BoardEvent) → key ≡ n → view.from ≡ suc i
    → me ≡ seated n i stand observed →
    Joins (Held key) id view other me.0 (joined view me.0) nobody
joins_call key n i id other view me stand observed key_is from_is me_is =
    let from_here : (s : State (Unit {0}) View) → Held n s → get_elem? s.views id ≡ some view → ¬ (other ≡ id) →
    get_elem? (slice_set s.views id (joined view (one n i stand observed))) other ≡ some (one n i stand observed) →
    IsHeld n s.words (slice_set (slice_set s.views id (joined view (one n i stand observed))) other nobody) =
    λ s held at apart there. joins n i id other view.size s.words s.views stand view.stands view.witnessed observed view.own view.closed held
    (at ∙ ap (λ (from : ℕ). some (rest_view view.size from view.stands view.witnessed view.own view.closed)) from_is) apart there in
    let view_is : me.0 ≡ one n i stand observed = ap (λ (x : Seated). x.0) me_is in
    subst (λ (p : ℕ × View). Joins (Held p.0) id view other p.1 (joined view p.1) nobody) (λ q. (sym key_is q, sym view_is q)) from_here

-- ---- read
reads : (n w id : ℕ) (words : List ℕ) (views : List View) (view : View) (held : IsHeld n words views) → get_elem? views id ≡ some view → view.from ≡ 0 →
    IsWord n view.stands held.log w (slice_index words w)
reads n w id words views view held at from_is =
    let ring : Ring = ring_of n words held.black held.token in
    let halt : Halt = held.halt in
    let was = held.views_are id view at in
    let node : (k : ℕ) (stand : SeatState) → get_elem? view.stands k ≡ some stand → IsNode n held.owner ring halt id view.size k stand =
    λ k stand e. let place : view.from + k ≡ k = omega (arith, from_is) in
    subst (λ (x : ℕ). IsNode n held.owner ring halt id view.size x stand) place (was.nodes k stand e) in
    let here : w ≡ 2 → slice_index words w ≡ halt_word halt = λ w_is. ap (slice_index words) w_is ∙ held.halt_is in
    let announced : w ≡ 2 → slice_index words w ≡ 1 → ring.announced ≡ true =
    λ w_is found. eq-eqb (slice_index words 2) 1 (ap (slice_index words) (sym w_is) ∙ found) in
    record {
      ring = ring;
      leads = record { runs = held.runs; is_lawful = held.lawful; shows = λ i stand e. (node i stand e).is_stand.shows };
      nodes = λ w_is. ap (slice_index words) w_is ∙ held.nodes;
      token = λ w_is. subst (λ (x : ℕ). IsPacked held.token (slice_index words x)) (sym w_is) held.packed;
      posted = λ i j stand e j_in w_is. ap (slice_index words) w_is ∙ sym ((node i stand e).is_stand.shows.posted j j_in);
      taken = λ i j stand e j_in w_is. ap (slice_index words) w_is ∙ sym ((node i stand e).is_stand.shows.taken j j_in);
      none_own = λ i stand e.
          let at_i = node i stand e in (
            at_i.is_stand.none_own,
            omega (
              arith,
              at_i.is_stand.none_own,
              at_i.is_stand.shows.posted i at_i.within,
              at_i.is_stand.shows.taken i at_i.within,
              held.lawful.in_order i i at_i.within at_i.within,
            ),
          );
      halt_within = λ w_is. omega (arith, here w_is, held.halt_within);
      halt_is = λ w_is. ap (λ (x : ℕ). eqb (slice_index words x) 1) (sym w_is);
      halt_told_is = λ w_is. here w_is ∙ held.told;
      announced = λ w_is found stand e. (node 0 stand e).is_stand.knows.announced refl (same_halt halt Ended (sym (here w_is) ∙ found));
      halt_seen = λ w_is i stand e seen. here w_is ∙ ap halt_word ((node i stand e).is_stand.knows.seen seen);
      failed = λ w_is i stand e found. (node i stand e).is_stand.knows.failed (same_halt halt (Failed i) (sym (here w_is) ∙ found));
      all_white = λ w_is found i stand e. let at_i = node i stand e in at_i.is_stand.shows.colour ∙ held.lawful.all_white (announced w_is found) i at_i.within;
      all_taken = λ w_is found i j first second e f.
          let at_i = node i first e in
          let at_j = node j second f in
          at_i.is_stand.shows.posted j at_j.within ∙ held.lawful.all_taken (announced w_is found) i j at_i.within at_j.within
          ∙ sym (at_j.is_stand.shows.taken i at_i.within);
    }

-- a read by the seat of all nodes closes its view
closes : (n id : ℕ) (words : List ℕ) (views : List View) (view : View) (held : IsHeld n words views) → get_elem? views id ≡ some view → view.from ≡ 0 →
    length view.stands ≡ n → IsHeld n words (slice_set views id (closed_view view.size view.stands held.log))
closes n id words views view held at from_is all_is =
    let ring : Ring = ring_of n words held.black held.token in
    let halt : Halt = held.halt in
    let was = held.views_are id view at in
    let after : View = closed_view view.size view.stands held.log in
    with_views n words views (slice_set views id after) held.owner held
    (λ port other e.
    ⊎_elim
    (λ (x : (port ≡ id) × (after ≡ other)).
    subst (λ (p : ℕ × View). IsView n held.owner ring halt held.log p.0 p.1) (λ q. (sym x.0 q, x.1 q))
    (record {
      was_witnessed = ([], refl);
      nodes = λ k stand e'. subst (λ (from : ℕ). IsNode n held.owner ring halt id view.size (from + k) stand) from_is (was.nodes k stand e');
      alone = λ e'. absurd (cc);
      is_closed = λ e'. record { from_first = refl; all_nodes = all_is; all_witnessed = refl };
    }))
    (λ (x : (port ≢ id) × (get_elem? views port ≡ some other)). held.views_are port other x.1)
    (at_set views id port after other e))
    (omega (arith, nodes_set views id view after at))

pub reads_call : (key n w id slots : ℕ) (me : Seated) → key ≡ n → me.0.size ≡ n → me.0.from ≡ 0 → length me.0.stands ≡ n →
    Allows (Held key) slots id me w (λ x. x) (Read (step slots w 0 0 none) me)
reads_call key n w id slots me key_is size_is from_is all_is s held len at small =
    let was = held.views_are id me.0 at in
    let after : View = closed_view me.0.size me.0.stands held.log in
    let word = reads key w id s.words s.views me.0 held at from_is in (
      after,
      keeps,
      tt,
      subst (λ (ws : List ℕ). IsHeld key ws (slice_set s.views id after)) (sym (set_same s.words w))
          (closes key id s.words s.views me.0 held at from_is (all_is ∙ sym key_is)),
      (
        refl,
        (λ e. sym (was.is_closed e).all_witnessed),
        was.was_witnessed,
        subst (λ (m : ℕ). IsWord m me.0.stands held.log w (slice_index s.words w)) (key_is ∙ sym size_is) word,
      ),
    )

-- ---- one seat less

-- The seats that are left of those of a board, and the rest, which stands for the nodes behind them: together for all.
pub record AreLeft (board : TableId) (n : ℕ) (all : List SeatState) (seats : List NodeSeat) (me : Seated) : Type 0 where
  pub size_is : me.0.size ≡ n
  pub from_is : me.0.from ≡ length seats
  pub no_slot : me.1 ≡ []
  pub not_closed : me.0.closed ≡ false
  pub all_are : all ≡ map stand_of seats ++ me.0.stands
  pub seats_are : (k : ℕ) (seat : NodeSeat) → slice_get seats k ≡ Some seat → IsSeatOf board n k seat

pub last_seat : (board : TableId) (n : ℕ) (all : List SeatState) (seats fewer : List NodeSeat) (seat : NodeSeat) (me : Seated) → AreLeft board n all seats me →
    seats ≡ fewer ++ seat ∷ [] → IsSeatOf board n (length fewer) seat × (me.0.from ≡ suc seat.node)
last_seat board n all seats fewer seat me left seats_is =
    let is : IsSeatOf board n (length fewer) seat =
    left.seats_are (length fewer) seat (ap (λ (xs : List NodeSeat). slice_get xs (length fewer)) seats_is ∙ middle fewer [] seat) in
    (is, omega (arith, left.from_is, ap length seats_is, length-append fewer (seat ∷ []), is.node))

pub one_less : (board : TableId) (n : ℕ) (all : List SeatState) (seats fewer : List NodeSeat) (seat : NodeSeat) (me after : Seated) → AreLeft board n all seats me →
    seats ≡ fewer ++ seat ∷ [] → after ≡ (joined me.0 seat.seat.me.0, []) → AreLeft board n all fewer after
one_less board n all seats fewer seat me after left seats_is after_is =
    let is : IsSeatOf board n (length fewer) seat = (last_seat board n all seats fewer seat me left seats_is).0 in
    let own : seat.seat.me.0 ≡ one seat.nodes seat.node seat.stand seat.seat.me.0.witnessed = ap (λ (x : Seated). x.0) seat.view_is in
    let after_view : after.0 ≡ joined me.0 (one seat.nodes seat.node seat.stand seat.seat.me.0.witnessed) =
    ap (λ (x : Seated). x.0) after_is ∙ ap (joined me.0) own in
    record {
      size_is = ap (λ (v : View). v.size) after_view ∙ is.nodes;
      from_is = ap (λ (v : View). v.from) after_view ∙ is.node;
      no_slot = ap (λ (x : Seated). x.1) after_is;
      not_closed = ap (λ (v : View). v.closed) after_view;
      all_are = left.all_are ∙ ap (λ (xs : List NodeSeat). map stand_of xs ++ me.0.stands) seats_is
          ∙ ap (λ (ss : List SeatState). ss ++ me.0.stands) (map-append stand_of fewer (seat ∷ []))
          ∙ append_assoc (map stand_of fewer) (seat.stand ∷ []) me.0.stands
          ∙ ap (λ (v : View). map stand_of fewer ++ v.stands) (sym after_view);
      seats_are = λ k other e. left.seats_are k other (ap (λ (xs : List NodeSeat). slice_get xs k) seats_is ∙ get_front fewer (seat ∷ []) other k e);
    }

pub all_left : (board : TableId) (n : ℕ) (seats : List NodeSeat) (me : Seated) → AreSeats board n seats → me ≡ (unseated n n, [])
    → AreLeft board n (map stand_of seats) seats me
all_left board n seats me are me_is =
    let view_is : me.0 ≡ unseated n n = ap (λ (x : Seated). x.0) me_is in
    let none : n - n ≡ 0 = omega arith in
    record {
      size_is = ap (λ (v : View). v.size) view_is;
      from_is = ap (λ (v : View). v.from) view_is ∙ sym are.count;
      no_slot = ap (λ (x : Seated). x.1) me_is;
      not_closed = ap (λ (v : View). v.closed) view_is;
      all_are =
          sym (ap (λ (v : View). map stand_of seats ++ v.stands) view_is ∙ ap (λ (m : ℕ). map stand_of seats ++ replicate m (fresh n)) none
          ∙ append-nil (map stand_of seats));
      seats_are = are.seats_are;
    }

-- ---- the words
pub read_more : (n word found : ℕ) (stands : List SeatState) (was log : List BoardEvent) (words : List ℕ) → word < length words → (0 < word → log ≡ was) →
    ((w : ℕ) → w < word → IsWord n stands was w (get_or words w 0)) → IsWord n stands log word found →
    (w : ℕ) → w < word + 1 → IsWord n stands log w (get_or (set words word found) w 0)
read_more n word found stands was log words within same before here w lt =
    elim (cases_eq w word) [
      | inl is ↦
          let read : get_or (set words word found) w 0 ≡ found =
          ap (λ (m : ℕ). get_or (set words word found) m 0) is ∙ get_or-set_same words word found 0 within in
          subst (λ (p : ℕ × ℕ). IsWord n stands log p.0 p.1) (λ q. (sym is q, sym read q)) here
      | inr apart ↦ let below : w < word = omega (arith, lt, apart) in
          subst (λ (p : List BoardEvent × ℕ). IsWord n stands p.0 w p.1)
          (λ q. (sym (same (omega (arith, below))) q, sym (get_or-set_other words word w found 0 apart) q)) (before w below)
    ]

mapped_there : {A B : Type 0} → (f : A → B) (xs : List A) (k : ℕ) (x : A) → slice_get xs k ≡ Some x → get_elem? (map f xs) k ≡ some (f x)
mapped_there f [] k x e = absurd (cc)
mapped_there f (y ∷ xs) zero x e = let same : y ≡ x = cc in ap (λ s. some (f s)) same
mapped_there f (y ∷ xs) (suc k) x e = mapped_there f xs k x e

-- the ring of a closed board: word 1 is its token's, and word 2 says whether it is announced
pub read_ring : (n : ℕ) (stands : List SeatState) (log : List BoardEvent) (words : List ℕ) → 0 < n → AreRead n stands log words →
    (ring : Ring) × LeadsTo n stands log ring × IsPacked ring.token (slice_index words 1) × (ring.announced ≡ eqb (slice_index words 2) 1)
read_ring n stands log words some_nodes read =
    let first = read.words_are 1 (omega arith) in
    let second = read.words_are 2 (omega arith) in
    let same = run_once n log first.ring second.ring some_nodes first.leads.runs second.leads.runs in
    (second.ring, second.leads, subst (λ (t : Token). IsPacked t (slice_index words 1)) same.token (first.token refl), second.halt_is refl)

-- a token has one word
word_once : (token : Token) (one other : ℕ) → IsPacked token one → IsPacked token other → one ≡ other
word_once token one other first second = omega (arith, ints, first.word_is, second.word_is)

pub are_as_witnessed : (n : ℕ) (stands : List SeatState) (log : List BoardEvent) (words : List ℕ) → 0 < n → length stands ≡ n → AreRead n stands log words →
    AreAsWitnessed (closed_view n stands log) words
are_as_witnessed n stands log words some_nodes all_nodes read =
    let has = read_ring n stands log words some_nodes read in
    let halt = read.words_are 2 (omega arith) in
    let within : (k : ℕ) (stand : SeatState) → get_elem? stands k ≡ some stand → k < n = λ k stand e. omega (arith, there_in stands k stand e, all_nodes) in
    record {
      is_closed = refl;
      count = read.count;
      nodes = (read.words_are 0 (omega arith)).nodes refl;
      token = λ ring word runs packed.
          let same = run_once n log ring has.0 some_nodes runs has.1.runs in
          word_once has.0.token (slice_index words 1) word has.2 (subst (λ (t : Token). IsPacked t word) same.token packed);
      announced = λ ring runs. (run_once n log ring has.0 some_nodes runs has.1.runs).announced ∙ has.3;
      halt_is = halt.halt_told_is refl;
      halt_seen = halt.halt_seen refl;
      failed = λ i stand e found. ap halt_word (halt.failed refl i stand e found);
      posted = λ i j stand e j_in. (read.words_are (posted_word n i j) (posted_within n i j (within i stand e) j_in)).posted i j stand e j_in refl;
      taken = λ i j stand e j_in. (read.words_are (taken_word n j i) (taken_within n j i j_in (within i stand e))).taken i j stand e j_in refl;
    }
  where
    there_in : (xs : List SeatState) (k : ℕ) (stand : SeatState) → get_elem? xs k ≡ some stand → k < length xs
    there_in [] k stand e = absurd (some-ne-none stand (sym e))
    there_in (x ∷ xs) zero stand e = omega arith
    there_in (x ∷ xs) (suc k) stand e = omega (arith, there_in xs k stand e)

-- ---- the seat of node 0

-- The seats that are left come before those that are joined, and the rest has witnessed what the first one of these has.
abbrev pub IsFirstWitnessed : List NodeSeat → List NodeSeat → Seated → Type 0
IsFirstWitnessed all seats me = (gone : List NodeSeat) × (all ≡ seats ++ gone)
    × ((seat : NodeSeat) → slice_get gone 0 ≡ Some seat → me.0.witnessed ≡ witnessed_by seat)

pub first_less : (all seats fewer : List NodeSeat) (last : NodeSeat) (me after : Seated) → IsFirstWitnessed all seats me → seats ≡ fewer ++ last ∷ [] →
    after.0.witnessed ≡ witnessed_by last → IsFirstWitnessed all fewer after
first_less all seats fewer last me after first seats_is witnessed = (
  last ∷ first.0,
  first.1 ∙ ap (λ (xs : List NodeSeat). xs ++ first.0) seats_is ∙ append_assoc fewer (last ∷ []) first.0,
  λ seat e. witnessed ∙ ap witnessed_by (same_Some last seat e),
)

pub are_words : (board : TableId) (n : ℕ) (seats : List NodeSeat) (log : List BoardEvent) (words : List ℕ) → AreSeats board n seats →
    AreRead n (map stand_of seats) log words → AreWords n seats words
are_words board n seats log words are read =
    let there : (k : ℕ) (seat : NodeSeat) → slice_get seats k ≡ Some seat → get_elem? (map stand_of seats) k ≡ some seat.stand = mapped_there stand_of seats in
    let within : (k : ℕ) (seat : NodeSeat) → slice_get seats k ≡ Some seat → k < n = λ k seat e. omega (arith, slice_get_within seats k seat e, are.count) in
    let halt = read.words_are 2 (omega arith) in
    record {
      count = read.count;
      nodes = (read.words_are 0 (omega arith)).nodes refl;
      token = ((read.words_are 1 (omega arith)).ring.token, (read.words_are 1 (omega arith)).token refl);
      posted = λ i j seat e j_in.
          (read.words_are (posted_word n i j) (posted_within n i j (within i seat e) j_in)).posted i j seat.stand (there i seat e) j_in refl;
      taken = λ i j seat e j_in.
          (read.words_are (taken_word n j i) (taken_within n j i j_in (within i seat e))).taken i j seat.stand (there i seat e) j_in refl;
      none_own = λ i i_in.
          let here = some_at seats i (omega (arith, are.count, i_in)) in
          let found = there i here.0 here.1 in
          let posted = read.words_are (posted_word n i i) (posted_within n i i i_in i_in) in
          let taken = read.words_are (taken_word n i i) (taken_within n i i i_in i_in) in (
            posted.posted i i here.0.stand found i_in refl ∙ (posted.none_own i here.0.stand found).0,
            taken.taken i i here.0.stand found i_in refl ∙ (taken.none_own i here.0.stand found).1,
          );
      halt_within = halt.halt_within refl;
      announced = λ ended seat e. halt.announced refl ended seat.stand (there 0 seat e);
      halt_seen = λ i seat e. halt.halt_seen refl i seat.stand (there i seat e);
      failed = λ i seat e. halt.failed refl i seat.stand (there i seat e);
      all_white = λ ended i seat e. halt.all_white refl ended i seat.stand (there i seat e);
      all_taken = λ ended i j i_in j_in.
          let one' = some_at seats i (omega (arith, are.count)) in
          let other = some_at seats j (omega (arith, are.count)) in
          (read.words_are (posted_word n i j) (posted_within n i j i_in j_in)).posted i j one'.0.stand (there i one'.0 one'.1) j_in refl
          ∙ halt.all_taken refl ended i j one'.0.stand other.0.stand (there i one'.0 one'.1) (there j other.0 other.1)
          ∙ sym ((read.words_are (taken_word n i j) (taken_within n i j i_in j_in)).taken j i other.0.stand (there j other.0 other.1) i_in refl);
    }

-- what happened on a closed board
pub is_history : (n : ℕ) (seats : List NodeSeat) (closed : Closed) (witnessed : List BoardEvent) → 0 < n →
    ((seat : NodeSeat) → slice_get seats 0 ≡ Some seat → witnessed ≡ witnessed_by seat) → IsLaterLog witnessed (log_of closed) →
    AreRead n (map stand_of seats) (log_of closed) closed.words.items → IsBoardHistory n seats closed
is_history n seats closed witnessed some_nodes first on read =
    let has = read_ring n (map stand_of seats) (log_of closed) closed.words.items some_nodes read in
    record {
      witnessed = λ seat e. subst (λ (l : List BoardEvent). IsLaterLog l (log_of closed)) (first seat e) on;
      ring = has.0;
      runs = has.1.runs;
      is_lawful = has.1.is_lawful;
      shows = λ i seat e. has.1.shows i seat.stand (mapped_there stand_of seats i seat e);
      token = has.2;
      announced = has.3;
      halt_is = (read.words_are 2 (omega arith)).halt_told_is refl;
    }
