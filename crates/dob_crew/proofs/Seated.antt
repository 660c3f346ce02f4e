-- The endpoints of a crew, seated, taken apart and closed one by one.
use Rattle.dob_crew.proofs.Common.{◌*◌, ◌++◌, ◌+◌, ◌-◌, ◌<◌, ◌∙◌, ◌∷◌, ◌≡◌, List, Some, [], ap, arith, inl, inr, length, length-append, map, refl, subst, suc}
use Rattle.dob_crew.proofs.Common.{sym, take, zero, ℕ, length-map, same_Some, slice_get_within, replicate, slice_get, slice_index, Vec, at_end, get_front}
use Rattle.dob_crew.proofs.Common.{middle, some_at, BatchView, fresh, AreSeats, IsSeatOf, stand_of, Blackboard, NodeSeat, IsRejoined, senders_of, taken_by}
use Rattle.dob_crew.proofs.Common.{batches_of, Rejoined, SendEnd, TakeEnd, offered, worked, in_slot, Endpoint, Inlet, Outlet, AreLinked, ArePartsOf, HasAdded}
use Rattle.dob_crew.proofs.Common.{HasRowMore, IsCrew, end_in, ends_out, row_of, seat_in, slots_in, slots_out, AreNewEndpoints, AreEnds, AreJoined, outlet_end}
use Rattle.dob_crew.proofs.Common.{AreDealt, StandsAt, AreSeated, CanSeatAll, AreLaid, IsLaid, IsUntaken}
use Rattle.dob_endpoint.proofs.Places.{map_got, get_map}
use Rattle.dob_chan.specs.Ends.{IsEndOf}
use Rattle.dob_board.specs.declared.view.SeatState.{SeatState}
use Rattle.dob_crew.specs.declared.crew_close.Parts.{Parts}

-- ---- what endpoints are at the start, of seats with their rows of outlets and their inlets
at_replicate : {A : Type 0} → (m k : ℕ) (x y : A) → slice_get (replicate m x) k ≡ Some y → x ≡ y
at_replicate zero k x y e = absurd (cc)
at_replicate (suc m) zero x y e = same_Some x y e
at_replicate (suc m) (suc k) x y e = at_replicate m k x y e

no_count : (m k : ℕ) → slice_index (replicate m 0) k ≡ 0
no_count zero k = refl
no_count (suc m) zero = refl
no_count (suc m) (suc k) = no_count m k

none_taken : (m : ℕ) → take {A = BatchView} m [] ≡ []
none_taken zero = refl
none_taken (suc m) = refl

new_out : (capacity from : ℕ) (outlet : Outlet) (inlet : Inlet) → IsLaid capacity from outlet inlet → offered outlet ≡ []
new_out capacity from outlet inlet laid = (λ i. laid.nothing i ++ in_slot (laid.empty i))

new_in : (n : ℕ) (inlet : Inlet) → IsUntaken n inlet → worked inlet ≡ []
new_in n inlet are =
    ap (λ (l : List BatchView). take (length l - length (in_slot inlet.slot)) l) are.nothing ∙ none_taken (0 - length (in_slot inlet.slot))

module _ {Z : Type 0} (capacity n : ℕ) (rows : List (Vec Outlet Z)) (inlets : List Inlet) where
  -- an outlet, with the inlet of the inbox to which it sends
  out_laid : AreLaid capacity n rows inlets → (i j : ℕ) (outlet : Outlet) → StandsAt rows i j outlet → (inlet : Inlet) × IsLaid capacity i outlet inlet
  out_laid are i j outlet at =
      let low : j < n = omega (arith, slice_get_within at.0.items j outlet at.2, are.rows.each i at.0 at.1) in
      let inlet = some_at inlets j (omega (arith, low, are.count)) in
      (inlet.0, are.laid i j outlet inlet.0 at inlet.1)

  module _ (board : Blackboard) (seats : List NodeSeat) (are : AreLaid capacity n rows inlets) (of : AreSeats board.rest.table_id n seats)
      (new : map stand_of seats ≡ replicate n (fresh n)) where
    is_fresh : (k : ℕ) (seat : NodeSeat) → slice_get seats k ≡ Some seat → fresh n ≡ seat.stand
    is_fresh k seat at = at_replicate n k (fresh n) seat.stand (ap (λ (l : List SeatState). slice_get l k) (sym new) ∙ get_map stand_of seats k seat at)

    pub can_seat : CanSeatAll seats rows inlets
    can_seat = record {
      rows_len = are.rows.count ∙ sym of.count;
      inlets_len = are.count ∙ sym of.count;
      each = λ k seat row inlet at at_row at_inlet.
          let nodes : seat.nodes ≡ n = (of.seats_are k seat at).nodes in
          let start = is_fresh k seat at in
          let bare = are.untaken k inlet at_inlet in
          record {
            row = are.rows.each k row at_row ∙ sym nodes;
            senders = bare.senders ∙ sym nodes;
            own = λ j outlet there. (out_laid are k j outlet (row, at_row, there)).1.paired.1 ∙ sym (of.seats_are k seat at).node;
            posted = λ j outlet there. let laid = out_laid are k j outlet (row, at_row, there) in
                ap (λ (s : SeatState). slice_index s.posted j) (sym start) ∙ no_count n j ∙ sym (ap length (new_out capacity k outlet laid.0 laid.1));
            taken = λ j low.
                ap (λ (s : SeatState). slice_index s.taken j) (sym start) ∙ no_count n j
                ∙ sym (ap (λ (bs : List BatchView). length (batches_of j bs)) (new_in n inlet bare));
          };
    }

    pub new_endpoints : (endpoints : List Endpoint) → AreSeated n seats rows inlets endpoints → AreNewEndpoints capacity endpoints
    new_endpoints endpoints seated k endpoint at =
        let got = seated.each k endpoint at in
        let is = got.6 in
        let start = is_fresh k got.0 got.3 in
        let bare = are.untaken k got.2 got.5 in
        record {
          black = ap (λ (s : NodeSeat). s.stand.black) is.seat_is ∙ ap (λ (s : SeatState). s.black) (sym start);
          running = ap (λ (s : NodeSeat). s.stand.halt) is.seat_is ∙ ap (λ (s : SeatState). s.halt) (sym start);
          unsent = λ to outlet there.
              let laid = out_laid are k to outlet (got.1, got.4, ap (λ (l : List Outlet). slice_get l to) (sym is.outlets) ∙ there) in
              (new_out capacity k outlet laid.0 laid.1, laid.1.empty, laid.1.room);
          untaken = (ap worked is.inlet_is ∙ new_in n got.2 bare, ap (λ (i : Inlet). i.slot) is.inlet_is ∙ bare.empty);
        }

    pub new_crew : (endpoints : List Endpoint) → AreSeated n seats rows inlets endpoints → board.nodes ≡ n → IsCrew board endpoints
    new_crew endpoints seated nodes = record {
      seats = subst (λ (m : ℕ). AreSeats board.rest.table_id m (map seat_in endpoints)) (sym nodes) (record {
        count = length-map endpoints seat_in ∙ seated.count;
        seats_are = λ k seat at.
            let got = map_got seat_in endpoints k seat at in
            let from = seated.each k got.0 got.1 in
            subst (IsSeatOf board.rest.table_id n k) (sym from.6.seat_is ∙ got.2) (of.seats_are k from.0 from.3);
      });
      paired = λ i j outlet inlet linked.
          let from = seated.each i linked.sender linked.sends in
          let to = seated.each j linked.taker linked.takes in
          (are.laid i j outlet inlet (from.1, from.4, ap (λ (l : List Outlet). slice_get l j) (sym from.6.outlets) ∙ linked.out)
          (to.5 ∙ ap (λ (x : Inlet). Some x) (sym to.6.inlet_is ∙ linked.into))).paired;
    }

-- ---- endpoints taken apart one by one, and what their ends are then
map_end : {A B : Type 0} → (f : A → B) (xs : List A) (x : A) → map f (xs ++ x ∷ []) ≡ map f xs ++ f x ∷ []
map_end f [] x = refl
map_end {A} {B} f (y ∷ xs) x = ap (λ (zs : List B). f y ∷ zs) (map_end f xs x)

-- one row more on both sides
rows_more : {X Z : Type 0} → (f : Endpoint → List X) (endpoints : List Endpoint) (endpoint : Endpoint) (old new : List (Vec X Z)) → map row_of old ≡ map f endpoints →
    HasRowMore old (f endpoint) new → map row_of new ≡ map f (endpoints ++ endpoint ∷ [])
rows_more {X} {Z} f endpoints endpoint old new same more =
    ap (map row_of) more.1 ∙ map_end row_of old more.0 ∙ ap (λ (l : List (List X)). l ++ row_of more.0 ∷ []) same
    ∙ ap (λ (l : List X). map f endpoints ++ l ∷ []) more.2 ∙ sym (map_end f endpoints endpoint)

sends_more : (n : ℕ) (endpoints : List Endpoint) (endpoint : Endpoint) (old new : Parts) → ArePartsOf n endpoints old → AreDealt n (ends_out endpoint) old.sends.items new.sends.items →
    (j i : ℕ) (end : SendEnd) → StandsAt new.sends.items j i end → (m : Endpoint) × (slice_get (endpoints ++ endpoint ∷ []) i ≡ Some m) × (slice_get (ends_out m) j ≡ Some end)
sends_more n endpoints endpoint old new are dealt j i end there =
    let low : j < n = omega (arith, slice_get_within new.sends.items j there.0 there.1, dealt.rows, are.sends_rows.count) in
    let row = dealt.dealt j there.0 low there.1 in
    let long : length row.0.items ≡ length endpoints = are.sends_rows.each j row.0 row.2 in
    elim (at_end row.0.items row.1 end i (ap (λ (l : List SendEnd). slice_get l i) (sym row.4) ∙ there.2)) [
      | inl before ↦ let was = are.sends j i end (row.0, row.2, before) in (was.0, get_front endpoints (endpoint ∷ []) was.0 i was.1, was.2)
      | inr last ↦ (endpoint, ap (slice_get (endpoints ++ endpoint ∷ [])) (last.0 ∙ long) ∙ middle endpoints [] endpoint, row.3 ∙ ap Some last.1)
    ]

pub parts_more : (n : ℕ) (endpoints : List Endpoint) (endpoint : Endpoint) (old new : Parts) → ArePartsOf n endpoints old → HasAdded old endpoint new → length endpoint.outlets.items ≡ n →
    ArePartsOf n (endpoints ++ endpoint ∷ []) new
parts_more n endpoints endpoint old new are added wide =
    let dealt : AreDealt n (ends_out endpoint) old.sends.items new.sends.items = subst (λ (k : ℕ). AreDealt k (ends_out endpoint) old.sends.items new.sends.items) wide added.sends in
    record {
      seats = added.seats ∙ ap (λ l. l ++ endpoint.seat ∷ []) are.seats ∙ sym (map_end seat_in endpoints endpoint);
      sends_rows = record {
        count = dealt.rows ∙ are.sends_rows.count;
        each = λ j row e.
            let low : j < n = omega (arith, slice_get_within new.sends.items j row e, dealt.rows, are.sends_rows.count) in
            let was = dealt.dealt j row low e in
            omega (arith, ap length was.4, length-append was.0.items (was.1 ∷ []), are.sends_rows.each j was.0 was.2, length-append endpoints (endpoint ∷ []));
      };
      sends = sends_more n endpoints endpoint old new are dealt;
      takes = added.takes ∙ ap (λ l. l ++ end_in endpoint ∷ []) are.takes ∙ sym (map_end end_in endpoints endpoint);
      sending = rows_more slots_out endpoints endpoint old.sending.items new.sending.items are.sending added.sending;
      taking = rows_more slots_in endpoints endpoint old.taking.items new.taking.items are.taking added.taking;
    }

-- ---- the inboxes of a crew

-- the crew is as many as its board has nodes
module _ (board : Blackboard) (endpoints : List Endpoint) where
  pub count_is : IsCrew board endpoints → length endpoints ≡ board.nodes
  count_is crew = sym (length-map endpoints seat_in) ∙ crew.seats.count

  pub nodes_are : IsCrew board endpoints → (k : ℕ) (endpoint : Endpoint) → slice_get endpoints k ≡ Some endpoint → endpoint.seat.nodes ≡ board.nodes
  nodes_are crew k endpoint at = (crew.seats.seats_are k endpoint.seat (get_map seat_in endpoints k endpoint at)).nodes

module _ (board : Blackboard) (endpoints : List Endpoint) (parts : Parts) where
  -- the taking end at a place is that of the endpoint there
  take_at : ArePartsOf board.nodes endpoints parts → (j : ℕ) (take : TakeEnd) → slice_get parts.takes.items j ≡ Some take →
      (endpoint : Endpoint) × (slice_get endpoints j ≡ Some endpoint) × (endpoint.inlet.end ≡ take)
  take_at are j take at = map_got end_in endpoints j take (ap (λ (l : List TakeEnd). slice_get l j) (sym are.takes) ∙ at)

  -- the ends in the rows are those of the crew's inboxes
  pub ends_are : IsCrew board endpoints → ArePartsOf board.nodes endpoints parts → AreEnds board.nodes parts.sends.items parts.takes.items
  ends_are crew are = record {
    senders = record { count = are.sends_rows.count; each = λ j row at. are.sends_rows.each j row at ∙ count_is board endpoints crew };
    takers = ap length are.takes ∙ length-map endpoints end_in ∙ count_is board endpoints crew;
    inboxes = λ j row take at at_take.
        let to = take_at are j take at_take in (
          are.sends_rows.each j row at ∙ count_is board endpoints crew ∙ sym (nodes_are board endpoints crew j to.0 to.1) ∙ sym to.0.senders
              ∙ ap (λ (t : TakeEnd). senders_of t) to.2,
          λ i send there.
              let from = are.sends j i send (row, at, there) in
              let outlet = map_got outlet_end from.0.outlets.items j send from.2 in
              subst (λ (p : TakeEnd × SendEnd). IsEndOf p.0 i p.1) (λ q. (to.2 q, outlet.2 q))
              (crew.paired i j outlet.0 to.0.inlet (record { sender = from.0; taker = to.0; sends = from.1; takes = to.1; out = outlet.1; into = refl })),
        );
  }

  -- the link of two endpoints stands in the row of the sender at the place of the taker
  pub links_are : IsCrew board endpoints → ArePartsOf board.nodes endpoints parts → (links : List Rejoined) → AreJoined board.nodes parts.sends.items parts.takes.items links →
      (i j : ℕ) (outlet : Outlet) (inlet : Inlet) → AreLinked endpoints i j outlet inlet →
      (link : Rejoined) × (slice_get links (i * board.nodes + j) ≡ Some link) × IsRejoined outlet.end (taken_by inlet.end) link
  links_are crew are links joined i j outlet inlet linked =
      let ends = ends_are crew are in
      let count = count_is board endpoints crew in
      let low_i : i < board.nodes = omega (arith, slice_get_within endpoints i linked.sender linked.sends, count) in
      let low_j : j < board.nodes = omega (arith, slice_get_within endpoints j linked.taker linked.takes, count) in
      let row = some_at parts.sends.items j (omega (arith, low_j, ends.senders.count)) in
      let end = some_at row.0.items i (omega (arith, low_i, ends.senders.each j row.0 row.1)) in
      let from = are.sends j i end.0 (row.0, row.1, end.1) in
      let sender : from.0 ≡ linked.sender = same_Some from.0 linked.sender (sym from.1 ∙ linked.sends) in
      let sent : end.0 ≡ outlet.end = same_Some end.0 outlet.end
      (sym from.2 ∙ ap (λ (m : Endpoint). slice_get (ends_out m) j) sender ∙ get_map outlet_end linked.sender.outlets.items j outlet linked.out) in
      let take : slice_get parts.takes.items j ≡ Some inlet.end = ap (λ (l : List TakeEnd). slice_get l j) are.takes ∙ get_map end_in endpoints j linked.taker linked.takes
      ∙ ap (λ (l : Inlet). Some l.end) linked.into in
      let found = joined.joined i j end.0 inlet.end (row.0, row.1, end.1) take in
      (found.0, found.1, subst (λ (s : SendEnd). IsRejoined s (taken_by inlet.end) found.0) sent found.2)
