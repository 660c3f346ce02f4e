-- The start of a board, and how the view of all nodes is split.
use Rattle.std.proofs.Common.{◌≡◌, ◌≢◌, ℕ, zero, suc, ◌+◌, ◌-◌, ◌<◌, ◌⊎◌, List, [], ◌∷◌, ◌++◌, length, set, get_or, Some, true, false, eqb, refl, sym, ap, ◌∙◌}
use Rattle.std.proofs.Common.{subst, ⊎_elim, inl, inr, arith, rules, map, length-set, length-append, get_or-set_same, get_or-set_other}
use Rattle.dob_board.proofs.Names.{replicate_next, sum_by-cons, sum_by_push, length-replicate, slice_set, slice_get, replicate, map-append, some, some-ne-none}
use Rattle.dob_board.proofs.Names.{some-injective, get_elem?, Splits, at_set, BoardEvent, IsPacked, first_token, Ring, IsLawfulRing, IsStart, black_token}
use Rattle.dob_board.proofs.Names.{IsSize, SeatState, View, posted_word, taken_word, word_count, ring_of, one, Halt, Running, IsStand, token_moves_of, IsNode, IsView}
use Rattle.dob_board.proofs.Names.{IsHeld, fresh, whole, others_of, first_of, first_words, unseated, TableId, NodeSeat, stand_of, IsSeatOf, at_end}
use Rattle.dob_board.proofs.Places.{with_at, with_here, with_else}
use Rattle.dob_board.proofs.Kept.{has_all, one_is_view, knows_now, nodes_set, with_views}
use Rattle.dob_board.proofs.Allowed.{Seated, Held}

-- ---- split
views_end : {A : Type 0} → (l : List A) (a b : A) (j : ℕ) → get_elem? (l ++ a ∷ []) j ≡ some b → (get_elem? l j ≡ some b) ⊎ ((j ≡ length l) × (a ≡ b))
views_end [] a b zero e = inr (refl, some-injective a b e)
views_end [] a b (suc j) e = absurd (some-ne-none b (sym e))
views_end (x ∷ xs) a b zero e = inl e
views_end (x ∷ xs) a b (suc j) e = ⊎_elim (λ l. inl l) (λ r. inr (ap suc r.0, r.1)) (views_end xs a b j e)

-- the views of other seats, where another seat has node i now
pub elsewhere : (n i id fresh_port port : ℕ) (halt : Halt) (owner : ℕ → ℕ) (ring : Ring) (log : List BoardEvent) (view : View) → i < n → owner i ≡ id
    → port ≢ id → IsView n owner ring halt log port view → IsView n (with_at i fresh_port owner) ring halt log port view
elsewhere n i id fresh_port port halt owner ring log view within owned apart was = record {
  was_witnessed = was.was_witnessed;
  nodes = λ k stand e.
      let node = was.nodes k stand e in
      let other : view.from + k ≢ i = λ same. apart (sym node.owned ∙ ap owner same ∙ owned) in
      record {
        size_is = node.size_is;
        within = node.within;
        owned = with_else i (view.from + k) fresh_port owner other ∙ node.owned;
        is_stand = node.is_stand;
      };
  alone = was.alone;
  is_closed = λ e. absurd (apart (has_all n i id port halt owner ring log view within owned was e));
}

abbrev pub view_from : ℕ → ℕ → List SeatState → List BoardEvent → View
view_from n from stands witnessed = record { size = n; from = from; stands = stands; witnessed = witnessed; own = true; closed = false }

splits : (n i id : ℕ) (words : List ℕ) (views : List View) (stand : SeatState) (rest : List SeatState) (witnessed : List BoardEvent) (held : IsHeld n words views) →
    get_elem? views id ≡ some (view_from n i (stand ∷ rest) witnessed) →
    IsHeld n words (slice_set views id (view_from n (suc i) rest witnessed) ++ one n i stand witnessed ∷ [])
splits n i id words views stand rest witnessed held at =
    let ring : Ring = ring_of n words held.black held.token in
    let halt : Halt = held.halt in
    let was = held.views_are id (view_from n i (stand ∷ rest) witnessed) at in
    let first : i + 0 ≡ i = omega arith in
    let own : IsNode n held.owner ring halt id n i stand = subst (λ (x : ℕ). IsNode n held.owner ring halt id n x stand) first (was.nodes 0 stand refl) in
    let still : token_moves_of i held.log ≡ token_moves_of i witnessed = subst (λ (x : ℕ). token_moves_of x held.log ≡ token_moves_of x witnessed) first (was.alone refl 0 stand refl) in
    let port' : ℕ = length views in
    let owner : ℕ → ℕ = with_at i port' held.owner in
    with_views n words views (slice_set views id (view_from n (suc i) rest witnessed) ++ one n i stand witnessed ∷ []) owner held
    (λ port view e.
    ⊎_elim
    (λ (there : get_elem? (set views id (view_from n (suc i) rest witnessed)) port ≡ some view).
    ⊎_elim
    (λ (x : (port ≡ id) × (view_from n (suc i) rest witnessed ≡ view)).
    subst (λ (p : ℕ × View). IsView n owner ring halt held.log p.0 p.1) (λ q. (sym x.0 q, x.1 q))
    (record {
      was_witnessed = was.was_witnessed;
      nodes = λ k at' e'.
          let node = was.nodes (suc k) at' e' in
          let apart : i + suc k ≢ i = λ same. omega (arith, same) in
          let place : i + suc k ≡ suc i + k = omega arith in
          subst (λ (x : ℕ). IsNode n owner ring halt id n x at') place
          (record
          { size_is = refl; within = node.within; owned = with_else i (i + suc k) port' held.owner apart ∙ node.owned; is_stand = node.is_stand });
      alone = λ own k at' e'.
          let place : i + suc k ≡ suc i + k = omega arith in
          subst (λ (x : ℕ). token_moves_of x held.log ≡ token_moves_of x witnessed) place (was.alone refl (suc k) at' e');
      is_closed = λ e'. absurd (cc);
    }))
    (λ (x : (port ≢ id) × (get_elem? views port ≡ some view)).
    elsewhere n i id port' port halt held.owner ring held.log view own.within own.owned x.0 (held.views_are port view x.1))
    (at_set views id port (view_from n (suc i) rest witnessed) view there))
    (λ (last : (port ≡ length (set views id (view_from n (suc i) rest witnessed))) × (one n i stand witnessed ≡ view)).
    let port_is : port' ≡ port = sym (length-set views id (view_from n (suc i) rest witnessed)) ∙ sym last.0 in
    subst (λ (p : ℕ × View). IsView n owner ring halt held.log p.0 p.1) (λ q. (port_is q, last.1 q))
    (one_is_view n i port' halt owner ring held.log witnessed stand own.within (with_here i port' held.owner) was.was_witnessed still own.is_stand))
    (views_end (set views id (view_from n (suc i) rest witnessed)) (one n i stand witnessed) view port e))
    (omega (
      arith,
      sum_by_push (λ (v : View). length v.stands) (slice_set views id (view_from n (suc i) rest witnessed)) (one n i stand witnessed),
      nodes_set views id (view_from n i (stand ∷ rest) witnessed) (view_from n (suc i) rest witnessed) at,
    ))

abbrev stands_after : ℕ → ℕ → List SeatState
stands_after n m = replicate m (fresh n)

pub others-unseated : (n k : ℕ) → k < n → others_of (unseated n k) ≡ unseated n (suc k)
others-unseated n k within =
    let more : n - k ≡ suc (n - suc k) = omega arith in
    ap (λ (m : ℕ). others_of (view_from n k (stands_after n m) [])) more

pub splits_call : (key n k id : ℕ) (me : Seated) → key ≡ n → k < n → me ≡ (unseated n k, []) →
    Splits (Held key) id me.0 (others_of me.0) (first_of me.0)
splits_call key n k id me key_is within me_is =
    let more : n - k ≡ suc (n - suc k) = omega arith in
    let split : (m : ℕ)
    → Splits (Held n) id (view_from n k (stands_after n (suc m)) []) (others_of (view_from n k (stands_after n (suc m)) []))
    (first_of (view_from n k (stands_after n (suc m)) [])) =
    λ m s held at. splits n k id s.words s.views (fresh n) (stands_after n m) [] held at in
    let view_is : me.0 ≡ view_from n k (stands_after n (suc (n - suc k))) [] =
    ap (λ (x : Seated). x.0) me_is ∙ ap (λ (m : ℕ). view_from n k (stands_after n m) []) more in
    subst (λ (p : ℕ × View). Splits (Held p.0) id p.1 (others_of p.1) (first_of p.1)) (λ q. (sym key_is q, sym view_is q)) (split (n - suc k))

-- ---- start
abbrev pub zeros_of : ℕ → List ℕ
zeros_of m = replicate m 0

zeros : (m k : ℕ) → get_or (zeros_of m) k 0 ≡ 0
zeros zero k = refl
zeros (suc m) zero = refl
zeros (suc m) (suc k) = zeros m k

first_zero : (n word k : ℕ) → 1 < k → get_or (first_words n word) k 0 ≡ 0
first_zero n word k after_first =
    get_or-set_other (set (zeros_of (word_count n)) 0 n) 1 k word 0 (λ e. omega (arith, e))
    ∙ get_or-set_other (zeros_of (word_count n)) 0 k n 0 (λ e. omega (arith, e))
    ∙ zeros (word_count n) k

first_len : (n word : ℕ) → length (first_words n word) ≡ word_count n
first_len n word = length-set (set (zeros_of (word_count n)) 0 n) 1 word ∙ length-set (zeros_of (word_count n)) 0 n ∙ length-replicate {A = ℕ} (word_count n) 0

abbrev first_ring : ℕ → ℕ → Ring
first_ring n word = ring_of n (first_words n word) (λ k. true) first_token

first_start : (n word : ℕ) → IsStart n (first_ring n word)
first_start n word = record {
  posted = λ i j i_in j_in. first_zero n word (posted_word n i j) (omega arith);
  taken = λ i j i_in j_in. first_zero n word (taken_word n i j) (omega arith);
  black = λ i i_in. refl;
  token = refl;
  running = ap (λ (halt : ℕ). eqb halt 1) (first_zero n word 2 (omega arith));
}

first_lawful : (n word : ℕ) → IsSize n → IsLawfulRing n (first_ring n word)
first_lawful n word size =
    let start = first_start n word in
    record {
      in_order = λ i j i_in j_in. omega (arith, start.posted i j i_in j_in, start.taken i j i_in j_in);
      few = λ i j i_in j_in. omega (arith, start.posted i j i_in j_in);
      at = size.0;
      low = search rules;
      high = search rules;
      all_white = λ ended. absurd (let not_yet = start.running in cc);
      all_taken = λ ended. absurd (let not_yet = start.running in cc);
      reason = black_token refl;
    }

fresh_stand : (n word i : ℕ) → i < n → IsStand n (first_ring n word) Running i (fresh n)
fresh_stand n word i within =
    let start = first_start n word in
    record {
      long = record { posted = length-replicate {A = ℕ} n 0; taken = length-replicate {A = ℕ} n 0; seen = length-replicate {A = ℕ} n 0 };
      shows = record {
        posted = λ j j_in. zeros n j ∙ sym (start.posted i j within j_in);
        taken = λ j j_in. zeros n j ∙ sym (start.taken j i j_in within);
        colour = refl;
        token = λ token e. absurd (cc);
        ended = λ e. absurd (cc);
      };
      none_own = zeros n i;
      seen = λ j j_in. omega (arith, zeros n j);
      knows = knows_now i Running;
    }

at_fresh : (m k : ℕ) (x stand : SeatState) → get_elem? (replicate m x) k ≡ some stand → (k < m) × (x ≡ stand)
at_fresh zero k x stand e = absurd (some-ne-none stand (sym e))
at_fresh (suc m) zero x stand e = (omega arith, some-injective x stand e)
at_fresh (suc m) (suc k) x stand e = let more = at_fresh m k x stand e in (omega (arith, more.0), more.1)

pub begins : (n word : ℕ) → IsSize n → IsPacked first_token word → IsHeld n (first_words n word) (whole n ∷ [])
begins n word size packed = record {
  size = size;
  wide = first_len n word;
  nodes = get_or-set_other (set (zeros_of (word_count n)) 0 n) 1 0 word 0 (λ e. omega (arith, e))
      ∙ get_or-set_same (zeros_of (word_count n)) 0 n 0 (omega (arith, length-replicate {A = ℕ} (word_count n) 0));
  black = λ k. true;
  token = first_token;
  packed = subst (IsPacked first_token)
      (sym (get_or-set_same (set (zeros_of (word_count n)) 0 n) 1 word 0 (omega (arith, length-set (zeros_of (word_count n)) 0 n, length-replicate {A = ℕ} (word_count n) 0))))
      packed;
  lawful = first_lawful n word size;
  halt = Running;
  halt_is = first_zero n word 2 (omega arith);
  halt_within = omega arith;
  log = [];
  runs = first_start n word;
  told = refl;
  owner = λ k. 0;
  views_are = view;
  each_once = omega (arith, sum_by-cons (λ (v : View). length v.stands) (whole n) [], length-replicate {A = SeatState} n (fresh n));
}
  where
    view : (port : ℕ) (v : View) → get_elem? (whole n ∷ []) port ≡ some v → IsView n (λ k. 0) (first_ring n word) Running [] port v
    view zero v e = subst (λ (x : View). IsView n (λ k. 0) (first_ring n word) Running [] 0 x) (some-injective (whole n) v e)
        (record {
          was_witnessed = ([], refl);
          nodes = λ k stand there.
              let found = at_fresh n k (fresh n) stand there in
              let place : k ≡ 0 + k = omega arith in
              subst (λ (p : ℕ × SeatState). IsNode n (λ m. 0) (first_ring n word) Running 0 n p.0 p.1) (λ q. (place q, found.1 q))
              (record { size_is = refl; within = found.0; owned = refl; is_stand = fresh_stand n word k found.0 });
          alone = λ own k stand there. refl;
          is_closed = λ e'. absurd (cc);
        })
    view (suc port) v e = absurd (some-ne-none v (sym e))

-- ---- one seat more

-- the first k seats
pub record AreFirst (board : TableId) (n k : ℕ) (seats : List NodeSeat) : Type 0 where
  pub count : length seats ≡ k
  pub seats_are : (m : ℕ) (seat : NodeSeat) → slice_get seats m ≡ Some seat → IsSeatOf board n m seat
  pub are_fresh : map stand_of seats ≡ replicate k (fresh n)

pub push_first : (board : TableId) (n k : ℕ) (seats pushed : List NodeSeat) (seat : NodeSeat) → AreFirst board n k seats → IsSeatOf board n k seat
    → seat.stand ≡ fresh n →
    pushed ≡ seats ++ seat ∷ [] → AreFirst board n (suc k) pushed
push_first board n k seats pushed seat first is is_fresh pushed_is =
    let next : k + 1 ≡ suc k = omega arith in
    subst (AreFirst board n (suc k)) (sym pushed_is) (record {
      count = omega (arith, length-append seats (seat ∷ []), first.count);
      seats_are = λ m other e. ⊎_elim
          (λ there. first.seats_are m other there)
          (λ last. subst (λ (p : ℕ × NodeSeat). IsSeatOf board n p.0 p.1) (λ q. ((sym first.count ∙ sym last.0) q, last.1 q)) is)
          (at_end seats seat other m e);
      are_fresh =
          map-append stand_of seats (seat ∷ []) ∙ ap (λ (s : SeatState). map stand_of seats ++ s ∷ []) is_fresh ∙ ap (λ (ss : List SeatState). ss ++ fresh n ∷ []) first.are_fresh
          ∙ sym (replicate_next k (fresh n)) ∙ ap (λ (m : ℕ). replicate m (fresh n)) next;
    })
