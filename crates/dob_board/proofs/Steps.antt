-- The steps of a seat.
use Rattle.std.proofs.Common.{◌≡◌, ◌≢◌, ℕ, suc, ◌^◌, ◌<◌, ◌≤◌, List, ◌∷◌, length, set, get_or, Bool, true, true≢false, eqb, refl, sym, ap, ◌∙◌, subst, inl, inr}
use Rattle.std.proofs.Common.{arith, length-set, get_or-set_same, get_or-set_other}
use Rattle.dob_board.proofs.Names.{slice_index, slice_set, false_from_ne_true, cases_eq, BoardEvent, OfRing, Post, Take, IsPacked, Ring, Halt}
use Rattle.dob_board.proofs.Names.{Colours, Posts, Takes, raised_at_least, raised_at_most, SeatState, View, posted_word, taken_word}
use Rattle.dob_board.proofs.Names.{ring_of, one, posts_more, takes_more, sees, IsStand, MakesEvent, Observes, HasPosted, IsHeld, Ended}
use Rattle.dob_board.proofs.Places.{with_at, with_here, with_else, posted_in, taken_in, posted_raised, taken_raised, taken_stays, posted_stays, head_stays}
use Rattle.dob_board.proofs.Kept.{HasSeat, Writes, Leaves, halt_stays, ring_before, own_node, happened, known}

-- a write to a count leaves the words before it
writes_count : {n : ℕ} {words : List ℕ} {views : List View} (held : IsHeld n words views) (w v : ℕ) → 3 ≤ w → Writes n words (set words w v) held.token held.halt
writes_count {words = words} held w v behind = record {
  long = length-set words w v;
  nodes = head_stays words w v 0 behind (omega arith);
  packed = subst (IsPacked held.token) (sym (head_stays words w v 1 behind (omega arith))) held.packed;
  halt_is = head_stays words w v 2 behind (omega arith) ∙ held.halt_is;
}

-- numbers that are those of a function still are, where one of both changes
changed : (n j v : ℕ) (xs : List ℕ) (old new : ℕ → ℕ) → length xs ≡ n → j < n → new j ≡ v → ((k : ℕ) → k < n → k ≢ j → new k ≡ old k) →
    ((k : ℕ) → k < n → slice_index xs k ≡ old k) → (k : ℕ) → k < n → slice_index (slice_set xs j v) k ≡ new k
changed n j v xs old new long j_in here else are k k_in =
    elim (cases_eq k j) [
      | inl e ↦ ap (λ (m : ℕ). get_or (set xs j v) m 0) e ∙ get_or-set_same xs j v 0 (omega arith) ∙ sym here ∙ ap new (sym e)
      | inr apart ↦ get_or-set_other xs j k v 0 apart ∙ are k k_in ∙ sym (else k k_in apart)
    ]

-- ---- post

-- the words after a post
abbrev pub posted_after : ℕ → ℕ → ℕ → List ℕ → List ℕ
posted_after n i j words = set words (posted_word n i j) (suc (get_or words (posted_word n i j) 0))

posts_leaves : (n i j : ℕ) (old new : Ring) (halt : Halt) → Posts n old i j new → Leaves n i old new halt halt
posts_leaves n i j old new halt moved = record {
  posted = λ k l k_in l_in apart. moved.posted.others k l k_in l_in (inl apart);
  grows = λ k l k_in l_in. raised_at_least n i j k l old.posted new.posted k_in l_in moved.posted;
  taken = λ k l k_in l_in apart. moved.taken k l k_in l_in;
  colour = λ k k_in apart. moved.colours k k_in;
  token = λ k apart e. moved.token;
  announced = λ e. moved.announced ∙ e;
  of_halt = halt_stays i halt;
}

-- what node i knows after its post
posts_stand : (n i j : ℕ) (old new : Ring) (halt : Halt) (stand : SeatState) → j ≢ i → Posts n old i j new → IsStand n old halt i stand →
    IsStand n new halt i (posts_more stand j)
posts_stand n i j old new halt stand other moved is = record {
  long = record { posted = length-set stand.posted j (suc (slice_index stand.posted j)) ∙ is.long.posted; taken = is.long.taken; seen = is.long.seen };
  shows = record {
    posted = changed n j (suc (slice_index stand.posted j)) stand.posted (old.posted i) (new.posted i) is.long.posted moved.to
        (moved.posted.one_more ∙ sym (ap suc (is.shows.posted j moved.to))) (λ k k_in apart. moved.posted.others i k moved.from k_in (inr apart)) is.shows.posted;
    taken = λ k k_in. is.shows.taken k k_in ∙ sym (moved.taken k i k_in moved.from);
    colour = is.shows.colour ∙ sym (moved.colours i moved.from);
    token = λ token e. let had = is.shows.token token e in (had.0 ∙ sym moved.token, had.1);
    ended = λ e. moved.announced ∙ is.shows.ended e;
  };
  none_own = get_or-set_other stand.posted j i (suc (slice_index stand.posted j)) 0 (λ e. other (sym e)) ∙ is.none_own;
  seen = λ k k_in. omega (arith, is.seen k k_in, raised_at_least n i j k i old.posted new.posted k_in moved.from moved.posted);
  knows = is.knows;
}

module _ {n i id : ℕ} {words : List ℕ} {views : List View} {stand : SeatState} {witnessed : List BoardEvent} (seat : HasSeat n i id words views stand witnessed)
    (j : ℕ) (j_in : j < n) where
  pub posts : j ≢ i → stand.black ≡ true → slice_index stand.posted j < 2 ^ 40 →
      IsHeld n (posted_after n i j words) (slice_set views id (one n i (posts_more stand j) (OfRing (Post i j) ∷ seat.held.log)))
      × MakesEvent n i (Post i j) stand (posts_more stand j) witnessed (OfRing (Post i j) ∷ seat.held.log)
  posts other is_black room =
      let mine = own_node seat in
      let shows = mine.is_stand.shows in
      let raised : ℕ = suc (posted_in n words i j) in
      let old : Ring = ring_before seat in
      let new : Ring = ring_of n (posted_after n i j words) seat.held.black seat.held.token in
      let painted : old.black i ≡ true = sym shows.colour ∙ is_black in
      let few : old.posted i j < 2 ^ 40 = subst (λ (m : ℕ). m < 2 ^ 40) (shows.posted j j_in) room in
      let moved : Posts n old i j new = record {
        from = mine.within;
        to = j_in;
        is_black = painted;
        posted = posted_raised n i j words raised seat.held.wide mine.within j_in refl;
        taken = taken_stays n i j words raised mine.within j_in;
        colours = λ k k_in. refl;
        token = refl;
        announced = ap (λ (halt : ℕ). eqb halt 1) (head_stays words (posted_word n i j) raised 2 (omega arith) (omega arith));
      } in
      happened seat (Post i j) (posted_after n i j words) (posts_more stand j) seat.held.black seat.held.token seat.held.halt
      (writes_count seat.held (posted_word n i j) raised (omega arith)) seat.held.halt_within
      (false_from_ne_true old.announced (λ ended. true≢false (sym painted ∙ seat.held.lawful.all_white ended i mine.within))) moved
      (λ k l k_in l_in. raised_at_most n i j k l old.posted new.posted (λ a b. 2 ^ 40) k_in l_in moved.posted few (seat.held.lawful.few k l k_in l_in))
      seat.held.told (λ k apart. refl) (posts_leaves n i j old new seat.held.halt moved) (posts_stand n i j old new seat.held.halt stand other moved mine.is_stand)

-- ---- look
sees_stand : (n i j : ℕ) (halt : Halt) (ring : Ring) (stand : SeatState) → i < n → j < n → IsStand n ring halt i stand
    → IsStand n ring halt i (sees stand j (ring.posted j i))
sees_stand n i j halt ring stand i_in j_in is = record {
  long = record { posted = is.long.posted; taken = is.long.taken; seen = length-set stand.seen j (ring.posted j i) ∙ is.long.seen };
  shows = record { posted = is.shows.posted; taken = is.shows.taken; colour = is.shows.colour; token = is.shows.token; ended = is.shows.ended };
  none_own = is.none_own;
  seen = λ k k_in.
      elim (cases_eq k j) [
        | inl e ↦ omega (
          arith,
          ap (λ (m : ℕ). get_or (set stand.seen j (ring.posted j i)) m 0) e,
          get_or-set_same stand.seen j (ring.posted j i) 0 (omega (arith, is.long.seen, j_in)),
          ap (λ (a : ℕ). ring.posted a i) e,
        )
        | inr apart ↦ omega (arith, get_or-set_other stand.seen j k (ring.posted j i) 0 apart, is.seen k k_in)
      ];
  knows = is.knows;
}

module _ {n i id : ℕ} {words : List ℕ} {views : List View} {stand : SeatState} {witnessed : List BoardEvent} (seat : HasSeat n i id words views stand witnessed)
    (j : ℕ) (j_in : j < n) where
  pub looks : IsHeld n words (slice_set views id (one n i (sees stand j (posted_in n words j i)) seat.held.log))
      × Observes n i (sees stand j (posted_in n words j i)) witnessed seat.held.log (HasPosted j i (posted_in n words j i))
      × (slice_index stand.seen j ≤ posted_in n words j i) × (slice_index stand.taken j ≤ posted_in n words j i)
  looks =
      let mine = own_node seat in
      let is = mine.is_stand in
      let made = known seat (sees stand j (posted_in n words j i)) (HasPosted j i (posted_in n words j i))
      (sees_stand n i j seat.held.halt (ring_before seat) stand mine.within j_in is) refl in
      (made.0, made.1, is.seen j j_in, omega (arith, is.shows.taken j j_in, seat.held.lawful.in_order j i j_in mine.within))

-- ---- take
pub painted_colours : (n i : ℕ) (colour : Bool) (old new : Ring) → ((k : ℕ) → new.black k ≡ with_at i colour old.black k) → Colours n old new i colour
painted_colours n i colour old new is = record {
  colour_is = is i ∙ with_here i colour old.black;
  others = λ k k_in apart. is k ∙ with_else i k colour old.black apart;
}

abbrev pub taken_after : ℕ → ℕ → ℕ → List ℕ → List ℕ
taken_after n j i words = set words (taken_word n j i) (suc (get_or words (taken_word n j i) 0))

takes_leaves : (n i j : ℕ) (old new : Ring) (halt : Halt) → Takes n old j i new → Leaves n i old new halt halt
takes_leaves n i j old new halt moved = record {
  posted = λ k l k_in l_in apart. moved.posted k l k_in l_in;
  grows = λ k l k_in l_in. omega (arith, moved.posted k l k_in l_in);
  taken = λ k l k_in l_in apart. moved.taken.others k l k_in l_in (inr apart);
  colour = λ k k_in apart. moved.colours.others k k_in apart;
  token = λ k apart e. moved.token;
  announced = λ e. moved.announced ∙ e;
  of_halt = halt_stays i halt;
}

takes_stand : (n i j : ℕ) (old new : Ring) (halt : Halt) (stand : SeatState) → Takes n old j i new → IsStand n old halt i stand → IsStand n new halt i (takes_more stand j)
takes_stand n i j old new halt stand moved is = record {
  long = record { posted = is.long.posted; taken = length-set stand.taken j (suc (slice_index stand.taken j)) ∙ is.long.taken; seen = is.long.seen };
  shows = record {
    posted = λ k k_in. is.shows.posted k k_in ∙ sym (moved.posted i k moved.to k_in);
    taken = changed n j (suc (slice_index stand.taken j)) stand.taken (λ k. old.taken k i) (λ k. new.taken k i) is.long.taken moved.from
        (moved.taken.one_more ∙ sym (ap suc (is.shows.taken j moved.from))) (λ k k_in apart. moved.taken.others k i k_in moved.to (inl apart)) is.shows.taken;
    colour = sym moved.colours.colour_is;
    token = λ token e. let had = is.shows.token token e in (had.0 ∙ sym moved.token, had.1);
    ended = λ e. moved.announced ∙ is.shows.ended e;
  };
  none_own = is.none_own;
  seen = λ k k_in. omega (arith, is.seen k k_in, moved.posted k i k_in moved.to);
  knows = is.knows;
}

module _ {n i id : ℕ} {words : List ℕ} {views : List View} {stand : SeatState} {witnessed : List BoardEvent} (seat : HasSeat n i id words views stand witnessed)
    (j : ℕ) (j_in : j < n) where
  pub takes : slice_index stand.taken j < slice_index stand.seen j →
      IsHeld n (taken_after n j i words) (slice_set views id (one n i (takes_more stand j) (OfRing (Take j i) ∷ seat.held.log)))
      × MakesEvent n i (Take j i) stand (takes_more stand j) witnessed (OfRing (Take j i) ∷ seat.held.log)
      × (slice_index stand.taken j < 2 ^ 40) × (stand.halt ≢ Ended)
  takes waiting =
      let mine = own_node seat in
      let is = mine.is_stand in
      let raised : ℕ = suc (taken_in n words j i) in
      let black : ℕ → Bool = with_at i true seat.held.black in
      let old : Ring = ring_before seat in
      let new : Ring = ring_of n (taken_after n j i words) black seat.held.token in
      let in_flight : old.taken j i < old.posted j i = omega (arith, is.shows.taken j j_in, is.seen j j_in, waiting) in
      let moved : Takes n old j i new = record {
        from = j_in;
        to = mine.within;
        waiting = in_flight;
        posted = posted_stays n j i words raised j_in mine.within;
        taken = taken_raised n j i words raised seat.held.wide j_in mine.within refl;
        colours = painted_colours n i true old new (λ k. refl);
        token = refl;
        announced = ap (λ (halt : ℕ). eqb halt 1) (head_stays words (taken_word n j i) raised 2 (omega arith) (omega arith));
      } in
      let running : old.announced ≢ true = λ ended. omega (arith, seat.held.lawful.all_taken ended j i j_in mine.within, in_flight) in
      let made = happened seat (Take j i) (taken_after n j i words) (takes_more stand j) black seat.held.token seat.held.halt
      (writes_count seat.held (taken_word n j i) raised (omega arith)) seat.held.halt_within
      (false_from_ne_true old.announced running) moved
      (λ k l k_in l_in. omega (arith, moved.posted k l k_in l_in, seat.held.lawful.few k l k_in l_in)) seat.held.told (λ k apart. refl)
      (takes_leaves n i j old new seat.held.halt moved) (takes_stand n i j old new seat.held.halt stand moved is) in
      (made.0, made.1, omega (arith, is.shows.taken j j_in, in_flight, seat.held.lawful.few j i j_in mine.within), λ e. running (is.shows.ended e))
