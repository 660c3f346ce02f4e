-- What the steps of a seat ask of the table, and what they show.
use Rattle.std.proofs.Common.{◌≡◌, ◌≢◌, ℕ, zero, suc, ◌+◌, ◌^◌, ◌%◌, ◌<◌, List, [], ◌∷◌, set, get_or, true, refl, sym, ap, subst, arith}
use Rattle.std.specs.Arc.{arc_value}
use Rattle.dob_board.proofs.Names.{slice_index, slice_set, none, State, Me, step, keeps, Allows, BoardEvent, OfRing, Post, NodeSeat, witnessed_by}
use Rattle.dob_board.proofs.Names.{Take, SeatState, View, posted_word, taken_word, word_count, one, posts_more, takes_more, sees, IsHeld, Posted}
use Rattle.dob_board.proofs.Names.{Looked, Took}
use Rattle.dob_board.proofs.Places.{posted_place, taken_place, posted_in, taken_in, posted_within, taken_within}
use Rattle.dob_board.proofs.Kept.{HasSeat, own_node}
use Rattle.dob_board.proofs.Steps.{posts, looks, takes}

abbrev pub Seated : Type 0
Seated = Me (Unit {0}) View

abbrev pub Held : ℕ → State (Unit {0}) View → Type 0
Held n s = IsHeld n s.words s.views

abbrev pub seated : ℕ → ℕ → SeatState → List BoardEvent → Seated
seated n i stand witnessed = (one n i stand witnessed, [])

-- writing what stands there changes nothing
pub set_same : (xs : List ℕ) (k : ℕ) → set xs k (get_or xs k 0) ≡ xs
set_same [] k = refl
set_same (x ∷ xs) zero = refl
set_same (x ∷ xs) (suc k) = ap (λ (ys : List ℕ). x ∷ ys) (set_same xs k)

module _ (seat : NodeSeat) where
  -- the seat's view by its node and what it knows of it
  abbrev pub own : Seated
  own = seated seat.nodes seat.node seat.stand (witnessed_by seat)

  -- What a step of the seat asks of its board: that it is the seat's, that it has the word, and that the step is allowed and shows
  -- what it is to show, whatever the words and views are that keep the rule.
  abbrev pub Asks : ℕ → (ℕ → ℕ) → (Seated → ℕ → Seated → Type 0) → Type 0
  Asks w f Shown = (seat.seat.table_id ≡ (arc_value seat.board).shared.table_id) × (w < (arc_value seat.board).shared.table_id.words)
      × Allows (Held (arc_value seat.board).shared.key) (arc_value seat.board).shared.table_id.slots seat.seat.id seat.seat.me w f (Shown seat.seat.me)

  -- the step gives the seat's node another stand, and the rule holds
  abbrev pub Gives : ℕ → (List ℕ → List ℕ) → (Seated → ℕ → Seated → Type 0) → Type 0
  Gives w after Shown = (words : List ℕ) (views : List View) → HasSeat seat.nodes seat.node seat.seat.id words views seat.stand (witnessed_by seat) →
      (new : SeatState) × (log : List BoardEvent) × IsHeld seat.nodes (after words) (slice_set views seat.seat.id (one seat.nodes seat.node new log))
      × Shown own (slice_index words w) (seated seat.nodes seat.node new log)

  pub asks : (w : ℕ) (f : ℕ → ℕ) (Shown : Seated → ℕ → Seated → Type 0) → w < word_count seat.nodes →
      Gives w (λ words. set words w (f (slice_index words w))) Shown → Asks w f Shown
  asks w f Shown within gives =
      let slots : ℕ = (arc_value seat.board).shared.table_id.slots in
      let allows : Allows (Held seat.nodes) slots seat.seat.id own w f (Shown own) = λ s held len at small.
      (let made = gives s.words s.views (record { held = held; at = at }) in (one seat.nodes seat.node made.0 made.1, keeps, tt, made.2, made.3)) in (
        seat.of_board,
        rw seat.words within,
        subst (λ (p : ℕ × Seated). Allows (Held p.0) slots seat.seat.id p.1 w f (Shown p.1)) (λ q. (sym seat.key q, sym seat.view_is q)) allows,
      )

  -- a load, which changes no word
  pub asks_load : (w : ℕ) (Shown : Seated → ℕ → Seated → Type 0) → w < word_count seat.nodes → Gives w (λ words. words) Shown → Asks w (λ x. x) Shown
  asks_load w Shown within gives = asks w (λ x. x) Shown within (λ words views here. let made = gives words views here in
      (made.0, made.1, rw (set_same words w) made.2, made.3))

  module _ (j : ℕ) (j_in : j < seat.nodes) where
    pub posts_asks : j ≢ seat.node → seat.stand.black ≡ true → slice_index seat.stand.posted j < 2 ^ 40 →
        Asks (posted_word seat.nodes seat.node j) (λ x. (x + 1) % 2 ^ 64) (Posted (step 0 (posted_word seat.nodes seat.node j) 1 0 none))
    posts_asks other is_black room =
        asks (posted_word seat.nodes seat.node j) (λ x. (x + 1) % 2 ^ 64) (Posted (step 0 (posted_word seat.nodes seat.node j) 1 0 none))
        (posted_within seat.nodes seat.node j seat.within j_in)
        (λ words views here.
        let made = posts here j j_in other is_black room in
        let fits : (posted_in seat.nodes words seat.node j + 1) % 2 ^ 64 ≡ suc (posted_in seat.nodes words seat.node j) =
        omega (arith, (own_node here).is_stand.shows.posted j j_in, room) in (
          posts_more seat.stand j,
          OfRing (Post seat.node j) ∷ here.held.log,
          rw fits made.0,
          λ k k_in place. rw (← (posted_place seat.nodes seat.node j seat.node k j_in k_in place).1) (refl, made.1),
        ))

    pub looks_asks : Asks (posted_word seat.nodes j seat.node) (λ x. x) (Looked (step 0 (posted_word seat.nodes j seat.node) 0 0 none))
    looks_asks =
        asks_load (posted_word seat.nodes j seat.node) (Looked (step 0 (posted_word seat.nodes j seat.node) 0 0 none))
        (posted_within seat.nodes j seat.node j_in seat.within)
        (λ words views here.
        let made = looks here j j_in in (
          sees seat.stand j (posted_in seat.nodes words j seat.node),
          here.held.log,
          made.0,
          λ k k_in place. rw (← (posted_place seat.nodes j seat.node k seat.node seat.within seat.within place).0) ((refl, made.1), made.2, made.3),
        ))

    pub takes_asks : slice_index seat.stand.taken j < slice_index seat.stand.seen j →
        Asks (taken_word seat.nodes j seat.node) (λ x. (x + 1) % 2 ^ 64) (Took (step 0 (taken_word seat.nodes j seat.node) 1 0 none))
    takes_asks waiting =
        asks (taken_word seat.nodes j seat.node) (λ x. (x + 1) % 2 ^ 64) (Took (step 0 (taken_word seat.nodes j seat.node) 1 0 none))
        (taken_within seat.nodes j seat.node j_in seat.within)
        (λ words views here.
        let made = takes here j j_in waiting in
        let fits : (taken_in seat.nodes words j seat.node + 1) % 2 ^ 64 ≡ suc (taken_in seat.nodes words j seat.node) =
        omega (arith, here.held.lawful.in_order j seat.node j_in seat.within, here.held.lawful.few j seat.node j_in seat.within) in (
          takes_more seat.stand j,
          OfRing (Take j seat.node) ∷ here.held.log,
          rw fits made.0,
          λ k k_in place. rw (← (taken_place seat.nodes j seat.node k seat.node seat.within seat.within place).0) ((refl, made.1), made.2, made.3),
        ))
