-- What has been opened grows by a slot with its run, and is in order. A share is opened place by place; and what it then owns and knows of each class,
-- of its own openings or those of all.
use Rattle.dob_share.proofs.Common.{◌%◌, ◌*◌, ◌++◌, ◌+◌, ◌-◌, ◌/◌, ◌<◌, ◌↔◌, ◌∙◌, ◌∷◌, ◌≡◌, ◌≤◌, AreOpened, AreOwn, ArePlaced, ArePooled, Cell, IsNewShare}
use Rattle.dob_share.proofs.Common.{IsOwn, IsShortCell, IsStatusOf, List, Open, Opening, SameCell, Share, CellHead, Status, StatusWord, [], add-one, ap}
use Rattle.dob_share.proofs.Common.{append-nil, arith, beyond, cases_eq, cases_lt, cell_at, cell_in, cell_moves, cell_where, class_of_place, div-add-mod'}
use Rattle.dob_share.proofs.Common.{fresh, get_or, get_or_append_left, get_or_default, get_or_past, get_or_push, inl, inr, le-div, least_of, length}
use Rattle.dob_share.proofs.Common.{length-replicate, length_push, moves_at, moves_where, mul-le-mul_right, new_slot, open_at, open_number, opening_of, opens}
use Rattle.dob_share.proofs.Common.{opens_below, places_of, refl, replicate, room_at, settled_among, settles, slot_at, slots_where, start_at, status_at}
use Rattle.dob_share.proofs.Common.{subst, suc, sym, tally, vacant, wins_in, word_of, zero, ℕ}
use Rattle.dob_share.proofs.Keeping.{cell_is, same_short}
use Rattle.dob_share.proofs.Words.{rank_less, status_told}

-- a run of no entry counts nothing
wins_none_used : (pool : List ℕ) (start used plies : ℕ) → used ≡ 0 → wins_in pool start used plies ≡ 0
unfolding wins_in
wins_none_used pool start used plies none = ap (λ (k : ℕ). tally (moves_at plies) pool start k) none

module _ (slots : List CellHead) (pool : List ℕ) (opened : AreOpened slots pool) where
  past_end : (place : ℕ) → length slots ≤ place → slot_at slots (length pool) place ≡ beyond (length pool)
  past_end place after = get_or_past slots place (beyond (length pool)) after

  step_on : (place : ℕ) → start_at slots (length pool) place ≤ start_at slots (length pool) (place + 1)
  step_on place = grind (arith, opened.runs place, past_end place, past_end (place + 1))

  ordered_by : (gap place : ℕ) → start_at slots (length pool) place ≤ start_at slots (length pool) (place + gap)
  ordered_by zero place = let same : place + 0 ≡ place = omega arith in grind arith
  ordered_by (suc gap) place = grind (arith, ordered_by gap place, step_on (place + gap))

  pub in_order : (place later : ℕ) → place ≤ later → start_at slots (length pool) place ≤ start_at slots (length pool) later
  in_order place later before = grind (arith, ordered_by (later - place) place)

  room_is : (place : ℕ) → room_at slots (length pool) place ≡ (slot_at slots (length pool) place).left
  room_is place = grind (arith, opened.runs place, past_end place, past_end (place + 1))

  pub cell_fresh : (place : ℕ) → SameCell (cell_in slots pool place) (fresh (slot_at slots (length pool) place).left)
  cell_fresh place = subst (λ c. SameCell c (fresh (slot_at slots (length pool) place).left)) (sym (cell_is slots pool place)) (record {
    left = refl;
    wins = λ plies. wins_none_used pool (start_at slots (length pool) place) (slot_at slots (length pool) place).used plies (opened.unused place);
    least = ap least_of (opened.no_win place);
  })

  fresh_short : (moves : ℕ) → IsShortCell (fresh moves)
  fresh_short moves = grind arith

  pub pooled_open : ArePooled slots pool
  pooled_open = record {
    ordered = in_order;
    within = λ place. grind (arith, past_end (place + length slots), ordered_by (length slots) place);
    small = λ place. subst (λ (k : ℕ). k < 64) (sym (room_is place)) (opened.few place);
    room = λ place. omega (arith, opened.unused place, room_is place);
    short = λ place inside. same_short (cell_in slots pool place) (fresh (slot_at slots (length pool) place).left) (cell_fresh place) (fresh_short (slot_at slots (length pool) place).left);
  }

  -- one more slot, whose run begins at the pool's end, and its run
  module _ (next : CellHead) (new_pool : List ℕ) (at_end : next.start ≡ length pool) (longer : length new_pool ≡ length pool + next.left)
      (few : next.left < 64) (no_win : next.win ≡ 0) (unused : next.used ≡ 0) where
    before : (place : ℕ) → place < length slots → slot_at (slots ++ next ∷ []) (length new_pool) place ≡ slot_at slots (length pool) place
    before place inside = get_or_append_left slots (next ∷ []) (beyond (length new_pool)) place inside
        ∙ get_or_default slots place (beyond (length new_pool)) (beyond (length pool)) inside

    here : (place : ℕ) → length slots ≡ place → slot_at (slots ++ next ∷ []) (length new_pool) place ≡ next
    here place e = get_or_push slots next (beyond (length new_pool)) place e

    behind : (place : ℕ) → length slots < place → slot_at (slots ++ next ∷ []) (length new_pool) place ≡ beyond (length new_pool)
    behind place after = get_or_past (slots ++ next ∷ []) place (beyond (length new_pool)) (let e : length (slots ++ next ∷ []) ≡ length slots + 1 = length_push slots next in omega arith)

    old_start : (place : ℕ) → place ≤ length slots → start_at (slots ++ next ∷ []) (length new_pool) place ≡ start_at slots (length pool) place
    old_start place upto = grind (arith, before place, here place, past_end place)

    -- what those before have, the new one and what is beyond all, each has
    each : (P : CellHead → Type 0) → ((place : ℕ) → P (slot_at slots (length pool) place)) → P next → P (beyond (length new_pool)) →
        (place : ℕ) → P (slot_at (slots ++ next ∷ []) (length new_pool) place)
    each P old new none place = elim (cases_lt place (length slots)) [
      | inl inside ↦ rw (before place inside) (old place)
      | inr after ↦ elim (cases_eq place (length slots)) [
        | inl e ↦ rw (here place (sym e)) new
        | inr n ↦ rw (behind place (omega arith)) none
      ]
    ]

    pub one_more : AreOpened (slots ++ next ∷ []) new_pool
    one_more = record {
      runs = λ place inside. elim (cases_lt place (length slots)) [
        | inl old ↦ omega (
          arith,
          old_start place (omega arith),
          old_start (place + 1) (omega arith),
          ap (λ s. s.left) (before place old),
          opened.runs place old,
        )
        | inr last ↦
            let long = length_push slots next in
            let e : length slots ≡ place = omega arith in
            grind (arith, here place e, behind (place + 1) (omega arith))
      ];
      few = each (λ s. s.left < 64) opened.few few (omega arith);
      no_win = each (λ s. s.win ≡ 0) opened.no_win no_win refl;
      unused = each (λ s. s.used ≡ 0) opened.unused unused refl;
    }

pub longer : (size moves : ℕ) → length (replicate (size + moves) vacant) ≡ length (replicate size vacant) + moves
longer size moves = length-replicate (size + moves) vacant ∙ ap (λ (k : ℕ). k + moves) (sym (length-replicate size vacant))

pub none_opened : (slots : List CellHead) (pool : List ℕ) → slots ≡ [] → pool ≡ [] → AreOpened slots pool
none_opened slots pool no_slot no_count =
    let none : length slots ≡ 0 = ap length no_slot in
    let empty : length pool ≡ 0 = ap length no_count in record {
      runs = λ place inside. absurd (omega arith);
      few = λ place. subst (λ s. s.left < 64) (sym (get_or_past slots place (beyond (length pool)) (omega arith))) (omega arith);
      no_win = λ place. ap (λ s. s.win) (get_or_past slots place (beyond (length pool)) (omega arith));
      unused = λ place. ap (λ s. s.used) (get_or_past slots place (beyond (length pool)) (omega arith));
    }

pub settles_most : (status : Status) → settles status ≤ 1
settles_most status = grind arith

pub settled_more : (status : ℕ → Status) (place settled more : ℕ) → settled ≡ settled_among status place → more ≡ settles (status place) →
    settled + more ≡ settled_among status (place + 1)
settled_more status place settled more so_far last = rw add-one (let e : settled_among status (suc place) ≡ settled_among status place + settles (status place) = refl in omega arith)

-- ---- place by place

-- how many places there are
pub places_count : (count id n : ℕ) → 0 < n → id < count → (place : ℕ) → (place < (count - 1 - id) / n + 1) ↔ (place * n + id < count)
places_count count id n some more place =
    let whole : (count - 1 - id) / n * n + (count - 1 - id) % n ≡ count - 1 - id = div-add-mod' (count - 1 - id) n in (
      λ below.
          let up : place ≤ (count - 1 - id) / n = omega arith in
          let times : place * n ≤ (count - 1 - id) / n * n = mul-le-mul_right n up in omega arith,
      λ inside. let up : place ≤ (count - 1 - id) / n = le-div place (count - 1 - id) n some (omega arith) in omega arith,
    )

-- so many classes have so few places
pub places_few : (count id n places : ℕ) → 0 < n → count < 4294967296 → ((place : ℕ) → (place < places) ↔ (place * n + id < count)) → places < 4294967296
places_few count id n places some few are = grind (arith, are 4294967295)

class_back : (class n id : ℕ) → class % n ≡ id → class / n * n + id ≡ class
class_back class n id e = let whole : class / n * n + class % n ≡ class = div-add-mod' class n in omega arith

-- The slots of the open classes at that many first places, where that is listed of each, with so many entries in the pool.
pub record AreSlotsBelow (words : List StatusWord) (listed : ℕ → Opening) (upto : ℕ) (slots : List CellHead) (entries : ℕ) : Type 0 where
  pub opened : AreOpened slots (replicate entries vacant)
  pub count : length slots ≡ opens_below words upto
  pub moves : (place : ℕ) → place < upto → open_at words place ≡ 1 → (get_or slots (opens_below words place) (beyond 0)).left ≡ (listed place).moves

module _ {words : List StatusWord} {listed : ℕ → Opening} where
  pub slots_none : {slots : List CellHead} → slots ≡ [] → AreSlotsBelow words listed 0 slots 0
  slots_none {slots = slots} none = record {
    opened = none_opened slots (replicate 0 vacant) none refl;
    count = ap length none;
    moves = λ place low. absurd (omega arith);
  }

  module _ {place entries : ℕ} {slots : List CellHead} (so_far : AreSlotsBelow words listed place slots entries) where
    -- a class that isn't open
    closed_more : open_at words place ≡ 0 → AreSlotsBelow words listed (place + 1) (slots ++ []) (entries + 0)
    closed_more closed = rw (append-nil slots, let e : entries + 0 ≡ entries = omega arith in e) (record {
      opened = so_far.opened;
      count = rw add-one (let next : opens_below words (suc place) ≡ opens_below words place + open_at words place = refl in
          let count : length slots ≡ opens_below words place = so_far.count in omega arith);
      moves = λ other low one. elim (cases_lt other place) [
        | inl before ↦ so_far.moves other before one
        | inr after ↦ let e : other ≡ place = omega arith in
            let here : open_at words place ≡ 1 = rw e at one in absurd (omega arith)
      ];
    })

    -- one that is
    open_more : (moves : ℕ) → open_at words place ≡ 1 → moves < 64 → moves ≡ (listed place).moves →
        AreSlotsBelow words listed (place + 1) (slots ++ new_slot entries moves ∷ []) (entries + moves)
    open_more moves one few is = record {
      opened = one_more slots (replicate entries vacant) so_far.opened (new_slot entries moves) (replicate (entries + moves) vacant)
          (sym (length-replicate entries vacant)) (longer entries moves) few refl refl;
      count = rw add-one (let next : opens_below words (suc place) ≡ opens_below words place + open_at words place = refl in
          let count : length slots ≡ opens_below words place = so_far.count in
          let long : length (slots ++ new_slot entries moves ∷ []) ≡ length slots + 1 = length_push slots (new_slot entries moves) in omega arith);
      moves = λ other low set. elim (cases_lt other place) [
        | inl before ↦
            let less : opens_below words other < opens_below words place = rank_less words other place before set in
            let count : length slots ≡ opens_below words place = so_far.count in
            ap (λ s. s.left) (get_or_append_left slots (new_slot entries moves ∷ []) (beyond 0) (opens_below words other) (omega arith))
            ∙ so_far.moves other before set
        | inr after ↦ let e : place ≡ other = omega arith in
            ap (λ s. s.left) (get_or_push slots (new_slot entries moves) (beyond 0) (opens_below words other) (so_far.count ∙ ap (opens_below words) e))
            ∙ is ∙ ap (λ (k : ℕ). (listed k).moves) e
      ];
    }

    slots_by : (status : Status) (moves : ℕ) → open_at words place ≡ opens status → moves_where status moves < 64 → moves ≡ (listed place).moves →
        AreSlotsBelow words listed (place + 1) (slots ++ slots_where status (new_slot entries moves)) (entries + moves_where status moves)
    slots_by Open moves is few told = open_more moves is few told
    slots_by status moves is few told = closed_more is

    pub slots_more : (opening : Opening) (new : List CellHead) → opening ≡ listed place →
        IsStatusOf (word_of words place) (place % 64) (listed place).status → cell_moves opening < 64 →
        new ≡ slots ++ slots_where opening.status (new_slot entries opening.moves) →
        AreSlotsBelow words listed (place + 1) new (entries + cell_moves opening)
    slots_more opening new is status few new_is =
        subst (λ (xs : List CellHead). AreSlotsBelow words listed (place + 1) xs (entries + cell_moves opening)) (sym new_is)
        (slots_by opening.status opening.moves (status.opens_is ∙ ap (λ (o : Opening). opens o.status) (sym is)) few (ap (λ (o : Opening). o.moves) is))

-- a cell that is there where the class is open
cell_by_status : (b : ℕ) (cell : Cell) (status : Status) (moves : ℕ) → b ≡ opens status → (b ≡ 1 → SameCell cell (fresh moves)) →
    SameCell (cell_where b cell) (fresh (moves_where status moves))
cell_by_status b cell status moves is same = grind arith

-- as many are settled where the statuses are the same
settled_same : (status other : ℕ → Status) (places : ℕ) → ((place : ℕ) → place < places → status place ≡ other place) →
    settled_among status places ≡ settled_among other places
settled_same status other zero same = refl
settled_same status other (suc places) same = grind (arith, settled_same status other places (λ place low. same place (omega arith)), same places)

-- A share by the places of its classes: each has the status that is listed there, and a slot where it is open.
pub record IsOpenedBy (listed : ℕ → Opening) (entries : ℕ) (share : Share) : Type 0 where
  pub statuses : (place : ℕ) → place < share.statuses.places → IsStatusOf (word_of share.statuses.words place) (place % 64) (listed place).status
  pub slots : AreSlotsBelow share.statuses.words listed share.statuses.places share.slots entries
  pub pool : share.pool ≡ replicate entries vacant
  pub settled : share.settled ≡ settled_among (λ place. (listed place).status) share.statuses.places

-- It is that of its owner among any openings that have these of the owner's classes.
module _ (share : Share) (listed : ℕ → Opening) (entries : ℕ) (opened : IsOpenedBy listed entries share) (openings : List Opening)
    (places : (place : ℕ) → (place < share.statuses.places) ↔ (class_of_place share.nodes share.id place < length openings))
    (each : (place : ℕ) → place < share.statuses.places → listed place ≡ opening_of openings (class_of_place share.nodes share.id place)) where
  listed_here : (class : ℕ) → IsOwn share class → listed (class / share.nodes) ≡ opening_of openings class
  unfolding IsOwn
  listed_here class own = each (class / share.nodes) own.1 ∙ ap (opening_of openings) (class_back class share.nodes share.id own.0)

  told : (class : ℕ) → IsOwn share class → IsStatusOf (word_of share.statuses.words (class / share.nodes)) (class / share.nodes % 64)
      (opening_of openings class).status
  unfolding IsOwn
  told class own = rw (listed_here class own) at (opened.statuses (class / share.nodes) own.1)

  open_cell : (class : ℕ) → IsOwn share class → open_at share.statuses.words (class / share.nodes) ≡ 1 →
      SameCell (cell_in share.slots share.pool (opens_below share.statuses.words (class / share.nodes))) (fresh (opening_of openings class).moves)
  unfolding IsOwn
  open_cell class own one =
      let number : ℕ = opens_below share.statuses.words (class / share.nodes) in
      let inside : number < length share.slots = rw opened.slots.count (rank_less share.statuses.words (class / share.nodes) share.statuses.places own.1 one) in
      let left : (slot_at share.slots (length share.pool) number).left ≡ (opening_of openings class).moves
      = ap (λ s. s.left) (get_or_default share.slots number (beyond (length share.pool)) (beyond 0) inside)
      ∙ opened.slots.moves (class / share.nodes) own.1 one ∙ ap (λ (o : Opening). o.moves) (listed_here class own) in
      rw left at (cell_fresh share.slots share.pool (rw opened.pool opened.slots.opened) number)

  pub is_new : IsNewShare openings share.nodes share.id share
  unfolding IsOwn status_at cell_at open_number places_of
  is_new = record {
    who = (refl, refl);
    owned = λ class. (
      λ own. (own.0, rw (class_back class share.nodes share.id own.0) at ((places (class / share.nodes)).0 own.1)),
      λ both. (both.0, (places (class / share.nodes)).1 (rw (class_back class share.nodes share.id both.0) both.1)),
    );
    statuses = λ class own. status_told (word_of share.statuses.words (class / share.nodes)) (class / share.nodes % 64) (opening_of openings class).status
        (told class own);
    cells = λ class own. cell_by_status (open_at share.statuses.words (class / share.nodes))
        (cell_in share.slots share.pool (opens_below share.statuses.words (class / share.nodes))) (opening_of openings class).status
        (opening_of openings class).moves
        (told class own).opens_is (open_cell class own);
    settled = opened.settled ∙ settled_same (λ place. (listed place).status) (λ place. (opening_of openings (class_of_place share.nodes share.id place)).status)
        share.statuses.places (λ place low. ap (λ (o : Opening). o.status) (each place low));
  }

-- ---- whose openings are listed
pub placed_itself : (openings : List Opening) (n id : ℕ) → ArePlaced openings n id openings n id
placed_itself openings n id = record { places = λ place. (λ low. low, λ low. low); each = λ place low. refl }

-- those of its classes alone
pub placed_own : (openings own : List Opening) (one n id : ℕ) → one ≡ 1 → AreOwn openings n id own → ArePlaced own one 0 openings n id
placed_own openings own one n id is are =
    let at : (place : ℕ) → class_of_place one 0 place ≡ place = λ place. rw is (let e : place * 1 + 0 ≡ place = omega arith in e) in
    record { places = λ place. rw (at place) (are.places place); each = λ place inside. rw (at place) (are.each place ((are.places place).1 inside)) }
