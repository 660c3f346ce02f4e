-- A step of one node's seat keeps the rule, where it leaves to the other nodes what they know; and what it makes or observes.
use Rattle.std.proofs.Common.{◌≡◌, ◌≢◌, ℕ, zero, suc, ◌+◌, ◌<◌, ◌≤◌, List, [], ◌∷◌, ◌++◌, length, Bool, true, Option, Some, refl, sym, ap, ◌∙◌, subst, ⊎_elim}
use Rattle.std.proofs.Common.{arith, append_assoc}
use Rattle.dob_board.proofs.Names.{slice_index, slice_set, some, some-ne-none, some-injective, get_elem?, at_set, Token, RingEvent, BoardEvent, OfRing}
use Rattle.dob_board.proofs.Names.{IsPacked, Ring, CountsStay, IsLawfulRing, Moved, HasFew, moved_kept, SeatState, View, ring_of, one, KnowsHalt, IsStand, Runs}
use Rattle.dob_board.proofs.Names.{IsLaterLog, IsInTime, MakesEvent, Observes, halt_told, token_moves_of, IsNode, IsView, IsHeld, Halt, Running, Ended, Failed}
use Rattle.dob_board.proofs.Names.{halt_word, nodes_in, sum_by-cons}

-- what a step of node i, from one halt to another, leaves to the others
pub record LeavesHalt (i : ℕ) (halt now : Halt) : Type 0 where
  pub seen : (known : Halt) → known ≢ Running → halt ≡ known → now ≡ known
  pub failed : (k : ℕ) → k ≢ i → now ≡ Failed k → halt ≡ Failed k
  pub ended : (k : ℕ) → k ≢ i → k ≡ 0 → now ≡ Ended → halt ≡ Ended

-- and what it leaves from one ring to another
pub record Leaves (n i : ℕ) (old new : Ring) (halt now : Halt) : Type 0 where
  pub posted : (k j : ℕ) → k < n → j < n → k ≢ i → new.posted k j ≡ old.posted k j
  pub grows : (j k : ℕ) → j < n → k < n → old.posted j k ≤ new.posted j k
  pub taken : (j k : ℕ) → j < n → k < n → k ≢ i → new.taken j k ≡ old.taken j k
  pub colour : (k : ℕ) → k < n → k ≢ i → new.black k ≡ old.black k
  pub token : (k : ℕ) → k ≢ i → old.token.at ≡ k → new.token ≡ old.token
  pub announced : old.announced ≡ true → new.announced ≡ true
  pub of_halt : LeavesHalt i halt now

-- a halt that stays
pub halt_stays : (i : ℕ) (halt : Halt) → LeavesHalt i halt halt
halt_stays i halt = record { seen = λ known ne e. e; failed = λ k apart e. e; ended = λ k apart first e. e }

-- a step that leaves the counts
pub counts_left : (n i : ℕ) (old new : Ring) (halt now : Halt) → CountsStay n old.posted new.posted → CountsStay n old.taken new.taken →
    ((k : ℕ) → k < n → k ≢ i → new.black k ≡ old.black k) → ((k : ℕ) → k ≢ i → old.token.at ≡ k → new.token ≡ old.token) →
    (old.announced ≡ true → new.announced ≡ true) → LeavesHalt i halt now → Leaves n i old new halt now
counts_left n i old new halt now posted taken colour token announced of_halt = record {
  posted = λ k l k_in l_in apart. posted k l k_in l_in;
  grows = λ k l k_in l_in. omega (arith, posted k l k_in l_in);
  taken = λ k l k_in l_in apart. taken k l k_in l_in;
  colour = colour;
  token = token;
  announced = announced;
  of_halt = of_halt;
}

-- a ring that stays
pub ring_stays : (n i : ℕ) (ring : Ring) (halt now : Halt) → LeavesHalt i halt now → Leaves n i ring ring halt now
ring_stays n i ring halt now = counts_left n i ring ring halt now (λ k l k_in l_in. refl) (λ k l k_in l_in. refl) (λ k k_in apart. refl) (λ k apart e. refl) (λ e. e)

stand_stays : (n i k : ℕ) (old new : Ring) (halt now : Halt) (stand : SeatState) → k < n → k ≢ i → Leaves n i old new halt now →
    IsStand n old halt k stand → IsStand n new now k stand
stand_stays n i k old new halt now stand within apart leaves is = record {
  long = is.long;
  shows = record {
    posted = λ j j_in. is.shows.posted j j_in ∙ sym (leaves.posted k j within j_in apart);
    taken = λ j j_in. is.shows.taken j j_in ∙ sym (leaves.taken j k j_in within apart);
    colour = is.shows.colour ∙ sym (leaves.colour k within apart);
    token = λ token e. let had = is.shows.token token e in
        (had.0 ∙ sym (leaves.token k apart (sym (ap (λ (t : Token). t.at) had.0) ∙ had.1)), had.1);
    ended = λ e. leaves.announced (is.shows.ended e);
  };
  none_own = is.none_own;
  seen = λ j j_in. omega (arith, is.seen j j_in, leaves.grows j k j_in within);
  knows = record {
    seen = λ ne. leaves.of_halt.seen stand.halt ne (is.knows.seen ne);
    failed = λ e. is.knows.failed (leaves.of_halt.failed k apart e);
    announced = λ first e. is.knows.announced first (leaves.of_halt.ended k apart first e);
  };
}

-- a step of node i that leaves the counts may change its colour, its token and the halt that it knows
pub counts_stay : (n i : ℕ) (old new : Ring) (halt now : Halt) (stand : SeatState) (black : Bool) (token : Option Token) (known : Halt) → i < n →
    CountsStay n old.posted new.posted → CountsStay n old.taken new.taken → black ≡ new.black i →
    ((seen : Token) → token ≡ Some seen → (seen ≡ new.token) × (seen.at ≡ i)) → (known ≡ Ended → new.announced ≡ true) → KnowsHalt i now known →
    IsStand n old halt i stand → IsStand n new now i (record stand { black = black; token = token; halt = known })
counts_stay n i old new halt now stand black token known within posted taken colour token_is ended knows is = record {
  long = is.long;
  shows = record {
    posted = λ k k_in. is.shows.posted k k_in ∙ sym (posted i k within k_in);
    taken = λ k k_in. is.shows.taken k k_in ∙ sym (taken k i k_in within);
    colour = colour;
    token = token_is;
    ended = ended;
  };
  none_own = is.none_own;
  seen = λ k k_in. omega (arith, is.seen k k_in, posted k i k_in within);
  knows = knows;
}

-- a node that found the halt, or made it, knows it
pub knows_now : (i : ℕ) (halt : Halt) → KnowsHalt i halt halt
knows_now i halt = record { seen = λ ne. refl; failed = λ e. e; announced = λ first e. e }

-- the log goes on from what was witnessed
pub goes_further : (witnessed log more : List BoardEvent) → IsLaterLog witnessed log → IsLaterLog witnessed (more ++ log)
goes_further witnessed log more on = (more ++ on.0, ap (λ (l : List BoardEvent). more ++ l) on.1 ∙ sym (append_assoc more on.0 witnessed))

-- the view of one node is right where that node is, and has moved nothing since
pub one_is_view : (n i id : ℕ) (halt : Halt) (owner : ℕ → ℕ) (ring : Ring) (log witnessed : List BoardEvent) (stand : SeatState) → i < n → owner i ≡ id →
    IsLaterLog witnessed log → token_moves_of i log ≡ token_moves_of i witnessed → IsStand n ring halt i stand → IsView n owner ring halt log id (one n i stand witnessed)
one_is_view n i id halt owner ring log witnessed stand within owned on still is =
    record { was_witnessed = on; nodes = node; alone = λ e. unmoved; is_closed = λ e. absurd (cc) }
  where
    unmoved : (k : ℕ) (at : SeatState) → get_elem? (stand ∷ []) k ≡ some at → token_moves_of (i + k) log ≡ token_moves_of (i + k) witnessed
    unmoved zero at e =
        let first : i ≡ i + 0 = omega arith in
        subst (λ (x : ℕ). token_moves_of x log ≡ token_moves_of x witnessed) first still
    unmoved (suc k) at e = absurd (some-ne-none at (sym e))

    node : (k : ℕ) (at : SeatState) → get_elem? (stand ∷ []) k ≡ some at → IsNode n owner ring halt id n (i + k) at
    node zero at e =
        let first : i ≡ i + 0 = omega arith in
        let here : IsNode n owner ring halt id n i stand = record { size_is = refl; within = within; owned = owned; is_stand = is } in
        subst (λ (x : ℕ × SeatState). IsNode n owner ring halt id n x.0 x.1) (λ q. (first q, some-injective stand at e q)) here
    node (suc k) at e = absurd (some-ne-none at (sym e))

there_is : {A : Type 0} (xs : List A) (k : ℕ) → k < length xs → (x : A) × (get_elem? xs k ≡ some x)
there_is [] k within = absurd (omega arith)
there_is (x ∷ xs) zero within = (x, refl)
there_is (x ∷ xs) (suc k) within = there_is xs k (omega arith)

-- a view in the place of another one adds its nodes, and takes away those of the other
pub nodes_set : (views : List View) (id : ℕ) (old new : View) → get_elem? views id ≡ some old →
    nodes_in (slice_set views id new) + length old.stands ≡ nodes_in views + length new.stands
nodes_set [] id old new e = absurd (some-ne-none old (sym e))
nodes_set (view ∷ views) zero old new e =
    let same : length view.stands ≡ length old.stands = ap (λ (v : View). length v.stands) (some-injective view old e) in
    omega (arith, same, sum_by-cons (λ (v : View). length v.stands) view views, sum_by-cons (λ (v : View). length v.stands) new views)
nodes_set (view ∷ views) (suc id) old new e =
    omega (
      arith,
      nodes_set views id old new e,
      sum_by-cons (λ (v : View). length v.stands) view views,
      sum_by-cons (λ (v : View). length v.stands) view (slice_set views id new),
    )

-- a view that is closed has node i too, so that no other seat has it
pub has_all : (n i id port : ℕ) (halt : Halt) (owner : ℕ → ℕ) (ring : Ring) (log : List BoardEvent) (view : View) → i < n → owner i ≡ id →
    IsView n owner ring halt log port view → view.closed ≡ true → port ≡ id
has_all n i id port halt owner ring log view within owned was closed =
    let is = was.is_closed closed in
    let there = there_is view.stands i (omega (arith, within, is.all_nodes)) in
    let place : view.from + i ≡ i = omega (arith, is.from_first) in
    sym (was.nodes i there.0 there.1).owned ∙ ap owner place ∙ owned

-- these events are none by which another node than i moves the token or announces the end
abbrev pub AreBy : ℕ → List BoardEvent → List BoardEvent → Type 0
AreBy i more log = (k : ℕ) → k ≢ i → token_moves_of k (more ++ log) ≡ token_moves_of k log

-- the view of another seat stays right
other_view : (n i id port : ℕ) (halt now : Halt) (owner : ℕ → ℕ) (old new : Ring) (log more : List BoardEvent) (view : View) → i < n → owner i ≡ id → port ≢ id →
    AreBy i more log → Leaves n i old new halt now → IsView n owner old halt log port view → IsView n owner new now (more ++ log) port view
other_view n i id port halt now owner old new log more view within owned apart by leaves was = record {
  was_witnessed = goes_further view.witnessed log more was.was_witnessed;
  nodes = λ k stand e.
      let node = was.nodes k stand e in
      let other : view.from + k ≢ i = λ same. apart (sym node.owned ∙ ap owner same ∙ owned) in
      record {
        size_is = node.size_is;
        within = node.within;
        owned = node.owned;
        is_stand = stand_stays n i (view.from + k) old new halt now stand node.within other leaves node.is_stand;
      };
  alone = λ own k stand e.
      let other : view.from + k ≢ i = λ same. apart (sym (was.nodes k stand e).owned ∙ ap owner same ∙ owned) in
      by (view.from + k) other ∙ was.alone own k stand e;
  is_closed = λ e. absurd (apart (has_all n i id port halt owner old log view within owned was e));
}

-- node i's seat, which stands for it alone, where the rule holds
pub record HasSeat (n i id : ℕ) (words : List ℕ) (views : List View) (stand : SeatState) (witnessed : List BoardEvent) : Type 0 where
  pub held : IsHeld n words views
  pub at : get_elem? views id ≡ some (one n i stand witnessed)

-- the words before the counts after a step: the first one stays, and the others are those of this token and this halt
pub record Writes (n : ℕ) (words after : List ℕ) (token : Token) (halt : Halt) : Type 0 where
  pub long : length after ≡ length words
  pub nodes : slice_index after 0 ≡ slice_index words 0
  pub packed : IsPacked token (slice_index after 1)
  pub halt_is : slice_index after 2 ≡ halt_word halt

module _ {n i id : ℕ} {words : List ℕ} {views : List View} {stand : SeatState} {witnessed : List BoardEvent} (seat : HasSeat n i id words views stand witnessed) where
  -- the ring that the words show
  abbrev pub ring_before : Ring
  ring_before = ring_of n words seat.held.black seat.held.token

  -- node i is the seat's, and what it knows is right
  pub own_node : IsNode n seat.held.owner ring_before seat.held.halt id n i stand
  own_node =
      let first : i + 0 ≡ i = omega arith in
      subst (λ (x : ℕ). IsNode n seat.held.owner ring_before seat.held.halt id n x stand) first
      ((seat.held.views_are id (one n i stand witnessed) seat.at).nodes 0 stand refl)

  -- node i has moved nothing that its seat hasn't witnessed
  pub own_alone : token_moves_of i seat.held.log ≡ token_moves_of i witnessed
  own_alone =
      let first : i + 0 ≡ i = omega arith in
      subst (λ (x : ℕ). token_moves_of x seat.held.log ≡ token_moves_of x witnessed) first
      ((seat.held.views_are id (one n i stand witnessed) seat.at).alone refl 0 stand refl)

  pub kept : (after : List ℕ) (new : SeatState) (more : List BoardEvent) (black : ℕ → Bool) (token : Token) (halt : Halt) → Writes n words after token halt →
      halt_word halt < 2 + n → IsLawfulRing n (ring_of n after black token) → Runs n (more ++ seat.held.log) (ring_of n after black token) →
      halt_word halt ≡ halt_told (more ++ seat.held.log) → AreBy i more seat.held.log → Leaves n i ring_before (ring_of n after black token) seat.held.halt halt →
      IsStand n (ring_of n after black token) halt i new → IsHeld n after (slice_set views id (one n i new (more ++ seat.held.log)))
  kept after new more black token halt writes within lawful runs told by leaves is = record {
    size = seat.held.size;
    wide = writes.long ∙ seat.held.wide;
    nodes = writes.nodes ∙ seat.held.nodes;
    black = black;
    token = token;
    packed = writes.packed;
    lawful = lawful;
    halt = halt;
    halt_is = writes.halt_is;
    halt_within = within;
    log = more ++ seat.held.log;
    runs = runs;
    told = told;
    owner = seat.held.owner;
    views_are = λ port view e. ⊎_elim
        (λ (x : (port ≡ id) × (one n i new (more ++ seat.held.log) ≡ view)).
        subst (λ (p : ℕ × View). IsView n seat.held.owner (ring_of n after black token) halt (more ++ seat.held.log) p.0 p.1) (λ q. (sym x.0 q, x.1 q))
        (one_is_view n i id halt seat.held.owner (ring_of n after black token) (more ++ seat.held.log) (more ++ seat.held.log) new own_node.within own_node.owned
        ([], refl) refl is))
        (λ (x : (port ≢ id) × (get_elem? views port ≡ some view)).
        other_view n i id port seat.held.halt halt seat.held.owner ring_before (ring_of n after black token) seat.held.log more view own_node.within own_node.owned
        x.0 by leaves (seat.held.views_are port view x.1))
        (at_set views id port (one n i new (more ++ seat.held.log)) view e);
    each_once = omega (arith, nodes_set views id (one n i stand witnessed) (one n i new (more ++ seat.held.log)) seat.at, seat.held.each_once);
  }

  -- a step that is an event keeps the rule, and makes the event
  pub happened : (event : RingEvent) (after : List ℕ) (new : SeatState) (black : ℕ → Bool) (token : Token) (halt : Halt) → Writes n words after token halt →
      halt_word halt < 2 + n → IsInTime event ring_before → Moved n ring_before event (ring_of n after black token) → HasFew n (ring_of n after black token) →
      halt_word halt ≡ halt_told (OfRing event ∷ seat.held.log) → AreBy i (OfRing event ∷ []) seat.held.log →
      Leaves n i ring_before (ring_of n after black token) seat.held.halt halt → IsStand n (ring_of n after black token) halt i new →
      IsHeld n after (slice_set views id (one n i new (OfRing event ∷ seat.held.log))) × MakesEvent n i event stand new witnessed (OfRing event ∷ seat.held.log)
  happened event after new black token halt writes within in_time moved few told by leaves is =
      let now : Ring = ring_of n after black token in
      let lawful : IsLawfulRing n now = moved_kept n ring_before now event seat.held.size seat.held.lawful moved few in (
        kept after new (OfRing event ∷ []) black token halt writes within lawful (ring_before, seat.held.runs, moved) told by leaves is,
        record {
          log = seat.held.log;
          went_on = (seat.held.views_are id (one n i stand witnessed) seat.at).was_witnessed;
          alone = own_alone;
          is_next = refl;
          old = ring_before;
          new = now;
          runs = seat.held.runs;
          in_time = in_time;
          moved = moved;
          was_lawful = seat.held.lawful;
          is_lawful = lawful;
          shows_before = own_node.is_stand.shows;
          shows_after = is.shows;
        },
      )

  -- a step that changes no word, but what the node knows, keeps the rule, and observes what is so of the ring
  pub known : (new : SeatState) (IsSo : Ring → Type 0) → IsStand n ring_before seat.held.halt i new → IsSo ring_before →
      IsHeld n words (slice_set views id (one n i new seat.held.log)) × Observes n i new witnessed seat.held.log IsSo
  known new IsSo is so = (
    kept words new [] seat.held.black seat.held.token seat.held.halt (record { long = refl; nodes = refl; packed = seat.held.packed; halt_is = seat.held.halt_is })
        seat.held.halt_within seat.held.lawful seat.held.runs seat.held.told (λ k apart. refl)
        (ring_stays n i ring_before seat.held.halt seat.held.halt (halt_stays i seat.held.halt)) is,
    record {
      went_on = (seat.held.views_are id (one n i stand witnessed) seat.at).was_witnessed;
      alone = own_alone;
      ring = ring_before;
      runs = seat.held.runs;
      is_lawful = seat.held.lawful;
      shows = is.shows;
      is_so = so;
    },
  )

-- the rule holds of other views too where each of these is right, and they have as many nodes
pub with_views : (n : ℕ) (words : List ℕ) (views others : List View) (owner : ℕ → ℕ) (held : IsHeld n words views) →
    ((port : ℕ) (view : View) → get_elem? others port ≡ some view →
    IsView n owner (ring_of n words held.black held.token) held.halt held.log port view) → nodes_in others ≡ nodes_in views → IsHeld n words others
with_views n words views others owner held are same = record {
  size = held.size;
  wide = held.wide;
  nodes = held.nodes;
  black = held.black;
  token = held.token;
  packed = held.packed;
  lawful = held.lawful;
  halt = held.halt;
  halt_is = held.halt_is;
  halt_within = held.halt_within;
  log = held.log;
  runs = held.runs;
  told = held.told;
  owner = owner;
  views_are = are;
  each_once = same ∙ held.each_once;
}
