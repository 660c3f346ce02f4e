-- Seats and boards as callers see them.
use Rattle.std.specs.Prelude.{◌≡◌, ◌≢◌, ℕ, ◌+◌, ◌<◌, ◌≤◌, ◌⊎◌, ◌==◌, List, Some, length, slice_get, slice_index, true, false}
use Rattle.atomic_table.specs.Seated.{TableId}
use Rattle.dob_safra.specs.declared.token.Token.{Token}
use Rattle.dob_board.specs.declared.view.BoardEvent.{BoardEvent}
use Rattle.dob_safra.specs.declared.event.RingEvent.TheVariants.{Take, Announce}
use Rattle.dob_safra.specs.Tokens.{IsPacked, MayAnnounce}
use Rattle.dob_safra.specs.Rings.{Ring, IsLawfulRing}
use Rattle.dob_board.specs.declared.halt.Halt.{Halt}
use Rattle.dob_board.specs.declared.halt.Halt.TheVariants.{Running, Ended, Failed}
use Rattle.dob_board.specs.declared.view.SeatState.{SeatState}
use Rattle.dob_board.specs.declared.seat.NodeSeat.{NodeSeat}
use Rattle.dob_board.specs.declared.board.Closed.{Closed}
use Rattle.dob_board.specs.Words.{posted_word, taken_word, word_count, halt_word, halt_after}
use Rattle.dob_board.specs.Histories.{Runs, IsLaterLog, MakesEvent, Observes, HasPosted, HasHalt, halt_told, token_moves_of}
use Rattle.dob_board.specs.Views.{Shows, sees, takes_more, counter_of, finds}

-- what the seat knows of its node
abbrev pub stand_of : NodeSeat → SeatState
stand_of seat = seat.stand

-- the events that the seat has witnessed
abbrev pub witnessed_by : NodeSeat → List BoardEvent
witnessed_by seat = seat.seat.me.0.witnessed

-- it is the seat of the same node of the same board
pub record IsSameSeat (old new : NodeSeat) : Type 0 where
  pub node : new.node ≡ old.node
  pub nodes : new.nodes ≡ old.nodes
  pub board : new.seat.table_id ≡ old.seat.table_id

-- the seat of node k of a board of n nodes
pub record IsSeatOf (board : TableId) (n k : ℕ) (seat : NodeSeat) : Type 0 where
  pub node : seat.node ≡ k
  pub nodes : seat.nodes ≡ n
  pub board_is : seat.seat.table_id ≡ board

-- the seats of the n nodes of a board, in order
pub record AreSeats (board : TableId) (n : ℕ) (seats : List NodeSeat) : Type 0 where
  pub count : length seats ≡ n
  pub seats_are : (k : ℕ) (seat : NodeSeat) → slice_get seats k ≡ Some seat → IsSeatOf board n k seat

-- The word of what `from` posted was read: it was not less than what was seen before, and more than what was taken; and
-- the seat took one batch more.
pub record TakesOne (old new : NodeSeat) (from : ℕ) : Type 0 where
  pub number : ℕ
  pub not_less : slice_index old.stand.seen from ≤ number
  pub waiting : slice_index old.stand.taken from < number
  pub counted : new.stand ≡ takes_more (sees old.stand from number) from
  pub event : MakesEvent old.nodes old.node (Take from old.node) old.stand new.stand (witnessed_by old) (witnessed_by new)

-- The word of what `from` posted was read: the number was not less than what was seen before, and no more than what was
-- taken; and the seat took nothing.
pub record TakesNone (old new : NodeSeat) (from number : ℕ) : Type 0 where
  pub not_less : slice_index old.stand.seen from ≤ number
  pub all_taken : slice_index old.stand.taken from ≡ number
  pub noted : new.stand ≡ sees old.stand from number
  pub observed : Observes old.nodes old.node new.stand (witnessed_by old) (witnessed_by new) (HasPosted from old.node number)

-- The node, as the seat knows, may announce the end.
pub record MayEnd (stand : SeatState) : Type 0 where
  pub token : Token
  pub known : stand.token ≡ Some token
  pub may : MayAnnounce token (counter_of stand) stand.black true

-- The seat found that halt, of one of the board's nodes if any, and the one that it knew if it knew one.
pub record FindsHalt (old new : NodeSeat) (halt : Halt) : Type 0 where
  pub noted : new.stand ≡ finds old.stand halt
  pub halt_is : new.stand.halt ≡ halt
  pub within : halt_word halt < 2 + old.nodes
  pub stays : old.stand.halt ≢ Running → halt ≡ old.stand.halt

-- The seat finds that its own node failed only where it knew that.
abbrev pub KnewOwnFailure : NodeSeat → Halt → Type 0
KnewOwnFailure old halt = halt ≡ Failed old.node → old.stand.halt ≡ halt

-- The seat of node 0, which alone announces the end, finds it only where it knew it.
abbrev pub KnewEnd : NodeSeat → Halt → Type 0
KnewEnd old halt = old.node ≡ 0 → halt ≡ Ended → old.stand.halt ≡ Ended

-- The seat has witnessed all events so far, and whether they announced the end.
abbrev pub ObservesHalt : NodeSeat → NodeSeat → Halt → Type 0
ObservesHalt old new halt = Observes old.nodes old.node new.stand (witnessed_by old) (witnessed_by new) (HasHalt (halt_word halt))

-- The events that the seat has witnessed agree with that halt: none of them is a failure, or an announcement, where the run goes on.
abbrev pub TellsHalt : NodeSeat → Halt → Type 0
TellsHalt seat halt = halt_word halt ≡ halt_told (witnessed_by seat)

-- the seat's node didn't pass the token, and announced no end
abbrev pub MovesNothing : NodeSeat → NodeSeat → Type 0
MovesNothing old new = token_moves_of old.node (witnessed_by new) ≡ token_moves_of old.node (witnessed_by old)

-- The seat said that its node failed the run: before it did it had witnessed all events so far, and found whether they announced
-- the end; the halt is the one found, and the node's failure where the run went on.
pub record FailsAfter (old new : NodeSeat) (halt : Halt) : Type 0 where
  pub found : Halt
  pub observed : ObservesHalt old new found
  pub answer : halt ≡ halt_after found (Failed old.node)

-- The seat announced the end; or it has witnessed all events so far, and the run had failed before, or ended, as it knew.
abbrev pub HasAnnounced : NodeSeat → NodeSeat → Halt → Type 0
HasAnnounced old new halt =
    ((halt ≡ Ended) × MakesEvent old.nodes old.node Announce old.stand new.stand (witnessed_by old) (witnessed_by new))
    ⊎ ((halt ≡ Ended → old.stand.halt ≡ Ended) × ObservesHalt old new halt)

-- The words of a board of n nodes with these seats: the counts are those of the seats, and 0 of a node with itself; the halt
-- is the one that each seat knows that knows one, and names a node that knows that it failed; and where it is the end node 0
-- knows that, each node is white and each batch posted is taken.
pub record AreWords (n : ℕ) (seats : List NodeSeat) (words : List ℕ) : Type 0 where
  pub count : length words ≡ word_count n
  pub nodes : slice_index words 0 ≡ n
  pub token : (token : Token) × IsPacked token (slice_index words 1)
  pub posted : (i j : ℕ) (seat : NodeSeat) → slice_get seats i ≡ Some seat → j < n → slice_index words (posted_word n i j) ≡ slice_index seat.stand.posted j
  pub taken : (i j : ℕ) (seat : NodeSeat) → slice_get seats i ≡ Some seat → j < n → slice_index words (taken_word n j i) ≡ slice_index seat.stand.taken j
  pub none_own : (i : ℕ) → i < n → (slice_index words (posted_word n i i) ≡ 0) × (slice_index words (taken_word n i i) ≡ 0)
  pub halt_within : slice_index words 2 < 2 + n
  pub announced : slice_index words 2 ≡ 1 → (seat : NodeSeat) → slice_get seats 0 ≡ Some seat → seat.stand.halt ≡ Ended
  pub halt_seen : (i : ℕ) (seat : NodeSeat) → slice_get seats i ≡ Some seat → seat.stand.halt ≢ Running → slice_index words 2 ≡ halt_word seat.stand.halt
  pub failed : (i : ℕ) (seat : NodeSeat) → slice_get seats i ≡ Some seat → slice_index words 2 ≡ 2 + i → seat.stand.halt ≡ Failed i
  pub all_white : slice_index words 2 ≡ 1 → (i : ℕ) (seat : NodeSeat) → slice_get seats i ≡ Some seat → seat.stand.black ≡ false
  pub all_taken : slice_index words 2 ≡ 1 → (i j : ℕ) → i < n → j < n → slice_index words (posted_word n i j) ≡ slice_index words (taken_word n i j)

-- the events of a board that is closed
abbrev pub log_of : Closed → List BoardEvent
log_of closed = closed.rest.me.0.witnessed

-- What happened on a board of n nodes with these seats until it was closed, the first of it as the seat of node 0 has witnessed:
-- it led to this lawful ring, which shows how each node stands; word 1 is that of its token; its end is announced where word 2 is
-- 1, and nowhere else; and word 2 is the halt that the events give.
pub record IsBoardHistory (n : ℕ) (seats : List NodeSeat) (closed : Closed) : Type 0 where
  pub witnessed : (seat : NodeSeat) → slice_get seats 0 ≡ Some seat → IsLaterLog (witnessed_by seat) (log_of closed)
  pub ring : Ring
  pub runs : Runs n (log_of closed) ring
  pub is_lawful : IsLawfulRing n ring
  pub shows : (i : ℕ) (seat : NodeSeat) → slice_get seats i ≡ Some seat → Shows n ring i seat.stand
  pub token : IsPacked ring.token (slice_index closed.words.items 1)
  pub announced : ring.announced ≡ (slice_index closed.words.items 2 == 1)
  pub halt_is : slice_index closed.words.items 2 ≡ halt_told (log_of closed)
