-- A board as its calls see it: its words as they were at the start, and the view of its nodes that have no seat.
use Rattle.std.specs.Prelude.{◌≡◌, ◌≢◌, ℕ, ◌+◌, ◌-◌, ◌<◌, ◌==◌, Bool, true, false, List, [], ◌++◌, length, replicate, slice_index, slice_set}
use mathlib.Core.Option.{some}
use lib.ListN.{get_elem?}
use Rattle.atomic_table.specs.Table.{Me, Step}
use Rattle.dob_board.specs.declared.view.BoardEvent.{BoardEvent}
use Rattle.dob_safra.specs.Tokens.{IsPacked}
use Rattle.dob_safra.specs.Rings.{Ring, IsLawfulRing}
use Rattle.dob_board.specs.declared.view.SeatState.{SeatState}
use Rattle.dob_board.specs.declared.view.View.{View}
use Rattle.dob_board.specs.declared.halt.Halt.TheVariants.{Running, Ended, Failed}
use Rattle.dob_board.specs.Words.{posted_word, taken_word, word_count, halt_word}
use Rattle.dob_board.specs.Views.{Shows}
use Rattle.dob_board.specs.Histories.{Runs, IsLaterLog, halt_told}
use Rattle.dob_board.specs.Rule.{fresh}

-- the words at the start, the second of which is that of the first token
abbrev pub first_words : ℕ → ℕ → List ℕ
first_words n word = slice_set (slice_set (replicate (word_count n) 0) 0 n) 1 word

-- the nodes from k on, which have no seat yet, in one view
abbrev pub unseated : ℕ → ℕ → View
unseated n k = record { size = n; from = k; stands = replicate (n - k) (fresh n); witnessed = []; own = true; closed = false }

-- a seat's view, before that of the nodes that come behind it
abbrev pub joined : View → View → View
joined behind seat = record { size = seat.size; from = seat.from; stands = seat.stands ++ behind.stands; witnessed = seat.witnessed; own = false; closed = false }

-- a view of no node
abbrev pub nobody : View
nobody = record { size = 0; from = 0; stands = []; witnessed = []; own = false; closed = false }

-- the view of all nodes, before it is closed and after
abbrev pub gathered : ℕ → List SeatState → List BoardEvent → Bool → View
gathered n stands witnessed own = record { size = n; from = 0; stands = stands; witnessed = witnessed; own = own; closed = false }

abbrev pub closed_view : ℕ → List SeatState → List BoardEvent → View
closed_view n stands witnessed = record { size = n; from = 0; stands = stands; witnessed = witnessed; own = false; closed = true }

-- The events of a log led to this lawful ring, which shows how the nodes stand, from the first one on.
pub record LeadsTo (n : ℕ) (stands : List SeatState) (log : List BoardEvent) (ring : Ring) : Type 0 where
  pub runs : Runs n log ring
  pub is_lawful : IsLawfulRing n ring
  pub shows : (i : ℕ) (stand : SeatState) → get_elem? stands i ≡ some stand → Shows n ring i stand

-- A word as a seat that stands for these nodes, from the first one on, and has witnessed that log reads it.
pub record IsWord (n : ℕ) (stands : List SeatState) (log : List BoardEvent) (word found : ℕ) : Type 0 where
  pub ring : Ring
  pub leads : LeadsTo n stands log ring
  pub nodes : word ≡ 0 → found ≡ n
  pub token : word ≡ 1 → IsPacked ring.token found
  pub posted : (i j : ℕ) (stand : SeatState) → get_elem? stands i ≡ some stand → j < n → word ≡ posted_word n i j → found ≡ slice_index stand.posted j
  pub taken : (i j : ℕ) (stand : SeatState) → get_elem? stands i ≡ some stand → j < n → word ≡ taken_word n j i → found ≡ slice_index stand.taken j
  pub none_own : (i : ℕ) (stand : SeatState) → get_elem? stands i ≡ some stand → (slice_index stand.posted i ≡ 0) × (slice_index stand.taken i ≡ 0)
  pub halt_within : word ≡ 2 → found < 2 + n
  pub halt_is : word ≡ 2 → ring.announced ≡ (found == 1)
  pub halt_told_is : word ≡ 2 → found ≡ halt_told log
  pub announced : word ≡ 2 → found ≡ 1 → (stand : SeatState) → get_elem? stands 0 ≡ some stand → stand.halt ≡ Ended
  pub halt_seen : word ≡ 2 → (i : ℕ) (stand : SeatState) → get_elem? stands i ≡ some stand → stand.halt ≢ Running → found ≡ halt_word stand.halt
  pub failed : word ≡ 2 → (i : ℕ) (stand : SeatState) → get_elem? stands i ≡ some stand → found ≡ 2 + i → stand.halt ≡ Failed i
  pub all_white : word ≡ 2 → found ≡ 1 → (i : ℕ) (stand : SeatState) → get_elem? stands i ≡ some stand → stand.black ≡ false
  pub all_taken : word ≡ 2 → found ≡ 1 → (i j : ℕ) (one other : SeatState) → get_elem? stands i ≡ some one → get_elem? stands j ≡ some other →
      slice_index one.posted j ≡ slice_index other.taken i

module _ {S : Type 0} where
  -- A load of any word by a seat that stands for all nodes. Its view is closed from then on, and what it has witnessed stays.
  abbrev pub Read : Step S → Me S View → ℕ → Me S View → Type 0
  Read st me found after = (after ≡ (closed_view me.0.size me.0.stands after.0.witnessed, me.1)) × (me.0.closed ≡ true → after.0.witnessed ≡ me.0.witnessed)
      × IsLaterLog me.0.witnessed after.0.witnessed × IsWord me.0.size me.0.stands after.0.witnessed st.word found

-- all words of a board of n nodes, as a seat that stands for these nodes and has witnessed that log reads them
pub record AreRead (n : ℕ) (stands : List SeatState) (log : List BoardEvent) (words : List ℕ) : Type 0 where
  pub count : length words ≡ word_count n
  pub words_are : (w : ℕ) → w < word_count n → IsWord n stands log w (slice_index words w)

-- The words as a closed view has them: word 1 is that of the ring's token, the end is announced where word 2 is 1 and
-- nowhere else, word 2 is the halt that the events give, and the halt and the counts are those of the nodes.
pub record AreAsWitnessed (view : View) (words : List ℕ) : Type 0 where
  pub is_closed : view.closed ≡ true
  pub count : length words ≡ word_count view.size
  pub nodes : slice_index words 0 ≡ view.size
  pub token : (ring : Ring) (word : ℕ) → Runs view.size view.witnessed ring → IsPacked ring.token word → slice_index words 1 ≡ word
  pub announced : (ring : Ring) → Runs view.size view.witnessed ring → ring.announced ≡ (slice_index words 2 == 1)
  pub halt_is : slice_index words 2 ≡ halt_told view.witnessed
  pub halt_seen : (i : ℕ) (stand : SeatState) → get_elem? view.stands i ≡ some stand → stand.halt ≢ Running → slice_index words 2 ≡ halt_word stand.halt
  pub failed : (i : ℕ) (stand : SeatState) → get_elem? view.stands i ≡ some stand → slice_index words 2 ≡ 2 + i → halt_word stand.halt ≡ 2 + i
  pub posted : (i j : ℕ) (stand : SeatState) → get_elem? view.stands i ≡ some stand → j < view.size →
      slice_index words (posted_word view.size i j) ≡ slice_index stand.posted j
  pub taken : (i j : ℕ) (stand : SeatState) → get_elem? view.stands i ≡ some stand → j < view.size →
      slice_index words (taken_word view.size j i) ≡ slice_index stand.taken j
