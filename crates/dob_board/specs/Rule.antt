-- The rule of the board, which each step keeps.
use Rattle.std.specs.Prelude.{◌≡◌, ℕ, ◌+◌, ◌<◌, Bool, List, [], slice_index, length, true, false, None, replicate}
use Rattle.std.specs.List.{sum_by}
use mathlib.Core.Option.{some}
use lib.ListN.{get_elem?}
use Rattle.dob_safra.specs.declared.token.Token.{Token}
use Rattle.dob_board.specs.declared.view.BoardEvent.{BoardEvent}
use Rattle.dob_safra.specs.Tokens.{IsPacked}
use Rattle.dob_safra.specs.Rings.{Ring, IsLawfulRing}
use Rattle.dob_safra.specs.Laws.{IsSize}
use Rattle.dob_board.specs.declared.view.SeatState.{SeatState}
use Rattle.dob_board.specs.declared.view.View.{View}
use Rattle.dob_board.specs.declared.halt.Halt.{Halt}
use Rattle.dob_board.specs.declared.halt.Halt.TheVariants.{Running}
use Rattle.dob_board.specs.Words.{word_count, halt_word, ring_of}
use Rattle.dob_board.specs.Views.{IsStand}
use Rattle.dob_board.specs.Histories.{Runs, IsLaterLog, halt_told, token_moves_of}

-- What a seat's view says of a node is right: the view is of n nodes, the node is this seat's, and what it knows is right.
pub record IsNode (n : ℕ) (owner : ℕ → ℕ) (ring : Ring) (halt : Halt) (port size node : ℕ) (stand : SeatState) : Type 0 where
  pub size_is : size ≡ n
  pub within : node < n
  pub owned : owner node ≡ port
  pub is_stand : IsStand n ring halt node stand

-- A view that is closed is that of all nodes, and has witnessed the whole log: nothing happens any more without its seat.
pub record IsClosed (n : ℕ) (log : List BoardEvent) (view : View) : Type 0 where
  pub from_first : view.from ≡ 0
  pub all_nodes : length view.stands ≡ n
  pub all_witnessed : view.witnessed ≡ log

-- The view of a seat is right: the log went on from what it has witnessed; what it says of each of its nodes, from the first one
-- on, is right; if it has all that they did, none of them moved the token or announced the end since; and if it is closed it is
-- that of all nodes.
pub record IsView (n : ℕ) (owner : ℕ → ℕ) (ring : Ring) (halt : Halt) (log : List BoardEvent) (port : ℕ) (view : View) : Type 0 where
  pub was_witnessed : IsLaterLog view.witnessed log
  pub nodes : (k : ℕ) (stand : SeatState) → get_elem? view.stands k ≡ some stand → IsNode n owner ring halt port view.size (view.from + k) stand
  pub alone : view.own ≡ true → (k : ℕ) (stand : SeatState) → get_elem? view.stands k ≡ some stand →
      token_moves_of (view.from + k) log ≡ token_moves_of (view.from + k) view.witnessed
  pub is_closed : view.closed ≡ true → IsClosed n log view

-- how many nodes the views have, taken together
abbrev pub nodes_in : List View → ℕ
nodes_in views = sum_by (λ view. length view.stands) views

-- The words and the views of a board of n nodes are right: word 0 is n; word 1 is the token's; the ring that the words
-- show, with some colours, is lawful, and the events of some log led to it; word 2 is that of a halt, which these events give; and
-- each view is right. No node is in two views, since it has one owner, and together they have n: so each is in exactly one. A view that
-- is spent has none.
pub record IsHeld (n : ℕ) (words : List ℕ) (views : List View) : Type 0 where
  pub size : IsSize n
  pub wide : length words ≡ word_count n
  pub nodes : slice_index words 0 ≡ n
  pub black : ℕ → Bool
  pub token : Token
  pub packed : IsPacked token (slice_index words 1)
  pub lawful : IsLawfulRing n (ring_of n words black token)
  pub halt : Halt
  pub halt_is : slice_index words 2 ≡ halt_word halt
  pub halt_within : halt_word halt < 2 + n
  pub log : List BoardEvent
  pub runs : Runs n log (ring_of n words black token)
  pub told : halt_word halt ≡ halt_told log
  pub owner : ℕ → ℕ
  pub views_are : (port : ℕ) (view : View) → get_elem? views port ≡ some view →
      IsView n owner (ring_of n words black token) halt log port view
  pub each_once : nodes_in views ≡ n

-- a node at the start
abbrev pub fresh : ℕ → SeatState
fresh n = record { posted = replicate n 0; taken = replicate n 0; seen = replicate n 0; black = true; token = None; halt = Running }

-- all nodes at the start, in one view
abbrev pub whole : ℕ → View
whole n = record { size = n; from = 0; stands = replicate n (fresh n); witnessed = []; own = true; closed = false }
