-- The history of a board: the events so far, the newest first, and what calls say of it.
use Rattle.std.specs.Prelude.{◌≡◌, ⊤, ℕ, suc, ◌+◌, cond, List, [], ◌∷◌, ◌++◌, ◌==◌, false}
use Rattle.dob_safra.specs.declared.token.Token.{Token}
use Rattle.dob_safra.specs.declared.event.RingEvent.{RingEvent}
use Rattle.dob_board.specs.declared.view.BoardEvent.{BoardEvent}
use Rattle.dob_board.specs.declared.view.BoardEvent.TheVariants.{OfRing, Failure}
use Rattle.dob_safra.specs.declared.event.RingEvent.TheVariants.{Post, Take, Pass, Announce}
use Rattle.dob_safra.specs.Rings.{Ring, IsStart, IsLawfulRing, Moved}
use Rattle.dob_board.specs.declared.view.SeatState.{SeatState}
use Rattle.dob_board.specs.Views.{Shows}

-- the halt word as the events give it: 1 after the announcement, 2 + i after the failure of node i
abbrev pub halt_told : List BoardEvent → ℕ
halt_told [] = 0
halt_told (OfRing (Post from to) ∷ log) = halt_told log
halt_told (OfRing (Take from to) ∷ log) = halt_told log
halt_told (OfRing (Pass node) ∷ log) = halt_told log
halt_told (OfRing Announce ∷ log) = 1
halt_told (Failure node ∷ log) = 2 + node

-- how often node i passed the token or, as node 0, announced the end
abbrev pub token_moves_of : ℕ → List BoardEvent → ℕ
token_moves_of i [] = 0
token_moves_of i (OfRing (Post from to) ∷ log) = token_moves_of i log
token_moves_of i (OfRing (Take from to) ∷ log) = token_moves_of i log
token_moves_of i (OfRing (Pass node) ∷ log) = cond (node == i) (suc (token_moves_of i log)) (token_moves_of i log)
token_moves_of i (OfRing Announce ∷ log) = cond (i == 0) (suc (token_moves_of i log)) (token_moves_of i log)
token_moves_of i (Failure node ∷ log) = token_moves_of i log

-- the events lead from the start to the ring; a node fails the run only while it goes on, which changes nothing of the ring
abbrev pub Runs : ℕ → List BoardEvent → Ring → Type 0
Runs n [] ring = IsStart n ring
Runs n (OfRing event ∷ log) ring = (before : Ring) × Runs n log before × Moved n before event ring
Runs n (Failure node ∷ log) ring = (halt_told log ≡ 0) × Runs n log ring

-- the log went on from what was witnessed
abbrev pub IsLaterLog : List BoardEvent → List BoardEvent → Type 0
IsLaterLog witnessed log = (more : List BoardEvent) × (log ≡ more ++ witnessed)

-- but for a pass, events happen only before the end is announced
abbrev pub IsInTime : RingEvent → Ring → Type 0
IsInTime (Post from to) ring = ring.announced ≡ false
IsInTime (Take from to) ring = ring.announced ≡ false
IsInTime (Pass node) ring = ⊤
IsInTime Announce ring = ring.announced ≡ false

-- Node i, which has witnessed some events and stood like that, made this event the next one: others had happened since, and it
-- had made no move of those; they had led to a lawful ring that shows how the node stood; the event came in time, and moved it to
-- a lawful one that shows how the node stands now; and the node has witnessed all that.
pub record MakesEvent (n i : ℕ) (event : RingEvent) (before after : SeatState) (witnessed now : List BoardEvent) : Type 0 where
  pub log : List BoardEvent
  pub went_on : IsLaterLog witnessed log
  pub alone : token_moves_of i log ≡ token_moves_of i witnessed
  pub is_next : now ≡ OfRing event ∷ log
  pub old : Ring
  pub new : Ring
  pub runs : Runs n log old
  pub in_time : IsInTime event old
  pub moved : Moved n old event new
  pub was_lawful : IsLawfulRing n old
  pub is_lawful : IsLawfulRing n new
  pub shows_before : Shows n old i before
  pub shows_after : Shows n new i after

-- Node i has witnessed all events so far, and made no move of those that are new to it. They led to a lawful ring that shows how the
-- node stands, and of which this is so.
pub record Observes (n i : ℕ) (stand : SeatState) (witnessed now : List BoardEvent) (IsSo : Ring → Type 0) : Type 0 where
  pub went_on : IsLaterLog witnessed now
  pub alone : token_moves_of i now ≡ token_moves_of i witnessed
  pub ring : Ring
  pub runs : Runs n now ring
  pub is_lawful : IsLawfulRing n ring
  pub shows : Shows n ring i stand
  pub is_so : IsSo ring

-- i has posted that many batches to j
abbrev pub HasPosted : ℕ → ℕ → ℕ → Ring → Type 0
HasPosted i j number ring = number ≡ ring.posted i j

-- the token is that one
abbrev pub HasToken : Token → Ring → Type 0
HasToken token ring = ring.token ≡ token

-- the end is announced where the halt word is 1, and nowhere else
abbrev pub HasHalt : ℕ → Ring → Type 0
HasHalt word ring = ring.announced ≡ (word == 1)
