-- What a seat knows of its node, and when it is right.
use Rattle.std.specs.Prelude.{◌≡◌, ◌≢◌, ℕ, suc, ◌-◌, ◌*◌, ◌^◌, ◌<◌, ◌≤◌, true, false, cond, ◌==◌, List, [], ◌∷◌, Option, Some, None, slice_index}
use Rattle.std.specs.Prelude.{slice_set, length, sum, ℤ, pos, neg_ℤ, ◌-ℤ◌, ◌≤ℤ◌}
use Rattle.dob_safra.specs.declared.token.Token.{Token}
use Rattle.dob_board.specs.declared.view.BoardEvent.{BoardEvent}
use Rattle.dob_safra.specs.Tokens.{passed_on}
use Rattle.dob_safra.specs.Rings.{Ring}
use Rattle.dob_board.specs.declared.halt.Halt.{Halt}
use Rattle.dob_board.specs.declared.halt.Halt.TheVariants.{Running, Ended, Failed}
use Rattle.dob_board.specs.declared.view.SeatState.{SeatState}
use Rattle.dob_board.specs.declared.view.View.{View}

-- the view of the seat of node i alone
abbrev pub one : ℕ → ℕ → SeatState → List BoardEvent → View
one n i stand witnessed = record { size = n; from = i; stands = stand ∷ []; witnessed = witnessed; own = true; closed = false }

-- one batch more was posted to j
abbrev pub posts_more : SeatState → ℕ → SeatState
posts_more stand j = record stand { posted = slice_set stand.posted j (suc (slice_index stand.posted j)) }

-- one batch more was taken from j, and the node is black
abbrev pub takes_more : SeatState → ℕ → SeatState
takes_more stand j = record stand { taken = slice_set stand.taken j (suc (slice_index stand.taken j)); black = true }

-- j was seen to have posted that many
abbrev pub sees : SeatState → ℕ → ℕ → SeatState
sees stand j number = record stand { seen = slice_set stand.seen j number }

-- a lawful ring's token at node i has a sum in these bounds
abbrev pub IsInBounds : ℕ → ℕ → Token → Type 0
IsInBounds n i token = (token.at ≡ i) × (neg_ℤ (pos ((n - 1 - i) * 2 ^ 44)) ≤ℤ token.sum) × (token.sum ≤ℤ pos ((n - 1 - i) * 2 ^ 44))

-- so has the one that a node knows
abbrev pub IsTokenInBounds : ℕ → ℕ → SeatState → Type 0
IsTokenInBounds n i stand = (token : Token) → stand.token ≡ Some token → IsInBounds n i token

-- the token, if it is at node i
abbrev pub token_at : ℕ → Token → Option Token
token_at i token = cond (token.at == i) (Some token) None

-- the token was looked for, and is that one
abbrev pub meets : ℕ → SeatState → Token → SeatState
meets i stand token = record stand { token = token_at i token }

-- the node's counter: the batches that it posted less those that it took
abbrev pub counter_of : SeatState → ℤ
counter_of stand = pos (sum stand.posted) -ℤ pos (sum stand.taken)

-- the token after the node passed it, in a ring of n nodes
abbrev pub passed_by : ℕ → SeatState → Token → Token
passed_by n stand token = passed_on n token (counter_of stand) stand.black

-- node i passed the token, and is white
abbrev pub passes : ℕ → ℕ → SeatState → Token → SeatState
passes n i stand token = record stand { black = false; token = token_at i (passed_by n stand token) }

-- that halt was found
abbrev pub finds : SeatState → Halt → SeatState
finds stand halt = record stand { halt = halt }

-- The counts and the colour of node i are those of the ring; a token that it knows is the ring's, at i; and an end that it
-- knows is announced.
pub record Shows (n : ℕ) (ring : Ring) (i : ℕ) (stand : SeatState) : Type 0 where
  pub posted : (j : ℕ) → j < n → slice_index stand.posted j ≡ ring.posted i j
  pub taken : (j : ℕ) → j < n → slice_index stand.taken j ≡ ring.taken j i
  pub colour : stand.black ≡ ring.black i
  pub token : (token : Token) → stand.token ≡ Some token → (token ≡ ring.token) × (token.at ≡ i)
  pub ended : stand.halt ≡ Ended → ring.announced ≡ true

-- the lists of a node have a number for each of n nodes
pub record AreLong (n : ℕ) (posts takes looks : List ℕ) : Type 0 where
  pub posted : length posts ≡ n
  pub taken : length takes ≡ n
  pub seen : length looks ≡ n

-- What node i knows of the halt is right: a halt seen is the halt; the halt names i only where i knows that it failed the run;
-- and it is the end only where node 0 knows that it announced it.
pub record KnowsHalt (i : ℕ) (halt known : Halt) : Type 0 where
  pub seen : known ≢ Running → halt ≡ known
  pub failed : halt ≡ Failed i → known ≡ Failed i
  pub announced : i ≡ 0 → halt ≡ Ended → known ≡ Ended

-- What node i knows is right where the ring and the halt are these: its lists have a number for each node; its
-- counts, its colour and a token that it knows are those of the ring; it posted nothing to itself; numbers seen are at most
-- what was posted; and what it knows of the halt is right.
pub record IsStand (n : ℕ) (ring : Ring) (halt : Halt) (i : ℕ) (stand : SeatState) : Type 0 where
  pub long : AreLong n stand.posted stand.taken stand.seen
  pub shows : Shows n ring i stand
  pub none_own : slice_index stand.posted i ≡ 0
  pub seen : (j : ℕ) → j < n → slice_index stand.seen j ≤ ring.posted j i
  pub knows : KnowsHalt i halt stand.halt
