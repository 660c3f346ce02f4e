-- The state of the ring, when it is lawful, and how the events change it. All is said of the nodes below n alone.
use Rattle.std.specs.Prelude.{◌≡◌, ◌≢◌, ℕ, zero, suc, ◌+◌, ◌-◌, ◌*◌, ◌^◌, ◌<◌, ◌≤◌, ◌⊎◌, Bool, true, false, ℤ, pos, neg_ℤ, ◌+ℤ◌, ◌-ℤ◌, ◌≤ℤ◌, ◌<ℤ◌}
use Rattle.dob_safra.specs.declared.token.Token.{Token}
use Rattle.dob_safra.specs.declared.event.RingEvent.{RingEvent}
use Rattle.dob_safra.specs.declared.event.RingEvent.TheVariants.{Post, Take, Pass, Announce}
use Rattle.dob_safra.specs.Tokens.{first_token, passed_on, MayAnnounce}

-- posted i j batches were posted by i to j, and taken i j of these were taken by j; which nodes are black; the token;
-- and whether the end is announced
pub record Ring : Type 0 where
  pub posted : ℕ → ℕ → ℕ
  pub taken : ℕ → ℕ → ℕ
  pub black : ℕ → Bool
  pub token : Token
  pub announced : Bool

-- f 0 + .. + f (n - 1)
abbrev pub sum_below : ℕ → (ℕ → ℕ) → ℕ
sum_below zero f = 0
sum_below (suc n) f = sum_below n f + f n

abbrev pub sum_below_ℤ : ℕ → (ℕ → ℤ) → ℤ
sum_below_ℤ zero f = pos 0
sum_below_ℤ (suc n) f = sum_below_ℤ n f +ℤ f n

-- a node's counter: the batches that it posted less the batches that it took
abbrev pub counter : ℕ → Ring → ℕ → ℤ
counter n ring i = pos (sum_below n (λ j. ring.posted i j)) -ℤ pos (sum_below n (λ j. ring.taken j i))

-- the counters of the nodes below k, added up
abbrev pub counters_below : ℕ → Ring → ℕ → ℤ
counters_below n ring k = sum_below_ℤ k (counter n ring)

-- the counters of the nodes from k on, added up
abbrev pub counters_from : ℕ → Ring → ℕ → ℤ
counters_from n ring k = counters_below n ring n -ℤ counters_below n ring k

-- how many batches are posted and not taken
abbrev pub in_flight : ℕ → Ring → ℕ
in_flight n ring = sum_below n (λ i. sum_below n (λ j. ring.posted i j - ring.taken i j))

-- each node is white
abbrev pub AllWhite : ℕ → Ring → Type 0
AllWhite n ring = (i : ℕ) → i < n → ring.black i ≡ false

-- each batch that was posted is taken
abbrev pub AllTaken : ℕ → Ring → Type 0
AllTaken n ring = (i j : ℕ) → i < n → j < n → ring.posted i j ≡ ring.taken i j

-- Why an end isn't announced too early, where the ring has that token, at t (P1 to P4 of EWD998): the nodes above t are
-- white and their counters add up to the sum (P1); or the counters of 0 to t and the sum are positive together (P2); or one
-- of 0 to t is black (P3); or the token is (P4).
pub data Reason (n : ℕ) (ring : Ring) (token : Token) : Type 0 where
  counted : ((i : ℕ) → token.at < i → i < n → ring.black i ≡ false) → token.sum ≡ counters_from n ring (suc token.at) → Reason n ring token
  positive : pos 0 <ℤ (counters_below n ring (suc token.at) +ℤ token.sum) → Reason n ring token
  black_node : (i : ℕ) → i ≤ token.at → ring.black i ≡ true → Reason n ring token
  black_token : token.black ≡ true → Reason n ring token

-- A lawful state of n nodes.
pub record IsLawfulRing (n : ℕ) (ring : Ring) : Type 0 where
  pub in_order : (i j : ℕ) → i < n → j < n → ring.taken i j ≤ ring.posted i j
  pub few : (i j : ℕ) → i < n → j < n → ring.posted i j ≤ 2 ^ 40
  pub at : ring.token.at < n
  pub low : neg_ℤ (pos ((n - 1 - ring.token.at) * 2 ^ 44)) ≤ℤ ring.token.sum
  pub high : ring.token.sum ≤ℤ pos ((n - 1 - ring.token.at) * 2 ^ 44)
  pub all_white : ring.announced ≡ true → AllWhite n ring
  pub all_taken : ring.announced ≡ true → AllTaken n ring
  pub reason : Reason n ring ring.token

-- The start: nothing was posted or taken, each node is black, and the token is the first.
pub record IsStart (n : ℕ) (ring : Ring) : Type 0 where
  pub posted : (i j : ℕ) → i < n → j < n → ring.posted i j ≡ 0
  pub taken : (i j : ℕ) → i < n → j < n → ring.taken i j ≡ 0
  pub black : (i : ℕ) → i < n → ring.black i ≡ true
  pub token : ring.token ≡ first_token
  pub running : ring.announced ≡ false

-- one count is one more, and the others stay
pub record Raises (n : ℕ) (old new : ℕ → ℕ → ℕ) (i j : ℕ) : Type 0 where
  pub one_more : new i j ≡ suc (old i j)
  pub others : (k l : ℕ) → k < n → l < n → (k ≢ i) ⊎ (l ≢ j) → new k l ≡ old k l

-- the counts stay
abbrev pub CountsStay : ℕ → (ℕ → ℕ → ℕ) → (ℕ → ℕ → ℕ) → Type 0
CountsStay n old new = (k l : ℕ) → k < n → l < n → new k l ≡ old k l

-- the colours stay
abbrev pub ColoursStay : ℕ → Ring → Ring → Type 0
ColoursStay n old new = (k : ℕ) → k < n → new.black k ≡ old.black k

-- one node has that colour now, and the others keep theirs
pub record Colours (n : ℕ) (old new : Ring) (i : ℕ) (colour : Bool) : Type 0 where
  pub colour_is : new.black i ≡ colour
  pub others : (k : ℕ) → k < n → k ≢ i → new.black k ≡ old.black k

-- the black node i posts a batch to j
pub record Posts (n : ℕ) (old : Ring) (i j : ℕ) (new : Ring) : Type 0 where
  pub from : i < n
  pub to : j < n
  pub is_black : old.black i ≡ true
  pub posted : Raises n old.posted new.posted i j
  pub taken : CountsStay n old.taken new.taken
  pub colours : ColoursStay n old new
  pub token : new.token ≡ old.token
  pub announced : new.announced ≡ old.announced

-- node j takes a batch of i and is black
pub record Takes (n : ℕ) (old : Ring) (i j : ℕ) (new : Ring) : Type 0 where
  pub from : i < n
  pub to : j < n
  pub waiting : old.taken i j < old.posted i j
  pub posted : CountsStay n old.posted new.posted
  pub taken : Raises n old.taken new.taken i j
  pub colours : Colours n old new j true
  pub token : new.token ≡ old.token
  pub announced : new.announced ≡ old.announced

-- node i, which has the token, passes it and is white
pub record Passes (n : ℕ) (old : Ring) (i : ℕ) (new : Ring) : Type 0 where
  pub at : old.token.at ≡ i
  pub posted : CountsStay n old.posted new.posted
  pub taken : CountsStay n old.taken new.taken
  pub colours : Colours n old new i false
  pub token : new.token ≡ passed_on n old.token (counter n old i) (old.black i)
  pub announced : new.announced ≡ old.announced

-- the end may be announced by node 0, which is idle or not
abbrev pub IsAnnounceable : ℕ → Ring → Bool → Type 0
IsAnnounceable n ring idle = MayAnnounce ring.token (counter n ring 0) (ring.black 0) idle

-- node 0, idle, announces the end
pub record Announces (n : ℕ) (old new : Ring) : Type 0 where
  pub announceable : IsAnnounceable n old true
  pub posted : CountsStay n old.posted new.posted
  pub taken : CountsStay n old.taken new.taken
  pub colours : ColoursStay n old new
  pub token : new.token ≡ old.token
  pub announced : new.announced ≡ true

-- How an event changes the state. Other events, as the work that a node does for itself, change nothing of it.
abbrev pub Moved : ℕ → Ring → RingEvent → Ring → Type 0
Moved n old (Post from to) new = Posts n old from to new
Moved n old (Take from to) new = Takes n old from to new
Moved n old (Pass node) new = Passes n old node new
Moved n old Announce new = Announces n old new
