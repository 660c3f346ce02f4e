-- What each step shows its caller, and how views are split and joined.
use Rattle.std.specs.Prelude.{◌≡◌, ◌≢◌, ℕ, suc, ◌+◌, ◌^◌, ◌<◌, ◌≤◌, ◌⊎◌, false, List, [], ◌∷◌, Some, slice_index}
use Rattle.atomic_table.specs.Table.{Me, Step}
use Rattle.dob_safra.specs.declared.token.Token.{Token}
use Rattle.dob_safra.specs.declared.event.RingEvent.{RingEvent}
use Rattle.dob_safra.specs.declared.event.RingEvent.TheVariants.{Post, Take, Pass, Announce}
use Rattle.dob_safra.specs.Tokens.{IsPacked}
use Rattle.dob_safra.specs.Rings.{Ring}
use Rattle.dob_board.specs.declared.view.BoardEvent.{BoardEvent}
use Rattle.dob_board.specs.declared.view.SeatState.{SeatState}
use Rattle.dob_board.specs.declared.view.View.{View}
use Rattle.dob_board.specs.declared.halt.Halt.{Halt}
use Rattle.dob_board.specs.declared.halt.Halt.TheVariants.{Running, Ended, Failed}
use Rattle.dob_board.specs.Words.{posted_word, taken_word, halt_word, halt_after}
use Rattle.dob_board.specs.Views.{one, posts_more, takes_more, sees, IsTokenInBounds, meets, passes, finds}
use Rattle.dob_board.specs.Histories.{MakesEvent, Observes, HasPosted, HasToken, HasHalt, halt_told}
use Rattle.dob_board.specs.Rule.{fresh}

-- All events so far give the halt that node i finds or leaves; it is the one that the node knew if it knew one, and no end to a
-- black node.
pub record IsTold (n : ℕ) (stand : SeatState) (now : List BoardEvent) (halt : Halt) : Type 0 where
  pub within : halt_word halt < 2 + n
  pub stays : stand.halt ≢ Running → halt ≡ stand.halt
  pub told : halt_word halt ≡ halt_told now
  pub white : halt ≡ Ended → stand.black ≡ false

-- Node i found one halt and left another one, which is the end to node 0 only where that node knew it.
pub record LooksAt (n i : ℕ) (stand : SeatState) (witnessed : List BoardEvent) (was halt : Halt) (now : List BoardEvent) : Type 0 where
  pub is_told : IsTold n stand now halt
  pub announced : i ≡ 0 → halt ≡ Ended → stand.halt ≡ Ended
  pub observed : Observes n i (finds stand halt) witnessed now (HasHalt (halt_word was))

-- Node i, which may announce the end, left that halt: it made the event, or it observed the halt that it found, which is the end
-- only where the node knew it; a failure of its own it knew.
pub record Announcing (n i : ℕ) (stand : SeatState) (witnessed : List BoardEvent) (halt : Halt) (now : List BoardEvent) : Type 0 where
  pub is_told : IsTold n stand now halt
  pub own : halt ≡ Failed i → stand.halt ≡ halt
  pub event : ((halt ≡ Ended) × MakesEvent n i Announce stand (finds stand halt) witnessed now)
      ⊎ ((halt ≡ Ended → stand.halt ≡ Ended) × Observes n i (finds stand halt) witnessed now (HasHalt (halt_word halt)))

-- what is known of the first node
abbrev pub first_stand : List SeatState → SeatState
first_stand [] = fresh 0
first_stand (stand ∷ stands) = stand

module _ {S : Type 0} where
  -- how the seat's node stands
  abbrev pub own_stand : Me S View → SeatState
  own_stand me = first_stand me.0.stands

  -- its node stands like that afterwards
  abbrev pub Stands : Me S View → SeatState → Me S View → Type 0
  Stands me new after = after ≡ (one me.0.size me.0.from new after.0.witnessed, me.1)

  -- it made that event, and its node stands like that afterwards
  abbrev pub Makes : Me S View → RingEvent → SeatState → Me S View → Type 0
  Makes me event new after = Stands me new after × MakesEvent me.0.size me.0.from event (own_stand me) new me.0.witnessed after.0.witnessed

  -- it observed what is so of the ring, and its node stands like that afterwards
  abbrev pub Notes : Me S View → (Ring → Type 0) → SeatState → Me S View → Type 0
  Notes me IsSo new after = Stands me new after × Observes me.0.size me.0.from new me.0.witnessed after.0.witnessed IsSo

  -- one more on the word of what this node posted to j
  abbrev pub Posted : Step S → Me S View → ℕ → Me S View → Type 0
  Posted st me found after = (j : ℕ) → j < me.0.size → st.word ≡ posted_word me.0.size me.0.from j →
      Makes me (Post me.0.from j) (posts_more (own_stand me) j) after

  -- a load of the word of what j posted to this node
  abbrev pub Looked : Step S → Me S View → ℕ → Me S View → Type 0
  Looked st me found after = (j : ℕ) → j < me.0.size → st.word ≡ posted_word me.0.size j me.0.from →
      Notes me (HasPosted j me.0.from found) (sees (own_stand me) j found) after
      × (slice_index (own_stand me).seen j ≤ found) × (slice_index (own_stand me).taken j ≤ found)

  -- one more on the word of what this node took of j; it took fewer than 2^40 batches of it before, and knew of no end
  abbrev pub Took : Step S → Me S View → ℕ → Me S View → Type 0
  Took st me found after = (j : ℕ) → j < me.0.size → st.word ≡ taken_word me.0.size j me.0.from →
      Makes me (Take j me.0.from) (takes_more (own_stand me) j) after × (slice_index (own_stand me).taken j < 2 ^ 40) × ((own_stand me).halt ≢ Ended)

  -- a load of the token
  abbrev pub Met : Step S → Me S View → ℕ → Me S View → Type 0
  Met st me found after = (token : Token) × IsPacked token found × Notes me (HasToken token) (meets me.0.from (own_stand me) token) after
      × ((known : Token) → (own_stand me).token ≡ Some known → token ≡ known) × IsTokenInBounds me.0.size me.0.from (meets me.0.from (own_stand me) token)

  -- a store of the token that this node has, passed
  abbrev pub Passed : Step S → Me S View → ℕ → Me S View → Type 0
  Passed st me found after = (token : Token) → (own_stand me).token ≡ Some token →
      Makes me (Pass me.0.from) (passes me.0.size me.0.from (own_stand me) token) after
      × IsTokenInBounds me.0.size me.0.from (passes me.0.size me.0.from (own_stand me) token)

  -- what an exchange of the halt word from that of Running shows, where it found one halt and left another one
  abbrev pub Exchanged : Me S View → ℕ → Halt → (Halt → Halt → List BoardEvent → Type 0) → Me S View → Type 0
  Exchanged me found mark Shown after = (was : Halt) → halt_word was ≡ found →
      Stands me (finds (own_stand me) (halt_after was mark)) after × Shown was (halt_after was mark) after.0.witnessed

  -- a load of the halt word, which is that of this node's failure only where the node knew that
  abbrev pub Halted : Step S → Me S View → ℕ → Me S View → Type 0
  Halted st me found after = (halt : Halt) → halt_word halt ≡ found → Stands me (finds (own_stand me) halt) after
      × LooksAt me.0.size me.0.from (own_stand me) me.0.witnessed halt halt after.0.witnessed × (halt ≡ Failed me.0.from → (own_stand me).halt ≡ halt)

  -- an exchange for this node's failure
  abbrev pub FailedRun : Step S → Me S View → ℕ → Me S View → Type 0
  FailedRun st me found = Exchanged me found (Failed me.0.from) (LooksAt me.0.size me.0.from (own_stand me) me.0.witnessed)

  -- an exchange for the end
  abbrev pub Announced : Step S → Me S View → ℕ → Me S View → Type 0
  Announced st me found = Exchanged me found Ended (λ was. Announcing me.0.size me.0.from (own_stand me) me.0.witnessed)

-- the first node of a view, with a seat of its own, and the others
abbrev pub first_node : List SeatState → List SeatState
first_node [] = []
first_node (stand ∷ stands) = stand ∷ []

abbrev pub other_nodes : List SeatState → List SeatState
other_nodes [] = []
other_nodes (stand ∷ stands) = stands

abbrev pub others_of : View → View
others_of view = record view { from = suc view.from; stands = other_nodes view.stands }

abbrev pub first_of : View → View
first_of view = record view { stands = first_node view.stands }
