-- What an inbox has taken in, handed out and holds, of each of its senders.
use Rattle.std.specs.Prelude.{◌≡◌, ℕ, ◌<◌, ◌≤◌, ◌^◌, true, false, List, [], ◌∷◌, ◌++◌, length, filter, nat_eq, All, slice_index_or}
use mathlib.Core.Option.{Option, some, none}
use lib.ListN.{get_elem?}
use Rattle.dob_update.specs.Batches.{BatchView}
use Rattle.dob_pieces.specs.Lists.{IsBeginning}
use Rattle.dob_chan.specs.declared.rule.Note.{Note}
use Rattle.dob_chan.specs.declared.rule.Told.{Told}

-- how many batches of one sender an inbox takes in at the most
abbrev pub most_deliveries : ℕ
most_deliveries = 2 ^ 40

-- the batches of one sender, in order
abbrev pub batches_of : ℕ → List BatchView → List BatchView
batches_of from batches = filter (λ (b : BatchView). nat_eq b.from from) batches

-- nothing was learned
abbrev pub untold : Told
untold = record { sent = []; taken = [] }

-- the pass of a sender, by its place among all senders
abbrev pub sending : ℕ → ℕ → List BatchView → Told → Note
sending senders from sent told =
    record { senders = senders; sends = true; from = from; sent = sent; takes = false; opened = 0; taken = []; ended = []; told = told }

-- the pass that takes
abbrev pub taking : ℕ → ℕ → List BatchView → List (List BatchView) → Told → Note
taking senders opened taken ended told =
    record { senders = senders; sends = false; from = 0; sent = []; takes = true; opened = opened; taken = taken; ended = ended; told = told }

-- a pass that may do nothing
abbrev pub resting : Note
resting = record { senders = 0; sends = false; from = 0; sent = []; takes = false; opened = 0; taken = []; ended = []; told = untold }

-- what that one of the senders that have ended sent
abbrev pub sent_by_ended : List (List BatchView) → ℕ → List BatchView
sent_by_ended ended from = slice_index_or ended from []

-- What was sent is what was taken and then what the inbox holds.
abbrev pub IsLawfulInbox : List BatchView → List BatchView → List BatchView → Type 0
IsLawfulInbox sent taken held = sent ≡ taken ++ held

-- each is of one of the senders
abbrev pub AreOf : ℕ → List BatchView → Type 0
AreOf senders batches = All (λ (b : BatchView). b.from < senders) batches

-- what was sent and taken goes on from what was learned
abbrev pub IsAfterTold : Told → List BatchView → List BatchView → Type 0
IsAfterTold told sent taken = IsBeginning told.sent sent × IsBeginning told.taken taken

-- The inbox holds what was sent and not taken, since what was learned, and nothing that isn't of one of the senders; of that one
-- just its own batches were sent.
abbrev pub AreHeldSince : ℕ → ℕ → List BatchView → Told → List BatchView → Type 0
AreHeldSince senders from own told held = AreOf senders held
    × ((sent taken : List BatchView) × IsLawfulInbox sent taken held × (batches_of from sent ≡ own) × IsAfterTold told sent taken)

-- the inbox holds what was sent, since what was learned, after what was taken
abbrev pub AreNext : List BatchView → Told → List BatchView → Type 0
AreNext taken told held = (sent : List BatchView) × IsLawfulInbox sent taken held × IsAfterTold told sent taken

-- The sender, whose own batches are these now, learned that the batch is the last one sent, and what was sent and taken before.
abbrev pub HasSent : ℕ → BatchView → List BatchView → Told → Told → Type 0
HasSent from batch own old new = (before : List BatchView) × (new.sent ≡ before ++ batch ∷ []) × IsAfterTold old before new.taken × (batches_of from new.sent ≡ own)

-- The taker learned that just these are taken, and what was sent, with these and what the inbox holds.
abbrev pub HasReceived : List BatchView → Told → Told → Type 0
HasReceived taken old new = (new.taken ≡ taken) × IsBeginning taken new.sent × IsAfterTold old new.sent new.taken

-- what the senders that have ended sent is what was taken of them and then what the inbox holds of them
abbrev pub AreLeft : List BatchView → List (List BatchView) → List BatchView → Type 0
AreLeft taken ended held = (from : ℕ) → from < length ended → IsLawfulInbox (sent_by_ended ended from) (batches_of from taken) (batches_of from held)

-- A sender's pass knows what was sent with its place, and learned what is so; `seat` gives the pass of each place.
abbrev pub FitsSender : ℕ → (ℕ → Option ℕ) → List BatchView → List BatchView → ℕ → Note → Type 0
FitsSender senders seat sent taken pass v = v.sends ≡ true →
    (v.senders ≡ senders) × (v.from < senders) × (seat v.from ≡ some pass) × (v.sent ≡ batches_of v.from sent) × IsAfterTold v.told sent taken

-- The taking pass knows what was taken, which senders haven't begun and what those sent that have ended, and learned what is so.
abbrev pub FitsTaker : ℕ → ℕ → (ℕ → Option ℕ) → List BatchView → List BatchView → ℕ → Note → Type 0
FitsTaker senders taker seat sent taken pass v = v.takes ≡ true →
    (v.senders ≡ senders) × (pass ≡ taker) × (v.taken ≡ taken) × (v.opened ≤ senders) × (length v.ended ≤ v.opened)
    × ((from : ℕ) → v.opened ≤ from → (seat from ≡ none) × (batches_of from sent ≡ []))
    × ((from : ℕ) → from < length v.ended → (seat from ≡ none) × (sent_by_ended v.ended from ≡ batches_of from sent))
    × IsAfterTold v.told sent taken

-- The inbox is lawful, whatever its ends have done so far: of each sender, what was sent is what was taken and then what
-- the inbox holds, since that is so of all of them together.
pub record IsDelivered (held : List BatchView) (views : List Note) : Type 0 where
  pub senders : ℕ
  pub taker : ℕ
  pub seat : ℕ → Option ℕ
  pub sent : List BatchView
  pub taken : List BatchView
  pub lawful : IsLawfulInbox sent taken held
  pub of_senders : AreOf senders sent
  pub few : (from : ℕ) → length (batches_of from sent) ≤ most_deliveries
  pub each : (pass : ℕ) (v : Note) → get_elem? views pass ≡ some v → FitsSender senders seat sent taken pass v × FitsTaker senders taker seat sent taken pass v
