-- The laws of the ring.
use Rattle.std.specs.Prelude.{◌≡◌, ℕ, ◌^◌, ◌<◌, ◌≤◌, Bool, true, pos, neg_ℤ, ◌+ℤ◌, ◌≤ℤ◌}
use Rattle.dob_safra.specs.declared.token.Token.{Token}
use Rattle.dob_safra.specs.declared.event.RingEvent.{RingEvent}
use Rattle.dob_safra.specs.declared.event.RingEvent.TheVariants.{Post, Take}
use Rattle.dob_safra.specs.Tokens.{most_nodes, IsToken, IsPacked}
use Rattle.dob_safra.specs.Rings.{Ring, counter, IsLawfulRing, IsStart, Moved, IsAnnounceable, AllWhite, AllTaken, in_flight}

abbrev pub WordHasOneToken : Type 0
WordHasOneToken = (word : ℕ) (one other : Token) → IsPacked one word → IsPacked other word → one ≡ other

-- a ring of 1 to 16 nodes
abbrev pub IsSize : ℕ → Type 0
IsSize n = (0 < n) × (n ≤ most_nodes)

abbrev pub StartIsLawful : Type 0
StartIsLawful = (n : ℕ) (ring : Ring) → IsSize n → IsStart n ring → IsLawfulRing n ring

-- no link has more than 2^40 posted batches
abbrev pub HasFew : ℕ → Ring → Type 0
HasFew n ring = (i j : ℕ) → i < n → j < n → ring.posted i j ≤ 2 ^ 40

abbrev pub MovedKeepsLawful : Type 0
MovedKeepsLawful = (n : ℕ) (old new : Ring) (event : RingEvent) → IsSize n → IsLawfulRing n old → Moved n old event new → HasFew n new → IsLawfulRing n new

-- a lawful ring's token has a word, and the sum that its node hands down does too
pub record Fits (n : ℕ) (ring : Ring) : Type 0 where
  pub token : IsToken ring.token
  pub low : neg_ℤ (pos (2 ^ 48)) ≤ℤ (ring.token.sum +ℤ counter n ring ring.token.at)
  pub high : (ring.token.sum +ℤ counter n ring ring.token.at) ≤ℤ pos (2 ^ 48)

abbrev pub LawfulFits : Type 0
LawfulFits = (n : ℕ) (ring : Ring) → IsSize n → IsLawfulRing n ring → Fits n ring

-- each node is white, and each batch posted is taken, so that none is in flight
pub record IsRingQuiet (n : ℕ) (ring : Ring) : Type 0 where
  pub all_white : AllWhite n ring
  pub all_taken : AllTaken n ring
  pub none_in_flight : in_flight n ring ≡ 0

abbrev pub AnnounceableIsQuiet : Type 0
AnnounceableIsQuiet = (n : ℕ) (ring : Ring) (idle : Bool) → IsSize n → IsLawfulRing n ring → IsAnnounceable n ring idle → IsRingQuiet n ring

abbrev pub EndStays : Type 0
EndStays = (n : ℕ) (old new : Ring) (event : RingEvent) → IsSize n → IsLawfulRing n old → old.announced ≡ true → Moved n old event new →
    (new.announced ≡ true) × IsRingQuiet n new

abbrev pub EndIsSilent : Type 0
EndIsSilent = (n : ℕ) (old new : Ring) (from to : ℕ) → IsLawfulRing n old → old.announced ≡ true →
    (¬ Moved n old (Post from to) new) × (¬ Moved n old (Take from to) new)
