-- Entries one after the other: all are supported so far, or the first that isn't is found.
use Rattle.dob_certificate.proofs.Common.{◌+◌, ◌<◌, ◌↔◌, ◌≤◌, Contains, Err, IsTrue, List, Ok, Result, arith, inr, length, subst, sym, ℕ}
use Rattle.std.specs.Prelude.{is_ok}
use Rattle.dob_certificate.proofs.Common.{Family, Setup, listed_entry, SupportsHeld, SupportsAllLost, Entry}
use borrow.Author.Count.{below_more}
use Rattle.dob_certificate.specs.declared.claim.Claim.{Claim as Claimed}
use Rattle.dob_certificate.specs.declared.refusal.Refusal.{Refusal}
use Rattle.dob_certificate.specs.declared.refusal.Refusal.TheVariants.{Unsupported, Claim}
use Rattle.dob_certificate.specs.Refusals.{IsFirstUnsupported, IsEntryVerdict, IsListVerdict, IsRefusal}
use Rattle.dob_certificate.proofs.Orders.{listed_there, read_at}
use Rattle.dob_certificate.proofs.Cases.{said_no, said_yes}

-- the entries before a place are supported
abbrev pub AllBefore : (Entry → Type 0) → List Entry → ℕ → Type 0
AllBefore Supported entries upto = (place : ℕ) → place < upto → Supported (listed_entry entries place)

module _ (Supported : Entry → Type 0) (entries : List Entry) where
  pub entries_more : (upto : ℕ) → Supported (listed_entry entries upto) → AllBefore Supported entries upto → AllBefore Supported entries (upto + 1)
  entries_more upto here before = below_more (λ place. Supported (listed_entry entries place)) upto before here

  pub entries_done : (upto : ℕ) → length entries ≤ upto → AllBefore Supported entries upto → (entry : Entry) → Contains entries entry → Supported entry
  entries_done upto all before entry there =
      subst Supported (read_at entries there.0 entry there.1 there.2) (before there.0 (omega (arith, all, there.1)))

  -- the entry at the place is the first for which the check gives up
  pub first_found : (place : ℕ) (why : Refusal) → place < length entries → AllBefore Supported entries place → IsEntryVerdict Supported (listed_entry entries place) (Err why) →
      IsListVerdict Supported entries (Err why)
  first_found place (Unsupported class) within before found = record {
    place = place;
    first = record { within = within; unsupported = found.1; before = before };
    class_is = sym found.0;
  }
  first_found place Claim within before found = absurd found

-- where some entry isn't supported not all are
pub not_all : (Supported : Entry → Type 0) (entries : List Entry) (class : ℕ) → IsFirstUnsupported Supported entries class →
    ¬ ((entry : Entry) → Contains entries entry → Supported entry)
not_all Supported entries class broken all =
    let at = broken.first in at.unsupported (all (listed_entry entries broken.place) (broken.place, at.within, listed_there entries broken.place at.within))

-- so a list is passed exactly where all are
pub all_supported : (Supported : Entry → Type 0) (entries : List Entry) (r : Result Unit Refusal) → IsListVerdict Supported entries r →
    IsTrue (is_ok r) ↔ ((entry : Entry) → Contains entries entry → Supported entry)
all_supported Supported entries (Ok _) found = said_yes found
all_supported Supported entries (Err (Unsupported class)) found = said_no (not_all Supported entries class found)
all_supported Supported entries (Err Claim) found = absurd found

-- why a list of the two isn't passed is why the certificate isn't
module _ (family : Family) (lost held : List Entry) (p : Setup) (claim : Claimed) where
  pub held_refused : (why : Refusal) → SupportsAllLost family lost → IsListVerdict (SupportsHeld family held) held (Err why) → IsRefusal family lost held p claim why
  held_refused (Unsupported class) all found = inr (all, found)
  held_refused Claim all found = absurd found
