-- A certificate's list of lost classes, as a caller lays it out: the ranks of the classes' representatives, and plies.
use Rattle.std.specs.Prelude.{◌≡◌, ◌-◌, ◌<◌, ℕ, List, map, length, slice_index}
use Rattle.std.specs.List.{range_with_len}
use Rattle.dob_pieces.specs.declared.profile.Family.{Family}
use Rattle.dob_pieces.specs.declared.setup.Setup.{Setup}
use Rattle.dob_rank.specs.ClassRows.{marked_place}
use Rattle.dob_rank.specs.Families.{is_present, class_number, size_of}
use Rattle.dob_rank.specs.Numbers.{nth, size_of_set}
use Rattle.dob_rank.specs.Order.{IsFirstOfTwo}
use Rattle.dob_certificate.specs.declared.entry.Entry.{Entry}
use Rattle.dobutsu_web.specs.declared.ranked.Listed.{Listed}

-- the position of the family before which so many of its positions stand
unfoldable pub ranked_setup : Family → ℕ → Setup
ranked_setup family rank = nth family.set (marked_place (is_present family) rank (size_of_set family.set))

-- the entry at that place: the class of the position of that rank, with its plies
abbrev pub entry_by : Family → List ℕ → List ℕ → ℕ → Entry
entry_by family ranks plies place = record { class = class_number family (ranked_setup family (slice_index ranks place)); plies = slice_index plies place }

-- the certificate's list that they stand for
abbrev pub entries_by : Family → List ℕ → List ℕ → List Entry
entries_by family ranks plies = map (entry_by family ranks plies) (range_with_len 0 (length ranks))

-- at that place stands the rank of a representative, above the one before
pub record IsRankAt (family : Family) (ranks : List ℕ) (place : ℕ) : Type 0 where
  pub below : slice_index ranks place < size_of family
  pub first : IsFirstOfTwo (ranked_setup family (slice_index ranks place))
  pub above : 0 < place → slice_index ranks (place - 1) < slice_index ranks place

-- so at each place, and there are as many numbers of plies
pub record AreRanks (family : Family) (ranks plies : List ℕ) : Type 0 where
  pub alike : length plies ≡ length ranks
  pub each : (place : ℕ) → place < length ranks → IsRankAt family ranks place

-- ---- the same of a list that is handed on
abbrev pub entries_in : Listed → List Entry
entries_in listed = entries_by listed.family listed.ranks.now listed.plies.now

abbrev pub AreRanksIn : Listed → Type 0
AreRanksIn listed = AreRanks listed.family listed.ranks.now listed.plies.now
