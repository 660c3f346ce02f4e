-- Settlements as a history keeps them: those of the start by the statuses of the owner's classes, the others with the class by its
-- place among the owner's and the values as codes.
use Rattle.std.specs.Prelude.{ℕ, suc, List, [], ◌∷◌, ◌++◌, length}
use Rattle.dob_moves.specs.declared.position_status.Status.{Status}
use Rattle.dob_distance.specs.Codes.{value_of_code}
use Rattle.dob_share.specs.declared.news.Settlement.{Settlement}
use Rattle.dob_share.specs.Openings.{settled_among}
use Rattle.dob_share.specs.Owners.{class_of_place}
use Rattle.dob_share.specs.Statuses.{StatusesView, status_in}
use Rattle.dob_history.specs.OpeningLists.{start_settlements}
use Rattle.dob_history.specs.declared.history.Stored.{Stored}

-- the settlements of one owner among n, and how many more its store has room for at least
pub record HistoryView : Type 0 where
  pub id : ℕ
  pub n : ℕ
  pub settlements : List Settlement
  pub room : ℕ

-- what is stored, as the settlement of that number
abbrev pub settlement_stored : ℕ → ℕ → ℕ → Stored → Settlement
settlement_stored n id number stored = record {
  number = number;
  class = class_of_place n id stored.place;
  was = value_of_code stored.was;
  now = value_of_code stored.now;
}

-- the settlements stored, numbered in order from a number on
abbrev pub settlements_from : ℕ → ℕ → ℕ → List Stored → List Settlement
settlements_from n id number [] = []
settlements_from n id number (stored ∷ rest) = settlement_stored n id number stored ∷ settlements_from n id (suc number) rest

-- the status of the class at a place at the start
abbrev pub start_status : StatusesView → ℕ → Status
start_status starts place = status_in starts.words place

-- the settlements of the start, at all places
abbrev pub starts_of : ℕ → ℕ → StatusesView → List Settlement
starts_of n id starts = start_settlements (start_status starts) n id starts.places

-- how many there are
abbrev pub starts_count : StatusesView → ℕ
starts_count starts = settled_among (start_status starts) starts.places

-- the settlements of the start, and behind them those stored
abbrev pub settlements_of : ℕ → ℕ → StatusesView → List Stored → List Settlement
settlements_of n id starts stored = let first = starts_of n id starts in
    first ++ settlements_from n id (length first) stored
