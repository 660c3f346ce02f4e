-- The classes of a family as a graph in flat lists, and tables of values for them.
use Rattle.std.specs.Prelude.{◌≡◌, ℕ, ◌+◌, ◌-◌, ◌≤◌, ◌<◌, List, length, take, drop, Contains, slice_index_or}
use Rattle.dob_pieces.specs.declared.profile.Family.{Family}
use Rattle.dob_pieces.specs.declared.profile.Profile.{Profile}
use Rattle.dob_pieces.specs.declared.setup.Setup.{Setup}
use Rattle.dob_moves.specs.declared.game_move.Move.{Move}
use Rattle.dob_moves.specs.declared.position_status.Status.{Status}
use Rattle.dob_moves.specs.declared.position_status.Status.TheVariants.{Caught, Tried, Stuck, Open}
use Rattle.dob_moves.specs.Moves.{Goes}
use Rattle.dob_moves.specs.Statuses.{HasStatus}
use Rattle.dob_rank.specs.Families.{classes_of}
use Rattle.dob_distance.specs.declared.value.Value.{Value}
use Rattle.dob_distance.specs.declared.value.Value.TheVariants.{Loss, Draw}
use Rattle.dob_value.specs.declared.graph.Graph.{Graph}
use Rattle.dob_distance.specs.Values.{HasValue}
use Rattle.dob_distance.specs.Depths.{SameOutlook}
use Rattle.dob_distance.specs.Entries.{IsCutOff, HasDistance}
use Rattle.dob_value.specs.ClassRows.{class_setup}

-- The numbers, or other things, stand for the positions to which the moves of p lead, for each at least one, and for no
-- other. StandsFor says which stands for which position.
pub record AreSuccessors (profile : Profile) {X : Type 0} (StandsFor : X → Setup → Type 0) (p : Setup) (numbers : List X) : Type 0 where
  pub sound : (number : X) → Contains numbers number → (move : Move) × (q : Setup) × Goes profile p move q × StandsFor number q
  pub whole : HasStatus profile p Open → (move : Move) (q : Setup) → Goes profile p move q →
      (number : X) × Contains numbers number × StandsFor number q

-- the position's status and successors
pub record IsNode (profile : Profile) (StandsFor : ℕ → Setup → Type 0) (p : Setup) (found : Status) (numbers : List ℕ) : Type 0 where
  pub status : HasStatus profile p found
  pub successors : AreSuccessors profile StandsFor p numbers

-- the class with that number stands for the positions with its representative's outlook
abbrev pub ClassStandsFor : Family → ℕ → Setup → Type 0
ClassStandsFor family number q = (number < classes_of family) × SameOutlook family.profile q (class_setup family number)

-- the run of the list from the number's start to the next number's
abbrev pub run_at : List ℕ → List ℕ → ℕ → List ℕ
run_at starts successors number =
    take (slice_index_or starts (number + 1) 0 - slice_index_or starts number 0) (drop (slice_index_or starts number 0) successors)

-- The statuses of the first classes, and their successors in runs, one after the other, of which the last ends where
-- the list does.
pub record AreNodes (family : Family) (upto : ℕ) (statuses : List Status) (starts successors : List ℕ) : Type 0 where
  pub statuses_whole : length statuses ≡ upto
  pub starts_whole : length starts ≡ upto + 1
  pub end : slice_index_or starts upto 0 ≡ length successors
  pub ordered : (number : ℕ) → number < upto → slice_index_or starts number 0 ≤ slice_index_or starts (number + 1) 0
  pub within : (number : ℕ) → number < upto → slice_index_or starts (number + 1) 0 ≤ length successors
  pub known : (number : ℕ) → number < upto →
      IsNode family.profile (ClassStandsFor family) (class_setup family number) (slice_index_or statuses number Open) (run_at starts successors number)

-- the graph of all classes of its family
abbrev pub IsGraph : Graph → Type 0
IsGraph graph = AreNodes graph.family (classes_of graph.family) graph.statuses.items graph.starts.items graph.successors.items

-- the status of the class with that number
abbrev pub status_at : Graph → ℕ → Status
status_at graph number = slice_index_or graph.statuses.items number Open

-- the numbers of its successors
abbrev pub successors_at : Graph → ℕ → List ℕ
successors_at graph number = run_at graph.starts.items graph.successors.items number

-- a table with an entry for each class, of which each meets the fact at its representative
pub record HasEntries (Fits : ℕ → Setup → Value → Type 0) (family : Family) (entries : List Value) : Type 0 where
  pub same_length : length entries ≡ classes_of family
  pub fits : (number : ℕ) → number < classes_of family → Fits number (class_setup family number) (slice_index_or entries number Draw)

-- each entry is its class's value cut off at depth n
abbrev pub AreCutOff : ℕ → Family → List Value → Type 0
AreCutOff n family = HasEntries (λ number p entry. IsCutOff family.profile n p entry) family

-- the entries below that number are cut off at depth n + 1, the others at depth n
abbrev pub AreSwept : ℕ → ℕ → Family → List Value → Type 0
AreSwept n upto family = HasEntries (λ number p entry.
    (number < upto → IsCutOff family.profile (n + 1) p entry) × (upto ≤ number → IsCutOff family.profile n p entry)) family

-- each entry is its class's value
abbrev pub AreValues : Family → List Value → Type 0
AreValues family = HasEntries (λ number p entry. HasValue family.profile p entry) family

-- some class is won or lost in n plies, and not in fewer
abbrev pub SomeHasDistance : Family → ℕ → Type 0
SomeHasDistance family n = (number : ℕ) × (number < classes_of family) × HasDistance family.profile (class_setup family number) n

-- the value at depth 0, by the status
abbrev pub value_at_start : Status → Value
value_at_start Tried = Loss 0
value_at_start Stuck = Loss 0
value_at_start Caught = Draw
value_at_start Open = Draw
