-- Nodes that have nothing left to do, and what they hold.
use Rattle.std.specs.Prelude.{◌≡◌, ℕ, ◌+◌, ◌<◌, ◌≤◌, List, length, Some, All, Contains, slice_get, take}
use Rattle.dob_pieces.specs.declared.profile.Family.{Family}
use Rattle.dob_pieces.specs.declared.setup.Setup.{Setup}
use Rattle.dob_moves.specs.declared.position_status.Status.{Status}
use Rattle.dob_moves.specs.declared.position_status.Status.TheVariants.{Caught, Tried, Stuck, Open}
use Rattle.dob_moves.specs.Statuses.{HasStatus}
use Rattle.dob_rank.specs.Families.{classes_of}
use Rattle.dob_distance.specs.declared.value.Value.{Value}
use Rattle.dob_distance.specs.declared.value.Value.TheVariants.{Win, Loss, Draw}
use Rattle.dob_distance.specs.Codes.{IsEntry}
use Rattle.dob_value.specs.Follows.{IsValueTable}
use Rattle.dob_unmove.specs.Classes.{RepresentsClass}
use Rattle.dob_unmove.specs.Edges.{predecessors}
use Rattle.dob_share.specs.declared.news.Settlement.{Settlement}
use Rattle.dob_share.specs.declared.news.Item.{Item}
use Rattle.dob_share.specs.Owners.{owner_of}
use Rattle.dob_share.specs.Items.{items_from}
use Rattle.dob_history.specs.Histories.{value_of, all_known}

-- each is a win
abbrev pub AreWins : List Value → Type 0
AreWins known = (v : Value) → Contains known v → (plies : ℕ) × (v ≡ Win plies)

-- The value that follows from what is known of the successors: a win in one ply more than the least loss; where all
-- are wins, a loss in one ply more than the greatest; where there is no loss and not all are wins, a draw.
abbrev pub FollowsFromKnown : List Value → Value → Type 0
FollowsFromKnown known (Win plies) = (least : ℕ) × (plies ≡ least + 1) × Contains known (Loss least)
    × ((other : ℕ) → Contains known (Loss other) → least ≤ other)
FollowsFromKnown known (Loss plies) = (greatest : ℕ) × (plies ≡ greatest + 1) × Contains known (Win greatest)
    × ((other : ℕ) → Contains known (Win other) → other ≤ greatest) × AreWins known
FollowsFromKnown known Draw = ((plies : ℕ) → ¬ Contains known (Loss plies)) × (¬ AreWins known)

-- the value that follows at a status
abbrev pub FollowsAtStatus : Status → List Value → Value → Type 0
FollowsAtStatus Caught known v = v ≡ Win 1
FollowsAtStatus Tried known v = v ≡ Loss 0
FollowsAtStatus Stuck known v = v ≡ Loss 0
FollowsAtStatus Open known v = FollowsFromKnown known v

-- Nothing is left to do: each history is wholly expanded, all items of the settlements expanded are sent (those for
-- the node itself, those for the others), all that was sent is applied, and each class has the value that follows from
-- what the copies of its moves know.
pub record IsQuiet (family : Family) (targets : ℕ → List ℕ) (n : ℕ) (histories : ℕ → List Settlement) (expanded : ℕ → ℕ)
    (sent applied : ℕ → ℕ → List Item) : Type 0 where
  pub nothing_to_expand : (i : ℕ) → i < n → expanded i ≡ length (histories i)
  pub nothing_to_send : (i j : ℕ) → i < n → j < n → sent i j ≡ items_from targets n j (take (expanded i) (histories i))
  pub nothing_waits : (i j : ℕ) → i < n → j < n → applied i j ≡ sent i j
  pub values : (p : Setup) (class : ℕ) → RepresentsClass family p class → (status : Status) × HasStatus family.profile p status
      × FollowsAtStatus status (all_known targets (classes_of family) n histories (λ i. applied i (owner_of n class)) class)
      (value_of (histories (owner_of n class)) class)

-- the values of the classes, in order, by the histories of their owners
pub record AreGathered (family : Family) (n : ℕ) (histories : ℕ → List Settlement) (values : List Value) : Type 0 where
  pub whole : length values ≡ classes_of family
  pub entries : All IsEntry values
  pub each : (class : ℕ) → class < classes_of family → slice_get values class ≡ Some (value_of (histories (owner_of n class)) class)

-- quiet nodes hold the value table
abbrev pub QuietIsRight : Type 0
QuietIsRight = (family : Family) (n : ℕ) (histories : ℕ → List Settlement) (expanded : ℕ → ℕ) (sent applied : ℕ → ℕ → List Item)
    (values : List Value) → 0 < n → IsQuiet family (predecessors family) n histories expanded sent applied →
    AreGathered family n histories values → IsValueTable family values
