-- What one of n nodes knows by the items that it has applied, whatever else the other nodes have done.
use Rattle.std.specs.Prelude.{◌≡◌, ℕ, ◌<◌, List, [], ◌∷◌, ◌++◌, Option, None, Some}
use Rattle.std.specs.List.{All, count_by}
use Rattle.dob_pieces.specs.declared.profile.Family.{Family}
use Rattle.dob_moves.specs.declared.position_status.Status.{Status}
use Rattle.dob_moves.specs.declared.position_status.Status.TheVariants.{Open}
use Rattle.dob_moves.specs.Statuses.{HasStatus}
use Rattle.dob_rank.specs.Families.{classes_of}
use Rattle.dob_rank.specs.Families.{class_setup}
use Rattle.dob_distance.specs.declared.value.Value.{Value}
use Rattle.dob_distance.specs.declared.value.Value.TheVariants.{Win, Loss, Draw}
use Rattle.dob_distance.specs.Entries.{is_draw}
use Rattle.dob_distance.specs.Codes.{IsEntry}
use Rattle.dob_distance.specs.Distances.{lesser_of}
use Rattle.dob_unmove.specs.Edges.{predecessors}
use Rattle.dob_share.specs.declared.news.Settlement.{Settlement}
use Rattle.dob_share.specs.declared.news.Item.{Item}
use Rattle.dob_share.specs.declared.share.Share.{Share}
use Rattle.dob_share.specs.Owners.{owner_of}
use Rattle.dob_share.specs.Values.{is_win_in}
use Rattle.dob_share.specs.Cells.{Cell, SameCell}
use Rattle.dob_share.specs.Shares.{status_at, cell_at, HasValueNow}
use Rattle.dob_share.specs.Items.{items_from}
use Rattle.dob_history.specs.Histories.{value_of, all_known, IsChained}

-- the least loss among the values, where there is one
abbrev pub least_loss : List Value → Option ℕ
least_loss [] = None
least_loss (Loss plies ∷ known) = Some (lesser_of (least_loss known) plies)
least_loss (Win _ ∷ known) = least_loss known
least_loss (Draw ∷ known) = least_loss known

-- the cell of a class of whose moves just that is known
abbrev pub sum_of : List Value → Cell
sum_of known = record { left = count_by is_draw known; wins = λ plies. count_by (λ value. is_win_in plies value) known; least = least_loss known }

-- Such histories of all nodes can have made the items that node `id` has applied from each: each history is chained, and the
-- items are the first of those that it makes for the node.
pub record CanHaveMade (family : Family) (n id : ℕ) (histories : ℕ → List Settlement) (applied : ℕ → List Item) : Type 0 where
  pub chained : (i : ℕ) → i < n → IsChained (classes_of family) n i (histories i)
  pub begun : (i : ℕ) → i < n → (rest : List Item) × (items_from (predecessors family) n id (histories i) ≡ applied i ++ rest)

-- Whichever histories can have made the items applied, the cell of each own open class is the sum of what the copies of its
-- moves know by them.
abbrev pub AreCellsSummed : Family → ℕ → ℕ → Share → (ℕ → List Item) → Type 0
AreCellsSummed family n id share applied = (histories : ℕ → List Settlement) → CanHaveMade family n id histories applied →
    (class : ℕ) → class < classes_of family → owner_of n class ≡ id → status_at share class ≡ Open →
    SameCell (cell_at share class) (sum_of (all_known (predecessors family) (classes_of family) n histories applied class))

-- The node's history is chained and tells of values that a table can have; its share has the status of each own class; the
-- values that the share gives are those of the history; and its cells are what the items applied make of them.
pub record KnowsRight (family : Family) (n id : ℕ) (share : Share) (history : List Settlement) (applied : ℕ → List Item) : Type 0 where
  pub chained : IsChained (classes_of family) n id history
  pub entries : All (λ (s : Settlement). IsEntry s.now) history
  pub statuses : (class : ℕ) (status : Status) → class < classes_of family → owner_of n class ≡ id → HasStatus family.profile (class_setup family class) status →
      status_at share class ≡ status
  pub values : (class : ℕ) (value : Value) → class < classes_of family → owner_of n class ≡ id → HasValueNow share class value →
      value ≡ value_of history class
  pub sums : AreCellsSummed family n id share applied
