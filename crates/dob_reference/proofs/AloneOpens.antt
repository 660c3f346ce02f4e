-- One node that owns all classes, as it is opened: it is lawful.
use Rattle.std.proofs.Common.{List, [], ap, arith, inr, length, refl, subst, suc, sym, zero, ℕ, ◌*◌, ◌+◌, ◌<◌, ◌∙◌, ◌≡◌}
use Rattle.std.specs.List.{All}
use Rattle.dob_pieces.specs.declared.profile.Family.{Family}
use Rattle.dob_moves.proofs.Cases.{one_status}
use Rattle.dob_moves.specs.MoveLists.{moves_of}
use Rattle.dob_moves.specs.Statuses.{HasStatus}
use Rattle.dob_moves.specs.declared.position_status.Status.{Status}
use Rattle.dob_moves.specs.declared.position_status.Status.TheVariants.{Open}
use Rattle.dob_rank.specs.Families.{class_setup, classes_of}
use Rattle.dob_distance.specs.Codes.{IsEntry}
use Rattle.dob_distance.specs.declared.value.Value.TheVariants.{Draw}
use Rattle.dob_unmove.specs.Edges.{predecessors}
use Rattle.dob_share.proofs.Applied.{CellValue-same}
use Rattle.dob_share.specs.Cells.{SameCell, fresh}
use Rattle.dob_share.specs.Openings.{opening_of}
use Rattle.dob_share.specs.Owners.{owner_of}
use Rattle.dob_share.specs.Shares.{IsOwn, places_of}
use Rattle.dob_share.specs.declared.news.Settlement.{Settlement}
use Rattle.dob_share.specs.declared.opening.Opening.{Opening}
use Rattle.dob_share.specs.Items.{items_from}
use Rattle.dob_history.proofs.Beginnings.{closed_follows, opened_chained, opened_entries, opened_value, or_else}
use Rattle.dob_history.proofs.Opens.{listed_opening}
use Rattle.dob_history.proofs.Rises.{falls_start, fresh_within, opened_first}
use Rattle.dob_history.proofs.Totals.{start_sums}
use Rattle.dob_history.proofs.ValuesFollow.{SumsUp-same}
use Rattle.dob_history.specs.Falls.{HaveFalls, IsFirst}
use Rattle.dob_history.specs.Histories.{IsChained, value_of}
use Rattle.dob_history.specs.Lawful.{AreLawfulNodes, known_of}
use Rattle.dob_node.specs.NodeViews.{NodeView}
use Rattle.dob_node.specs.Nodes.{IsOpened, IsSound}
use Rattle.dob_history.specs.OpeningLists.{opening_settlements, opening_status, opening_value}
use Rattle.dob_history.specs.Openings.{AreOpenings, IsOpening}
use Rattle.dob_reference.proofs.AloneSteps.{cell_below, one_owner}
use Rattle.dob_reference.specs.Alone.{HasCome, HasMade, IsAlone, alone_applied, alone_history, cells_below}

-- ---- the settlements of the opening are those of a node that is the only one
alone_place : (k : ℕ) → k * 1 + 0 ≡ k
alone_place k = omega arith

value_opened : (status : ℕ → Status) (k p : ℕ) → p < k → value_of (opening_settlements status 1 0 k) p ≡ or_else (opening_value (status p)) Draw
value_opened status k p low =
    subst (λ (q : ℕ). value_of (opening_settlements status 1 0 k) q ≡ or_else (opening_value (status q)) Draw) (alone_place p)
    (opened_value 1 0 (omega arith) status k p low)

-- ---- the node

module _ (family : Family) (openings : List Opening) (node : NodeView) (are : AreOpenings family openings) (opened : IsOpened openings family 0 1 node)
    (sound : IsSound node) where
  abbrev pub classes : ℕ
  classes = classes_of family

  abbrev pub status : ℕ → Status
  status = opening_status openings

  abbrev pub h : List Settlement
  h = opening_settlements status 1 0 classes

  own : (class : ℕ) → class < classes → IsOwn node.share class
  own class low = (sound.kept.owned class).1 (rw (opened.of.2, opened.of.1, opened.of.0) (one_owner class, low))

  is_opening : (class : ℕ) → class < classes → IsOpening family.profile (class_setup family class) (opening_of openings class)
  is_opening class low = listed_opening family openings class are low

  -- as many places as classes
  all_places : places_of node.share ≡ classes
  all_places = grind (arith, opened.places (places_of node.share), opened.places classes, are.whole)

  history_is : node.history.settlements ≡ h
  history_is = opened.history ∙ ap (λ k. opening_settlements status 1 0 k) all_places

  cell_is : (p : ℕ) → p < classes → SameCell (cells_below classes node.share p) (fresh (length (moves_of family.profile (class_setup family p))))
  cell_is p low = rw (cell_below classes node.share p low) (rw (is_opening p low).moves at (opened.cells p (own p low)))

  value_is : (p : ℕ) (s : Status) → p < classes → HasStatus family.profile (class_setup family p) s → value_of h p ≡ or_else (opening_value s) Draw
  value_is p s low is = value_opened status classes p low
      ∙ ap (λ st. or_else (opening_value st) Draw) (one_status family.profile (class_setup family p) (status p) s (is_opening p low).status is)

  at_zero : (P : ℕ → List Settlement → Type 0) → P 0 h → (i : ℕ) → i < 1 → P i (alone_history h i)
  at_zero P base zero low = base
  at_zero P base (suc i) low = absurd (omega arith)

  chained : (i : ℕ) → i < 1 → IsChained classes 1 i (alone_history h i)
  chained = at_zero (λ i xs. IsChained classes 1 i xs)
      (opened_chained 1 0 (omega arith) status classes classes (λ q less. let same : q * 1 + 0 ≡ q = alone_place q in omega arith))

  falls : HaveFalls family 1 (alone_history h) (cells_below classes node.share)
  falls = falls_start family 1 (alone_history h) (cells_below classes node.share) chained
      (at_zero (λ i xs. All (λ (s : Settlement). IsFirst s.now) xs) (opened_first status 1 0 classes))
      (λ class low. fresh_within classes (length (moves_of family.profile (class_setup family class))) (cells_below classes node.share class) (cell_is class low))

  none_at : (i j : ℕ) → alone_applied [] i j ≡ []
  none_at i j = grind arith

  lawful : AreLawfulNodes family 1 (alone_history h) (alone_applied []) (cells_below classes node.share) (value_of h)
  lawful = record {
    chained = chained;
    entries = at_zero (λ i xs. All (λ (s : Settlement). IsEntry s.now) xs) (opened_entries 1 0 (omega arith) status classes);
    begun = λ i j low_i low_j. (items_from (predecessors family) 1 j (alone_history h i), rw (none_at i j) refl);
    sums = λ p low is. SumsUp-same (known_of family 1 (alone_history h) (alone_applied []) p) (cells_below classes node.share p)
        (fresh (length (moves_of family.profile (class_setup family p)))) (cell_is p low)
        (start_sums family p low 1 (alone_history h) (λ i. alone_applied [] i (owner_of 1 p)) (λ i. none_at i (owner_of 1 p)));
    cell_values = λ p low is. rw (value_is p Open low is) (CellValue-same (cells_below classes node.share p) _ Draw (cell_is p low)
        (refl, inr (λ plies. refl)));
    over = λ p s low is closed. rw (value_is p s low is) (closed_follows s closed);
    values = λ p low. ap (λ k. value_of (alone_history h k) p) (sym (one_owner p));
  }

  pub alone_opened : IsAlone node []
  alone_opened = record {
    sound = sound;
    alone = (opened.of.2, opened.of.1);
    statuses = λ class low. rw (opened.of.0, opened.statuses class (own class (rw opened.of.0 at low))) (is_opening class (rw opened.of.0 at low)).status;
    emitted = rw (opened.nothing.0, opened.nothing.1) refl;
    lawful = rw (opened.of.0, history_is) lawful;
    falls = rw (opened.of.0, history_is) falls;
  }

  pub made_none : HasMade 0 node
  made_none = (
    [],
    alone_opened,
    ap (λ (k : ℕ). k + 0) opened.nothing.0,
    subst (λ st. HasCome st 0 node) (sym opened.of.0) (openings, are, opened, sound),
  )
