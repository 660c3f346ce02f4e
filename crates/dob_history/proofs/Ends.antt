-- Lawful nodes that have applied all their items hold the value table.
use Rattle.dob_history.proofs.Common.{◌<◌, ◌∙◌, ◌≡◌, AreGathered, AreLawfulNodes, AreOpenings, Cell, Draw, Family, FollowsAtStatus, HasClasses-classes_of}
use Rattle.dob_history.proofs.Common.{HasStatus, IsEntry, IsQuiet, Item, List, Open, Opening, Settlement, Some, Status, Value, ap, arith, class_setup}
use Rattle.dob_history.proofs.Common.{class_setup_only, classes_of, eqb, get_or, items_from, known_of, length, opening_status, owner_of, predecessors, refl}
use Rattle.dob_history.proofs.Common.{representative_below, same_Some, slice_get, slice_get-get_or, subst, sym, take_all, value_of, ℕ}
use Rattle.dob_history.proofs.Opens.{listed_opening}
use Rattle.dob_history.specs.Laws.{LawfulIsRight}
use Rattle.dob_history.proofs.Rest.{below_owner, quiet_is_right}
use Rattle.dob_history.proofs.Kept.{last_now-entry}
use Rattle.dob_history.proofs.ValuesFollow.{value_follows}
use Rattle.dob_history.proofs.Totals.{some_known}

module _ (family : Family) (n : ℕ) (histories : ℕ → List Settlement) (applied : ℕ → ℕ → List Item) (cell : ℕ → Cell) (value : ℕ → Value)
    (openings : List Opening) (some : 0 < n) (are : AreOpenings family openings) (lawful : AreLawfulNodes family n histories applied cell value)
    (all : (i j : ℕ) → i < n → j < n → applied i j ≡ items_from (predecessors family) n j (histories i)) where
  open_follows : (class : ℕ) → class < classes_of family → (status : Status) → HasStatus family.profile (class_setup family class) status →
      FollowsAtStatus status (known_of family n histories applied class) (value_of (histories (owner_of n class)) class)
  open_follows class below Open is =
      subst (λ v. FollowsAtStatus Open (known_of family n histories applied class) v) (lawful.values class below)
      (value_follows (known_of family n histories applied class) (cell class) (value class) (lawful.sums class below is)
      (some_known family class below n histories (λ i. applied i (owner_of n class)) is) (lawful.cell_values class below is))
  open_follows class below status is = sym (lawful.values class below) ∙ lawful.over class status below is (λ same. cc)

  quiet : IsQuiet family (predecessors family) n histories (λ i. length (histories i)) (λ i j. items_from (predecessors family) n j (histories i)) applied
  quiet = record {
    nothing_to_expand = λ i low. refl;
    nothing_to_send = λ i j low_i low_j.
        ap (λ h. items_from (predecessors family) n j h) (sym (take_all (length (histories i)) (histories i) (omega arith)));
    nothing_waits = all;
    values = λ p class represents.
        let below = representative_below family p class represents in
        let opening = listed_opening family openings class are below in
        let same = class_setup_only family p class (classes_of family) (HasClasses-classes_of family) below represents.0 represents.1 in (
          opening_status openings class,
          rw same opening.status,
          open_follows class below (opening_status openings class) opening.status,
        );
  }

  gathered : (values : List Value) → length values ≡ classes_of family →
      ((class : ℕ) → class < classes_of family → slice_get values class ≡ Some (value class)) → AreGathered family n histories values
  gathered values whole each = record {
    whole = whole;
    entries = λ k d below.
        let low : k < classes_of family = subst (λ m. k < m) whole below in
        let there = slice_get-get_or values k d below in
        let is : get_or values k d ≡ value_of (histories (owner_of n k)) k =
        same_Some (get_or values k d) (value k) (sym there ∙ each k low) ∙ lawful.values k low in
        subst IsEntry (sym is)
        (last_now-entry (λ s. eqb s.class k) Draw (histories (owner_of n k)) tt (lawful.entries (owner_of n k) (below_owner n k some)));
    each = λ class below. each class below ∙ ap Some (lawful.values class below);
  }

pub lawful_is_right : LawfulIsRight
lawful_is_right family n histories applied cell value openings values some are lawful all whole each =
    quiet_is_right family n histories (λ i. length (histories i)) (λ i j. items_from (predecessors family) n j (histories i)) applied values some
    (quiet family n histories applied cell value openings some are lawful all)
    (gathered family n histories applied cell value openings some are lawful all values whole each)
