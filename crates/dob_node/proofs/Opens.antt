-- A node as it is opened: what its share then has.
use Rattle.dob_node.proofs.Common.{◌*◌, ◌+◌, ◌/◌, ◌<◌, ◌↔◌, ◌∙◌, ◌≡◌, AreKept, AreOpenings, Family, HasParities, HistoryView, IsNewShare, IsOwn, List}
use Rattle.dob_node.proofs.Common.{Opening, SameCell, Settlement, Share, ap, arith, cell_at, class_of_place, class_setup, classes_of, div-mul-add, fresh}
use Rattle.dob_node.proofs.Common.{length, mod-mul-add, opening_of, opening_settlements, opening_status, places_of, refl, start_status, starts_of}
use Rattle.dob_node.proofs.Common.{status_at, subst, sym, ℕ}
use Rattle.dob_rank.proofs.OfFamilies.ClassBounds.{classes_of-below}
use Rattle.dob_history.proofs.Starts.{all_started, parities_same, start_length, starts_are}
use Rattle.dob_history.proofs.Opens.{listed_opening, moves_open, twelve_squares}

fresh_parities : (moves : ℕ) → HasParities (fresh moves)
fresh_parities moves = grind arith

-- ---- a share as it is opened

module _ {openings : List Opening} {n id : ℕ} {share : Share} (new : IsNewShare openings n id share) (less : id < n) where
  place_own : (place : ℕ) → place < places_of share → IsOwn share (place * n + id)
  unfolding IsOwn places_of
  place_own place low = rw (new.who.1, new.who.0, div-mul-add place n id less) (mod-mul-add place n id less, low)

  own_place : (place : ℕ) → IsOwn share (place * n + id) → place < places_of share
  unfolding IsOwn places_of
  own_place place own = rw (new.who.1, div-mul-add place n id less) at own.1

  -- the places are those of the owner's classes
  pub places_are : (place : ℕ) → (place < places_of share) ↔ (place * n + id < length openings)
  places_are place =
      let owned = new.owned (place * n + id) in
      (λ low. (owned.0 (place_own place low)).1, λ low. own_place place (owned.1 (mod-mul-add place n id less, low)))

  -- what is listed of its classes are their statuses
  status_listed : (place : ℕ) → place < places_of share → start_status share.statuses place ≡ opening_status openings (class_of_place n id place)
  unfolding status_at
  status_listed place low =
      ap (λ (k : ℕ). start_status share.statuses k) (sym (div-mul-add place n id less))
      ∙ subst (λ (m : ℕ). start_status share.statuses ((place * n + id) / m) ≡ (opening_of openings (place * n + id)).status) new.who.1
      (new.statuses (place * n + id) (place_own place low))

  -- those settled at the start are the settlements of the opening
  pub share_opened : starts_of n id share.statuses ≡ opening_settlements (opening_status openings) n id (places_of share)
  unfolding places_of
  share_opened = starts_are (start_status share.statuses) (opening_status openings) n id share.statuses.places status_listed

  -- its cells
  pub opened_cells : (family : Family) → AreOpenings family openings → (class : ℕ) → IsOwn share class →
      SameCell (cell_at share class) (fresh (opening_of openings class).moves)
  opened_cells family are class own =
      let low : class < classes_of family = rw are.whole at ((new.owned class).0 own).1 in
      let is = listed_opening family openings class are low in
      rw (moves_open family.profile (class_setup family class) (opening_of openings class).status (opening_of openings class).moves
      (twelve_squares family class low) is.status is.moves) at (new.cells class own)

  pub opened_kept : (family : Family) (history : HistoryView) → AreOpenings family openings →
      history ≡ record { id = id; n = n; settlements = opening_settlements (opening_status openings) n id (places_of share); room = 0 } →
      AreKept family n id share history
  opened_kept family history are is = subst (λ v. AreKept family n id share v) (sym is) (record {
    share_is = (new.who.1, new.who.0);
    history_is = (refl, refl);
    one_of_n = less;
    few = omega (arith, classes_of-below family);
    owned = λ class. rw are.whole at (new.owned class);
    counted = new.settled ∙ sym (start_length (λ place. opening_status openings (class_of_place n id place)) n id (places_of share));
    classes = all_started (λ (s : Settlement). s.class < classes_of family) (λ place. opening_status openings (class_of_place n id place)) n id
        (places_of share) (λ place number now low is. rw are.whole at ((places_are place).0 low));
    parities = λ class own. parities_same (opened_cells family are class own) (fresh_parities (opening_of openings class).moves);
  })
