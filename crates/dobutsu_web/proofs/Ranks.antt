-- What ranks stand for: the position of each, and the entries of the list.
use Rattle.dobutsu_web.proofs.Common.{◌+◌, ◌-◌, ◌<◌, ◌↔◌, ◌∙◌, ◌≡◌, ◌≢◌, Contains, IsTrue, List, ap, arith, inl, inr, length, nat_eq, refl, slice_index, subst}
use Rattle.dobutsu_web.proofs.Common.{sym, ℕ, nat_tests, Family, Setup}
use Rattle.dobutsu_web.proofs.Common.{HasClass, IsPositionOf, IsRepresentative, Entry, AreRanks, entries_by, entry_by, ranked_setup}
use Rattle.std.specs.Prelude.{IfSome, None, Option, Some}
use Rattle.std.specs.List.Sorted.{IsStrictlyIncreasing}
use Rattle.std.proofs.lemmas.List.FromFn.{length-map-range_with_len, get_or-map-range_with_len}
use Rattle.dob_rank.specs.ClassRows.{marked_place}
use Rattle.dob_rank.specs.Families.{IsInClass, is_present, class_number, classes_of, size_of, rank_of}
use Rattle.dob_rank.specs.Marks.{marks_below}
use Rattle.dob_rank.specs.Numbers.{nth, rank_of_set, size_of_set}
use Rattle.dob_rank.specs.Order.{IsFirstOfTwo, RepresentativeOf}
use Rattle.dob_rank.proofs.Marked.Marks.{numbering}
use Rattle.dob_rank.proofs.Marked.Representatives.{IsPlaceOf, place_found}
use Rattle.dob_rank.proofs.OfFamilies.FamilyOrder.{rank_of-same}
use Rattle.dob_rank.proofs.OfFamilies.Present.{HasClasses-classes_of, allowed, HasClass-marked}
use Rattle.dob_classes.proofs.OfFamilies.FamilyNumbers.{IsInClass-class_number, class_number-below, class_number-mirrored, class_number-representative}
use Rattle.dob_classes.proofs.OfFamilies.FamilyRepresentatives.{class_setup_only, one_class, one_of_class, same_representative}
use Rattle.dob_certificate.specs.Ascending.{listed_entry}
use Rattle.dob_certificate.specs.Listed.{IsEntryFor, IsEntryOf}
use Rattle.dob_certificate.specs.Lists.{IsFirstBroken}
use Rattle.dob_certificate.specs.declared.list_kind.ListKind.{ListKind}
use Rattle.dob_certificate.proofs.Orders.{no_entry, one_place}

-- ---- the position of a rank
pub record IsOfRank (family : Family) (rank : ℕ) (p : Setup) : Type 0 where
  pub position : IsPositionOf family p
  pub rank_is : rank_of family p ≡ rank

pub ranked_is : (family : Family) (rank : ℕ) → rank < size_of family → IsOfRank family rank (ranked_setup family rank)
unfolding ranked_setup size_of rank_of
ranked_is family rank below =
    let place = marked_place (is_present family) rank (size_of_set family.set) in
    let found : IsPlaceOf (is_present family) rank (size_of_set family.set) place = place_found (is_present family) rank (size_of_set family.set) below in
    let is = (numbering family.set).sound place found.below in
    let back : rank_of_set family.set (nth family.set place) ≡ place = (numbering family.set).forth place found.below in
    record {
      position = allowed family (nth family.set place) is (ap (is_present family) back ∙ found.marked);
      rank_is = ap (marks_below (is_present family)) back ∙ found.before;
    }

pub ranked_only : (family : Family) (rank : ℕ) (p : Setup) → rank < size_of family → IsPositionOf family p → rank_of family p ≡ rank → p ≡ ranked_setup family rank
ranked_only family rank p below is same =
    let there = ranked_is family rank below in
    rank_of-same family p (ranked_setup family rank) is there.position (same ∙ sym there.rank_is)

-- ---- the class of a representative
pub has_class : (family : Family) (p : Setup) → IsRepresentative family p → HasClass family p (class_number family p)
has_class family p is = subst (HasClass family p) (sym (class_number-representative family p is.0 is.1)) (HasClass-marked family p is.0)

-- the earlier of a position and its mirror image is of the same class
pub class_of_earlier : (family : Family) (p earlier : Setup) → IsPositionOf family p → RepresentativeOf p earlier → class_number family earlier ≡ class_number family p
class_of_earlier family p earlier is represents = elim represents.0 [
  | inl same ↦ ap (class_number family) same
  | inr image ↦ ap (class_number family) image ∙ class_number-mirrored family p is
]

-- the position of a rank is a representative just where the earlier of it and its mirror image has that rank
pub first_by : (family : Family) (rank : ℕ) (p earlier : Setup) → rank < size_of family → IsPositionOf family p → rank_of family p ≡ rank →
    RepresentativeOf p earlier → IsPositionOf family earlier → (n : ℕ) → n ≡ rank_of family earlier → IsTrue (nat_eq n rank) ↔ IsFirstOfTwo (ranked_setup family rank)
first_by family rank p earlier below is rank_is stands earlier_is n n_is =
    let there : p ≡ ranked_setup family rank = ranked_only family rank p below is rank_is in (
      λ shown.
          let same : n ≡ rank = grind (arith, nat_tests, shown) in
          let one : earlier ≡ p = rank_of-same family earlier p earlier_is is (sym n_is ∙ same ∙ sym rank_is) in
          subst IsFirstOfTwo (one ∙ there) stands.1,
      λ first.
          let itself : RepresentativeOf p p = (inl refl, subst IsFirstOfTwo (sym there) first) in
          let one : earlier ≡ p = same_representative family p earlier p is stands itself in
          let same : n ≡ rank = n_is ∙ ap (rank_of family) one ∙ rank_is in
          grind (arith, nat_tests, same),
    )

-- ---- ascending ranks
pub ascending : (family : Family) (ranks plies : List ℕ) → AreRanks family ranks plies → IsStrictlyIncreasing ranks
ascending family ranks plies are = λ k within.
    let above = (are.each (k + 1) within).above (omega arith) in
    let before : k + 1 - 1 ≡ k = omega arith in
    subst (λ j. slice_index ranks j < slice_index ranks (k + 1)) before above

-- ---- the entries that they stand for

module _ (family : Family) (ranks plies : List ℕ) where
  pub length-entries : length ranks ≡ length (entries_by family ranks plies)
  length-entries = sym (length-map-range_with_len (entry_by family ranks plies) 0 (length ranks))

  pub within_ranks : (place : ℕ) → place < length (entries_by family ranks plies) → place < length ranks
  within_ranks place within = subst (λ n. place < n) (sym length-entries) within

  pub entry_there : (place : ℕ) → place < length ranks → Contains (entries_by family ranks plies) (entry_by family ranks plies place)
  entry_there place within = (
    place,
    subst (λ n. place < n) (sym (length-map-range_with_len (entry_by family ranks plies) 0 (length ranks))) within,
    get_or-map-range_with_len (entry_by family ranks plies) 0 (length ranks) place place (entry_by family ranks plies place) within (omega arith),
  )

  pub record IsEntryAt (entry : Entry) (place : ℕ) : Type 0 where
    pub within : place < length ranks
    pub is : entry_by family ranks plies place ≡ entry

  pub entry_from : (entry : Entry) → Contains (entries_by family ranks plies) entry → (place : ℕ) × IsEntryAt entry place
  entry_from entry there =
      let within : there.0 < length ranks = subst (λ n. there.0 < n) (length-map-range_with_len (entry_by family ranks plies) 0 (length ranks)) there.1 in (
        there.0,
        record {
          within = within;
          is = sym (get_or-map-range_with_len (entry_by family ranks plies) 0 (length ranks) there.0 there.0 entry within (omega arith)) ∙ there.2;
        },
      )

-- the place of an entry that isn't supported is that of a rank
pub broken_within : (kind : ListKind) (family : Family) (ranks plies : List ℕ) (found : Option ℕ) →
    IsFirstBroken kind family (entries_by family ranks plies) found → IfSome found (λ place. place < length ranks)
broken_within kind family ranks plies None broken = tt
broken_within kind family ranks plies (Some place) broken = within_ranks family ranks plies place broken.within

module _ (family : Family) (ranks plies : List ℕ) (are : AreRanks family ranks plies) where
  -- at each place stands a representative
  pub representative_at : (place : ℕ) → place < length ranks → IsRepresentative family (ranked_setup family (slice_index ranks place))
  representative_at place within =
      let at = are.each place within in
      ((ranked_is family (slice_index ranks place) at.below).position, at.first)

  -- it stands for the entry there
  pub stands_for : (place : ℕ) → place < length ranks →
      IsEntryOf family (listed_entry (entries_by family ranks plies) place) (ranked_setup family (slice_index ranks place)) (slice_index plies place)
  stands_for place within =
      let p = ranked_setup family (slice_index ranks place) in
      let is = representative_at place within in
      let below = class_number-below family p is.0 in
      rw (get_or-map-range_with_len (entry_by family ranks plies) 0 (length ranks) place place no_entry within (omega arith)) (record {
        within = below;
        represents = is;
        setup = class_setup_only family p (class_number family p) (classes_of family) (HasClasses-classes_of family) below is (has_class family p is);
        plies_are = refl;
      })

  module _ (q earlier : Setup) (is : IsPositionOf family q) (stands : RepresentativeOf q earlier) (earlier_is : IsPositionOf family earlier) where
    -- where the position is in the class of an entry, the entry's rank is that of the earlier of the position and its mirror image
    pub place_is : (place : ℕ) → place < length ranks → IsInClass family q (entry_by family ranks plies place).class → slice_index ranks place ≡ rank_of family earlier
    place_is place within in_class =
        let there = ranked_setup family (slice_index ranks place) in
        let represents = representative_at place within in
        let class_q : class_number family there ≡ class_number family q =
        one_class family q (class_number family there) (class_number family q) in_class (IsInClass-class_number family q is) in
        let class_e : class_number family earlier ≡ class_number family there = class_of_earlier family q earlier is stands ∙ sym class_q in
        let same : there ≡ earlier = one_of_class family there earlier (class_number family there) represents (earlier_is, stands.1) (has_class family there represents)
        (subst (HasClass family earlier) class_e (has_class family earlier (earlier_is, stands.1))) in
        sym ((ranked_is family (slice_index ranks place) (are.each place within).below).rank_is) ∙ ap (rank_of family) same

    -- and the other way round
    pub stands_at : (place : ℕ) → place < length ranks → slice_index ranks place ≡ rank_of family earlier → IsInClass family q (entry_by family ranks plies place).class
    stands_at place within same =
        let there = ranked_setup family (slice_index ranks place) in
        let is_there : earlier ≡ there = ranked_only family (slice_index ranks place) earlier (are.each place within).below earlier_is (sym same) in
        subst (IsInClass family q) (sym (class_of_earlier family q earlier is stands) ∙ ap (class_number family) is_there) (IsInClass-class_number family q is)

    pub none_for : ((place : ℕ) → place < length ranks → slice_index ranks place ≢ rank_of family earlier) →
        (entry : Entry) → ¬ IsEntryFor family (entries_by family ranks plies) q entry
    none_for none entry found =
        let at = entry_from family ranks plies entry found.listed in
        none at.0 at.1.within (place_is at.0 at.1.within (subst (λ (e : Entry). IsInClass family q e.class) (sym at.1.is) found.stands))

    pub entry_for : (place : ℕ) → place < length ranks → slice_index ranks place ≡ rank_of family earlier →
        IsEntryFor family (entries_by family ranks plies) q (entry_by family ranks plies place)
    entry_for place within same = record { listed = entry_there family ranks plies place within; stands = stands_at place within same }

    pub alone_for : (place : ℕ) → place < length ranks → slice_index ranks place ≡ rank_of family earlier →
        (other : Entry) → IsEntryFor family (entries_by family ranks plies) q other → entry_by family ranks plies place ≡ other
    alone_for place within same other found =
        let at = entry_from family ranks plies other found.listed in
        let there : slice_index ranks at.0 ≡ rank_of family earlier =
        place_is at.0 at.1.within (subst (λ (e : Entry). IsInClass family q e.class) (sym at.1.is) found.stands) in
        let one : place ≡ at.0 = one_place (λ (x : ℕ). x) 0 ranks (ascending family ranks plies are) place at.0 within at.1.within (same ∙ sym there) in
        ap (entry_by family ranks plies) one ∙ at.1.is
