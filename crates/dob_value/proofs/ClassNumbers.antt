-- Each position of a family has one entry in a table of the family, and the outlook of its representative.
use Rattle.dob_value.proofs.Common.{◌<◌, ◌∙◌, ◌≡◌, List, Some, inl, inr, length, slice_get, subst, sym, ℕ, same_Some, Family, Profile, Setup, HasClass-marked}
use Rattle.dob_value.proofs.Common.{HasClasses, IsPositionOf, marks_below, rank_of_set, SameOutlook, HasInTable, Value}
use Rattle.dob_pieces.proofs.Elements.{some_at}
use Rattle.dob_rank.specs.Order.{RepresentativeOf}
use Rattle.dob_rank.specs.Families.{is_marked}
pub use Rattle.dob_classes.proofs.OfFamilies.Counted.{no_longer, one_count}
pub use Rattle.dob_rank.proofs.Marked.Representatives.{not_before_itself}
pub use Rattle.dob_classes.proofs.OfFamilies.FamilyRepresentatives.{class_within, one_of_class, has_representative}
pub use Rattle.dob_classes.proofs.OfFamilies.FamilyRepresentatives.{representative_is, same_representative, represents_itself, one_class}
use Rattle.dob_distance.proofs.Images.{one_outlook}

same_outlook : (profile : Profile) (p : Setup) → SameOutlook profile p p
same_outlook profile p = record { won = λ n. (λ won. won, λ won. won); lost = λ n. (λ lost. lost, λ lost. lost) }

-- a position has the outlook of its representative
pub representative_outlook : (family : Family) (p representative : Setup) → IsPositionOf family p → RepresentativeOf p representative →
    SameOutlook family.profile p representative
representative_outlook family p representative is represents = elim represents.0 [
  | inl same ↦ subst (SameOutlook family.profile p) (sym same) (same_outlook family.profile p)
  | inr image ↦ subst (SameOutlook family.profile p) (sym image) (one_outlook family.profile p is.of_set.legal)
]

-- ---- entries

-- each position of the family has an entry
pub has_entry : (family : Family) (values : List Value) (p : Setup) → HasClasses family (length values) → IsPositionOf family p →
    (v : Value) × HasInTable family values p v
has_entry family values p classes is =
    let found = has_representative family p is in
    let represents = representative_is family p found.0 is found.1 in
    let class = marks_below (is_marked family) (rank_of_set family.set found.0) in
    let number = HasClass-marked family found.0 represents.0 in
    let within : class < length values = class_within family found.0 class (length values) represents number classes in
    entry_at values class within (λ v entry. record {
      class = class;
      number = record { position = is; representative = found.0; stands = found.1; before = number };
      entry = entry;
    })
  where
    entry_at : {P : Value → Type 0} (values : List Value) (class : ℕ) → class < length values →
        ((v : Value) → slice_get values class ≡ Some v → P v) → (v : Value) × P v
    entry_at values class below give = let v = some_at values class below in (v.0, give v.0 v.1)

-- and no other
pub one_entry : (family : Family) (values : List Value) (p : Setup) (v w : Value) → IsPositionOf family p →
    HasInTable family values p v → HasInTable family values p w → v ≡ w
one_entry family values p v w is a b =
    let same_class : b.class ≡ a.class = one_class family p b.class a.class b.number a.number in
    same_Some v w (sym a.entry ∙ subst (λ k. slice_get values k ≡ Some w) same_class b.entry)
