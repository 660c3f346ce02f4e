-- The classes that a position adds, and its mirror image.
use Rattle.dob_unmove.proofs.Common.{◌++◌, ◌∙◌, ◌∷◌, ◌≡◌, ◌≢◌, Bool, List, None, Option, Some, [], append-nil, false, inl, inr, length, option_to_list, refl}
use Rattle.dob_unmove.proofs.Common.{subst, sym, true, ℕ, MatchOption, IsLegal, mirrored, A, Family, Setup, HasStatus, Open, IsEither, Finds, IsNumbering}
use Rattle.dob_unmove.proofs.Common.{RepresentsClass, IsPositionOf, IsPositionOf-mirrored}
use Rattle.dob_pieces.proofs.Boards.{IsLegal-mirrored}
use Rattle.dob_pieces.proofs.Symmetries.{mirrored-mirrored}
use Rattle.dob_rank.specs.Families.{IsInClass}
use Rattle.dob_classes.proofs.OfFamilies.FamilyRepresentatives.{class_representative, one_of_either}
use Rattle.dob_unmove.proofs.Gathering.{finds_from}
use Rattle.dob_unmove.specs.Gathers.{AddsClasses, Appends, FindsImage, OfImage}

-- what the mirror images represent is a numbering too
module _ (Represents : Setup → ℕ → Type 0) (n : IsNumbering Represents) where
  twice : (p : Setup) (class : ℕ) → OfImage Represents p class → mirrored (mirrored p) ≡ p
  twice p class is = mirrored-mirrored p is.0

  either_image : (p q : Setup) → IsEither p q → IsEither (mirrored p) (mirrored q)
  either_image p q (inl same) = inl (λ i. mirrored (same i))
  either_image p q (inr image) = inr (λ i. mirrored (image i))

  pub IsNumbering-images : IsNumbering (OfImage Represents)
  IsNumbering-images = record {
    legal = λ p class is. subst IsLegal (twice p class is) (IsLegal-mirrored (mirrored p) (n.legal (mirrored p) class is.1));
    one_number = λ p q a b first second either. n.one_number (mirrored p) (mirrored q) a b first.1 second.1 (either_image p q either);
    one_represents = λ p q class first second.
        sym (twice p class first) ∙ (λ i. mirrored (n.one_represents (mirrored p) (mirrored q) class first.1 second.1 i)) ∙ twice q class second;
  }

nothing_more : (xs : List ℕ) → xs ≡ (xs ++ []) ++ []
nothing_more xs = sym (append-nil (xs ++ []) ∙ append-nil xs)

-- one that is no open position of the family adds nothing
module _ (family : Family) (p : Setup) (absent : IsPositionOf family p → ¬ HasStatus A p Open) where
  no_image : (own : Bool) → FindsImage own (RepresentsClass family) p None
  no_image true = refl
  no_image false = λ w.
      absent (subst (λ (s : Setup). IsPositionOf family s) (mirrored-mirrored p w.1.0.0) (IsPositionOf-mirrored family (mirrored p) w.1.0.1.0.0)) w.1.1

  pub adds_none : (own : Bool) (xs : List ℕ) → AddsClasses own (RepresentsClass family) p xs xs
  adds_none own xs = record {
    found = None;
    image = None;
    first = λ w. absent w.1.0.0.0 w.1.1;
    second = no_image own;
    added = nothing_more xs;
  }

-- ---- one that is open
finds_image : (Represents : Setup → ℕ → Type 0) (p : Setup) (o : Option ℕ) → length p.board ≡ 12 → HasStatus A p Open
    → MatchOption o (¬ ((class : ℕ) × Represents (mirrored p) class)) (Represents (mirrored p)) → Finds (OfImage Represents) p o
finds_image Represents p None long has h = λ w. h (w.0, w.1.0.1)
finds_image Represents p (Some class) long has h = ((long, h), has)

-- itself alone
pub adds_itself : (Represents : Setup → ℕ → Type 0) (p : Setup) (old new : List ℕ) → HasStatus A p Open → Appends Represents p old new
    → AddsClasses true Represents p old new
adds_itself Represents p old new has step = record {
  found = step.0;
  image = None;
  first = finds_from Represents p p step.0 refl has step.1;
  second = refl;
  added = step.2 ∙ sym (append-nil (old ++ option_to_list step.0));
}

-- each of both
pub adds_each : (Represents : Setup → ℕ → Type 0) (p : Setup) (old mid new : List ℕ) → length p.board ≡ 12 → HasStatus A p Open
    → Appends Represents p old mid → Appends Represents (mirrored p) mid new → AddsClasses false Represents p old new
adds_each Represents p old mid new long has first second = record {
  found = first.0;
  image = second.0;
  first = finds_from Represents p p first.0 refl has first.1;
  second = finds_image Represents p second.0 long has second.1;
  added = second.2 ∙ (λ i. first.2 i ++ option_to_list second.0);
}

-- one of both, where they aren't the same
module _ (family : Family) (p : Setup) (class : ℕ) (old new : List ℕ) (is : IsInClass family p class) (other : mirrored p ≢ p) (has : HasStatus A p Open)
    (pushed : new ≡ old ++ class ∷ []) where
  long : length p.board ≡ 12
  long = is.position.of_set.legal.squares

  pub adds_one : AddsClasses false (RepresentsClass family) p old new
  adds_one =
      let stands = class_representative family p class is in
      elim is.stands.0 [
        | inl same ↦
            let here = subst (λ (s : Setup). RepresentsClass family s class) same stands in
            record {
              found = Some class;
              image = None;
              first = (here, has);
              second = λ w. other (one_of_either family p (mirrored p) here.0 w.1.0.1.0 (inr refl));
              added = pushed ∙ sym (append-nil (old ++ class ∷ []));
            }
        | inr image ↦
            let there = subst (λ (s : Setup). RepresentsClass family s class) image stands in
            record {
              found = None;
              image = Some class;
              first = λ w. other (one_of_either family p (mirrored p) w.1.0.0 there.0 (inr refl));
              second = ((long, there), has);
              added = pushed ∙ (λ i. sym (append-nil old) i ++ class ∷ []);
            }
      ]
