-- The class of a position is that of the earlier of it and its mirror image, whose block is the same.
use Rattle.dob_classes.proofs.Common.{◌∙◌, ◌≡◌, ap, inl, inr, subst, sym, ℕ, class_number, block_of, IsRow}
use Rattle.dob_rank.proofs.InRuns.RunPlaces.{block_of-mirrored}
use Rattle.dob_classes.proofs.OfFamilies.FamilyNumbers.{number_told}
use Rattle.dob_classes.proofs.OfFamilies.FamilyRepresentatives.{representative_is}
use Rattle.dob_classes.proofs.Counting.ClassesBefore.{class_of_earlier}
use Rattle.dob_classes.proofs.any_rows.class_number_by_any.Goals as goal

pub number_by_any-requires-clause-member : goal.number_by_any-requires-clause-member
number_by_any-requires-clause-member c =
    (representative_is c.args.family c.args.position.now.setup c.representative.result.setup c.requires.member c.representative.ensures.earlier).0

pub returns : goal.returns
returns c =
    let set = c.args.family.set in
    let p = c.args.position.now.setup in
    let q = c.representative.result.setup in
    let same : block_of set p ≡ block_of set q = elim c.representative.ensures.earlier.0 [
      | inl is ↦ sym (ap (block_of set) is)
      | inr is ↦ sym (ap (block_of set) is ∙ block_of-mirrored set p c.requires.member.of_set)
    ] in
    let number : IsRow c.args.family (block_of set p) c.args.row.now → c.number_by_any.result ≡ class_number c.args.family p
    = λ row. c.number_by_any.ensures (subst (λ (b : ℕ). IsRow c.args.family b c.args.row.now) same row)
    ∙ class_of_earlier c.args.family p q c.requires.member c.representative.ensures.earlier in
    record {
      class = λ row. (number_told c.args.family p _ c.requires.member (number row)).0;
      number = number;
      bound = λ row. (number_told c.args.family p _ c.requires.member (number row)).1;
    }
